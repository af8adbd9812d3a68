-- Metrics that are counted from all annunciations.
use Rattle.std.specs.Prelude.{◌≡◌, ℕ, length, map, take}
use Rattle.std.specs.List.{range_with_len}
use Rattle.alm_model.specs.Plant.{RecordedPlant}
use Rattle.alm_model.specs.Condense.{of_age, moments_of}
use Rattle.alm_model.specs.Counted.{chattering as chattering_of}
use Rattle.alm_model.specs.Keeping.{in_full, window_of}
use Rattle.alm_measure.specs.Metrics.{Metrics, windows, chattering_by_moments}

-- a plant with one annunciation more, now
abbrev pub with_annunciation : ℕ → RecordedPlant → RecordedPlant
with_annunciation alarm p = record p { kept = in_full.note p.panel alarm p.kept }

-- metrics are what is counted from the list of all annunciations of a plant
pub record AreCounted (p : RecordedPlant) (m : Metrics) : Type 0 where
  pub now : m.now ≡ p.panel.now
  pub ages : m.ages ≡ map (λ area. map (of_age p.panel p.kept area) (range_with_len 0 600)) (range_with_len 0 (length p.floods))
  pub windows : windows m ≡ map (window_of p.panel p.kept) (range_with_len 0 (length p.floods))
  pub floods : m.floods ≡ p.floods
  pub moments : m.moments ≡ map (λ i. take 3 (moments_of p.kept i)) (range_with_len 0 (length p.panel.attrs))
  pub chattering : chattering_by_moments m ≡ chattering_of p
