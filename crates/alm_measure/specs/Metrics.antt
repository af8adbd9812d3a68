-- What is measured of a plant, and what becomes of it.
use Rattle.std.specs.Prelude.{ℕ, ◌-◌, List, [], false, Bool, filter, length, map, replicate, slice_get, slice_index, sum}
use Rattle.std.specs.List.{range_with_len}
use Rattle.alm_types.specs.Tables.{Listing}
use Rattle.alm_model.specs.Plant.{Condensed}
use Rattle.alm_model.specs.Keeping.{ages_after, change, one_younger, recent}
use Rattle.alm_model.specs.Lists.{is_frequent, moments_in}
use Rattle.alm_model.specs.Step.{settled_floods}

-- the clock; the area of each alarm; for each area how many annunciations are 0, 1, .. 599 seconds old, and whether there is a
-- flood; for each alarm its last three moments, the newest first
pub record Metrics : Type 0 where
  pub now : ℕ
  pub areas : List ℕ
  pub ages : List (List ℕ)
  pub floods : List Bool
  pub moments : List (List ℕ)

-- those of a plant
abbrev pub metrics_of : Condensed → Metrics
metrics_of q = record { now = q.panel.now; areas = map (λ a. a.area) q.panel.attrs; ages = q.kept.ages; floods = q.floods; moments = q.kept.moments }

-- nothing was annunciated yet
abbrev pub new_metrics : Listing → Metrics
new_metrics t = record {
  now = 0;
  areas = map (λ a. a.area) t.alarms;
  ages = replicate t.areas (replicate 600 0);
  floods = replicate t.areas false;
  moments = replicate (length t.alarms) [];
}

-- an alarm is annunciated now
abbrev pub after_annunciation : ℕ → Metrics → Metrics
after_annunciation alarm m = record m { ages = change m.ages (slice_index m.areas alarm) one_younger; moments = change m.moments alarm (recent m.now) }

-- the clock moves to a later moment
abbrev pub after_clock : ℕ → Metrics → Metrics
after_clock t m = record m { now = t; ages = map (ages_after (t - m.now)) m.ages }

-- the window of each area: its annunciations of the last 600 seconds
abbrev pub windows : Metrics → List ℕ
windows m = map sum m.ages

-- the window of an alarm's area
abbrev pub window_around : ℕ → Metrics → ℕ
window_around alarm m = slice_index (windows m) (slice_index m.areas alarm)

-- the floods begin and end by their windows
abbrev pub settled_by_windows : Metrics → Metrics
settled_by_windows m = record m { floods = settled_floods (windows m) m.floods }

-- the alarms with three annunciations within the last minute, by number
abbrev pub chattering_at : ℕ → List (List ℕ) → List ℕ
chattering_at now moments = filter (λ i. is_frequent now (moments_in (slice_get moments i))) (range_with_len 0 (length moments))

abbrev pub chattering_by_moments : Metrics → List ℕ
chattering_by_moments m = chattering_at m.now m.moments
