-- What holds of a measure that is made.
use Rattle.std.proofs.Common.{◌≡◌, ◌<◌, map, length, sym, ◌∙◌, arith}
use Rattle.std.proofs.lemmas.List.{length-map}
use Rattle.std.proofs.lemmas.List.Elements.{All-map}
use Rattle.alm_types.specs.Tables.{Listing, IsTable}
use Rattle.alm_measure.specs.Metrics.{Metrics}
use Rattle.alm_measure.specs.Shown.{IsSoundMeasure}

-- of a table's areas
pub sound-made : (t : Listing) (m : Metrics) → IsTable t → m.areas ≡ map (λ a. a.area) t.alarms → length m.ages ≡ t.areas → length m.floods ≡ t.areas → length m.moments ≡ length t.alarms → IsSoundMeasure m
sound-made t m h areas ages floods moments =
    let alarms : length m.areas ≡ length t.alarms = rw areas (length-map t.alarms (λ a. a.area)) in
    let few = h.few in
    record {
      few = omega arith;
      moments = moments ∙ sym alarms;
      floods = floods ∙ sym ages;
      in_areas = rw (areas, ages) (All-map (λ area. area < t.areas) (λ a. a.area) t.alarms h.in_areas);
    }
