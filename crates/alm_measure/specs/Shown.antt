-- The metrics that a measure holds, and what is true of them.
use Rattle.std.specs.Prelude.{◌≡◌, ◌<◌, ◌≤◌, All, length, vec_capacity}
use Rattle.alm_measure.specs.Metrics.{Metrics}
use Rattle.alm_measure.specs.declared.measure.Measure.TheInside.{Inside}
use Rattle.alm_types.specs.Sizes.{most_alarms}

abbrev pub metrics_in : Inside → Metrics
metrics_in m = record { now = m.clock; areas = m.areas.items; ages = m.rings.items; floods = m.floods.items; moments = m.moments.items }

-- no more alarms than a table has, each in an area that exists, and each with moments; a flag for each area
pub record IsSoundMeasure (m : Metrics) : Type 0 where
  pub few : length m.areas ≤ most_alarms
  pub moments : length m.moments ≡ length m.areas
  pub floods : length m.floods ≡ length m.ages
  pub in_areas : All (λ area. area < length m.ages) m.areas

-- each vector has room for what it holds, and no more: no call takes memory
pub record IsExact (m : Inside) : Type 0 where
  pub areas : vec_capacity m.areas ≡ length m.areas.items
  pub rings : vec_capacity m.rings ≡ length m.rings.items
  pub floods : vec_capacity m.floods ≡ length m.floods.items
  pub moments : vec_capacity m.moments ≡ length m.moments.items
