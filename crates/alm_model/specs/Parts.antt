-- The plant that its parts make.
use Rattle.std.specs.Prelude.{ℕ, List, Option, Some, None, slice_get, slice_index}
use Rattle.alm_model.specs.Plant.{Condensed}
use Rattle.alm_model.specs.declared.plant_parts.PlantParts.{PlantParts}

abbrev pub plant_of : PlantParts → Condensed
plant_of p = record {
  panel = record { now = p.clock; count = p.count; next_stamp = p.next_stamp; attrs = p.attrs.items; rows = p.rows.items };
  kept = record { ages = p.ages.items; moments = p.moments.items };
  floods = p.floods.items;
}

-- how many annunciations of an area are of an age, 0 if there is no such area
abbrev pub age_in : ℕ → Option (List ℕ) → ℕ
age_in age (Some ages) = slice_index ages age
age_in age None = 0

abbrev pub age_of : Condensed → ℕ → ℕ → ℕ
age_of q area age = age_in age (slice_get q.kept.ages area)
