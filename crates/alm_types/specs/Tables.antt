-- Tables of alarms.
use Rattle.std.specs.Prelude.{ℕ, ◌≤◌, ◌<◌, List, length, All, ◌||◌, Option, Some, option_map, position, nat_le, nat_lt, ◌==◌, if◌then◌else◌}
use Rattle.alm_types.specs.declared.attr.Attr.{Attr}
use Rattle.alm_types.specs.declared.table_fault.TableFault.{TableFault}
use Rattle.alm_types.specs.declared.table_fault.TableFault.TheVariants.{NoRows, TooManyRows, Areas, AreaOf}
use Rattle.alm_types.specs.Sizes.{most_alarms, most_areas}

-- the attributes by number, and how many areas there are
pub record Listing : Type 0 where
  pub alarms : List Attr
  pub areas : ℕ

pub record IsTable (t : Listing) : Type 0 where
  pub some : 1 ≤ length t.alarms
  pub few : length t.alarms ≤ most_alarms
  pub areas : (1 ≤ t.areas) × (t.areas ≤ most_areas)
  pub in_areas : All (λ a. a.area < t.areas) t.alarms

-- the first thing that is wrong; for the alarms, the first whose area does not exist
abbrev pub table_fault : List Attr → ℕ → Option TableFault
table_fault alarms areas =
    if length alarms == 0 then Some NoRows
    else if nat_lt most_alarms (length alarms) then Some TooManyRows
    else if (areas == 0) || nat_lt most_areas areas then Some Areas
    else option_map AreaOf (position (λ a. nat_le areas a.area) alarms)
