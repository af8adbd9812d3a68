use Rattle.std.proofs.Common.{◌≡◌, ◌<◌, ◌≤◌, ◌++◌, drop, true, Ok, map, length, All}
use Rattle.toml.specs.View.{items_view}
use Rattle.alm_table.specs.TableFile.{are_tables, read_alarms, and_then}
use Rattle.alm_table.specs.Faults.{element_of}
use Rattle.alm_table.proofs.loading.alarms_of.Given as goal

abbrev pub invariant-loop-value : goal.invariant-loop-value
invariant-loop-value l =
    (l.number ≡ l.value-index)
    × (are_tables (items_view (drop l.value-index l.array.items)) ≡ true)
    × (read_alarms 0 l.fn.areas (items_view l.array.items)
    ≡ and_then (read_alarms l.value-index l.fn.areas (items_view (drop l.value-index l.array.items))) (λ later. Ok (map element_of l.alarms.items ++ later)))
    × (length l.alarms.items ≡ l.value-index)
    × (l.value-index ≤ length l.array.items)
    × All (λ a. a.area < l.fn.areas) l.alarms.items
