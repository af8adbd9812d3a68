use Rattle.std.proofs.Common.{◌≡◌, drop}
use Rattle.toml.specs.View.{items_view, array_view}
use Rattle.alm_table.specs.TableFile.{are_tables}
use Rattle.alm_table.proofs.values.are_tables.Given as goal

abbrev pub invariant-loop-value : goal.invariant-loop-value
invariant-loop-value l = are_tables (array_view l.array) ≡ are_tables (items_view (drop l.value-index l.array.items))
