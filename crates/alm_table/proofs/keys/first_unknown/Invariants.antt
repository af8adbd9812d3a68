use Rattle.std.proofs.Common.{◌≡◌}
use Rattle.toml.specs.View.{members_view, table_view}
use Rattle.alm_table.specs.TableFile.{first_unknown, is_key}
use Rattle.alm_table.proofs.keys.first_unknown.Given as goal

abbrev pub invariant-loop-key : goal.invariant-loop-key
invariant-loop-key l =
    (goal.iterator-loop-key).can_next l.key-iterator ×
    (goal.iterator-loop-key).is_finite l.key-iterator ×
    (first_unknown (is_key l.fn.alarm) (members_view l.key-iterator) ≡ first_unknown (is_key l.fn.alarm) (table_view l.table))
