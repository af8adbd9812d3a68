use Rattle.std.proofs.Common.{◌≡◌, ◌-◌, length, filter}
use Rattle.std.specs.List.{range_with_len}
use Rattle.alm_model.specs.Measured.{is_measured}
use Rattle.alm_model.proofs.alarms_by_number.first_from.Given as goal

-- none of those between is in the list
abbrev pub invariant-loop-i : goal.invariant-loop-i
invariant-loop-i l =
    filter (is_measured l.list l.now l.attrs l.rows l.moments) (range_with_len l.from (length l.rows - l.from))
    ≡ filter (is_measured l.list l.now l.attrs l.rows l.moments) (range_with_len l.i (length l.rows - l.i))
