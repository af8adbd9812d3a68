-- For the proofs.
-- What is left of a list by number.
use Rattle.std.specs.Prelude.{ℕ, ◌-◌, ◌≤◌, ◌≡◌, List, filter, length}
use Rattle.std.specs.List.{range_with_len}
use Rattle.alm_model.specs.Measured.{is_measured}
use Rattle.alm_model.specs.declared.alarms_by_number.AlarmsByNumber.TheInside.{Inside}
use Rattle.alm_types.specs.Sizes.{most_alarms}

-- those of the list that have not been visited
abbrev pub alarms_left : Inside → List ℕ
alarms_left n = filter (is_measured n.list n.now n.attrs.now n.rows.now n.moments.now) (range_with_len n.at (length n.rows.now - n.at))

-- attributes, rows and last moments of the same alarms
pub record IsInStep (n : Inside) : Type 0 where
  pub attrs : length n.attrs.now ≡ length n.rows.now
  pub moments : length n.moments.now ≡ length n.rows.now
  pub few : length n.rows.now ≤ most_alarms
  pub within : n.at ≤ length n.rows.now
