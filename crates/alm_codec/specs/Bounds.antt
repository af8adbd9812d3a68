-- For the proofs.
-- What remains of a bound.
use Rattle.std.specs.Prelude.{ℕ, ◌-◌, Option, Some, None, nat_le, if◌then◌else◌}

-- a bound less a number, none if the number is above it
abbrev pub under : ℕ → ℕ → Option ℕ
under bound n = if nat_le n bound then Some (bound - n) else None
