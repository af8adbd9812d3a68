-- The count of failures.
use Rattle.std.specs.Prelude.{◌≡◌, ◌⊎◌, ◌<◌, ◌≤◌, ◌+◌, ◌-◌, ◌^◌, ℕ, min, Result, OnOk, OnErr}

-- the value at which the count stays
abbrev pub last_count : ℕ
last_count = 2 ^ 64 - 1

-- the device failed between: its count rose, or was at its last value
abbrev pub HasFailed : ℕ → ℕ → Type 0
HasFailed before now = (before < now) ⊎ (before ≡ last_count)

-- a call's fault is counted, up to the last value, and nothing else is
pub record CountsFault {E : Type 0} (result : Result Unit E) (before now : ℕ) : Type 0 where
  pub limit : before ≤ last_count
  pub done : OnOk result (now ≡ before)
  pub fault : OnErr result (now ≡ min (before + 1) last_count)
