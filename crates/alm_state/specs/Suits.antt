-- How a row agrees with the attributes of its alarm and with the clock.
use Rattle.std.specs.Prelude.{ℕ, ◌+◌, ◌<◌, ◌≤◌, Bool, true, false, Option, Some, None}
use Rattle.alm_state.specs.declared.core_state.Core.{Core}
use Rattle.alm_state.specs.declared.core_state.Core.TheVariants.{Normal, Unack, Acked, RtnUnack, LatchUnack, LatchAcked}

-- a latching alarm is never in RtnUnack, another never in LatchUnack or LatchAcked
abbrev pub suits : Bool → Core → Bool
suits latching Normal = true
suits latching Unack = true
suits latching Acked = true
suits true RtnUnack = false
suits false RtnUnack = true
suits latching LatchUnack = latching
suits latching LatchAcked = latching

-- a deadline is above now, by at most the longest shelving
abbrev pub IsAhead : ℕ → ℕ → Option ℕ → Type 0
IsAhead now longest None = Unit {0}
IsAhead now longest (Some deadline) = (now < deadline) × (deadline ≤ now + longest)
