-- The slots that an open batch awaits.
use Rattle.std.specs.Prelude.{◌≡◌, Bool, ℕ, List, Some, replicate, slice_get, true, false}
use Rattle.alm_wake.specs.declared.gathering.Gathering.{Gathering}
use Rattle.alm_types.specs.Sizes.{slot_count}

-- none of the slots
abbrev pub nobody : List Bool
nobody = replicate slot_count false

-- the slot was answered by the batch before, and has none in the open one
abbrev pub Awaits : Gathering → ℕ → Type 0
Awaits g s = (slice_get g.answered s ≡ Some true) × (slice_get g.joined s ≡ Some false)

abbrev pub AwaitsSome : Gathering → Type 0
AwaitsSome g = (s : ℕ) × Awaits g s

abbrev pub AwaitsNone : Gathering → Type 0
AwaitsNone g = (s : ℕ) → Awaits g s → ⊥
