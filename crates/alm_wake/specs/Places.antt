-- Where the bell of a slot stands.
use Rattle.std.specs.Prelude.{◌≡◌, ◌≢◌, ◌-◌, ◌^◌, ◌⊎◌, ℕ, List, Some, slice_get}

-- a slot's bell stands where the slot does among those that have one; past all if it isn't among them
abbrev pub IsPlaceOf : ℕ → List ℕ → ℕ → Type 0
IsPlaceOf s slots place =
    (slice_get slots place ≡ Some s) ⊎ ((place ≡ 2 ^ 64 - 1) × ((k : ℕ) → slice_get slots k ≢ Some s))
