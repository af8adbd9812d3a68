-- Places inside a range and outside it.
use Rattle.std.proofs.Common.{◌≡◌, inl, inr, ◌⊎◌, ⊎_elim, ℕ, ◌+◌, ◌≤◌, ◌<◌, false, nat_lt, nat_le, refl}
use Rattle.std.proofs.lemmas.Bool.{le-ltb, lt-leb, ltb-false, leb-false, and_cases, and_right}
use Rattle.alm_disk.specs.Device.{is_within}

pub below : (at n place : ℕ) → place < at → is_within at n place ≡ false
below at n place lt = rw (lt-leb at place lt) refl

pub above : (at n place : ℕ) → at + n ≤ place → is_within at n place ≡ false
above at n place le = and_right (nat_le at place) (nat_lt place (at + n)) (le-ltb place (at + n) le)

pub outside_cases : (at n place : ℕ) → is_within at n place ≡ false → (place < at) ⊎ (at + n ≤ place)
outside_cases at n place out = ⊎_elim (λ e. inl (leb-false at place e)) (λ e. inr (ltb-false place (at + n) e)) (and_cases (nat_le at place) (nat_lt place (at + n)) out)
