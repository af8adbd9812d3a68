-- Laws of the limits of attributes.
use Rattle.std.specs.Prelude.{◌≡◌, ℕ, ℤ, ◌≤◌, Bool, true, false, T, ◌&&◌, nat_le}
use Rattle.std.proofs.Common.{arith, refl}
use Rattle.std.proofs.lemmas.Bool.Decides.{nat_tests}
use Rattle.std.proofs.lemmas.Int.{ints}
use Rattle.alm_types.specs.Readings.{IsReading, is_reading}

is_true : (test : Bool) → T test → test ≡ true
is_true true h = refl
is_true false h = absurd h

priority_where : (n : ℕ) → (nat_le 1 n && nat_le n 4) ≡ true → (1 ≤ n) × (n ≤ 4)
priority_where n e = grind (arith, nat_tests)

reading_where : (v : ℤ) → is_reading v ≡ true → IsReading v
reading_where v e = grind (arith, ints)

-- what passes the test is in the limits
pub priority_in : (n : ℕ) → T (nat_le 1 n && nat_le n 4) → (1 ≤ n) × (n ≤ 4)
priority_in n h = priority_where n (is_true (nat_le 1 n && nat_le n 4) h)

pub reading_in : (v : ℤ) → T (is_reading v) → IsReading v
reading_in v h = reading_where v (is_true (is_reading v) h)
