-- The bits of a word that are set one after the other.
use Rattle.std.proofs.Common.{◌≡◌, ◌↔◌, ℕ, ◌<◌, ◌+◌, ◌*◌, ◌%◌, ◌^◌, sym, subst, arith, bit_or, w32, below_more}
use Rattle.std.specs.Int.{bit_at}
use Rattle.std.proofs.Math.Pow.{pow-lt}
use Rattle.std.proofs.lemmas.Nat.{or_lt}
use Rattle.std.proofs.lemmas.Nat.Bits.{bit_at_above, bit_at_set_same, bit_at_set_other}

-- the word with one bit more
abbrev pub with_bit : ℕ → ℕ → ℕ
with_bit n k = bit_or n (1 * 2 ^ k % 2 ^ 32)

pub with_bit-lt : (n k : ℕ) → k < 18 → n < 2 ^ k → with_bit n k < 2 ^ (k + 1)
with_bit-lt n k within low =
    let up : 2 ^ k < 2 ^ (k + 1) = pow-lt {i = k} {j = k + 1} (omega arith) in
    let top : 2 ^ k < 2 ^ 32 = pow-lt {i = k} {j = 32} (omega arith) in
    let is : 1 * 2 ^ k % 2 ^ 32 ≡ 2 ^ k = grind arith in
    or_lt (k + 1) n (1 * 2 ^ k % 2 ^ 32) (omega arith) (subst (λ v. v < 2 ^ (k + 1)) (sym is) up)

pub with_bit-says : (P : ℕ → Type 0) (n k : ℕ) → k < 18 → P k → ((s : ℕ) → s < k → (bit_at n s ≡ 1) ↔ P s) →
    (s : ℕ) → s < k + 1 → (bit_at (with_bit n k) s ≡ 1) ↔ P s
with_bit-says P n k within here before =
    below_more (λ s. (bit_at (with_bit n k) s ≡ 1) ↔ P s) k
    (λ s h. subst (λ v. (v ≡ 1) ↔ P s) (sym (bit_at_set_other w32 n k (omega arith) s (omega arith))) (before s h))
    ((λ _. here), (λ _. bit_at_set_same w32 n k (omega arith)))

pub without_bit-says : (P : ℕ → Type 0) (n k : ℕ) → n < 2 ^ k → (P k → ⊥) → ((s : ℕ) → s < k → (bit_at n s ≡ 1) ↔ P s) →
    (s : ℕ) → s < k + 1 → (bit_at n s ≡ 1) ↔ P s
without_bit-says P n k low never before =
    let none : bit_at n k ≡ 0 = bit_at_above n k k low (omega arith) in
    below_more (λ s. (bit_at n s ≡ 1) ↔ P s) k before ((λ e. absurd (omega arith)), (λ p. absurd (never p)))
