-- Bytes that go into the register could have gone in together, as one number.
use Rattle.std.proofs.Common.{◌≡◌, ℕ, zero, suc, ◌+◌, ◌*◌, ◌<◌, List, [], ◌∷◌, length, refl, sym, ◌∙◌, ap, arith}
use Rattle.std.specs.Prelude.{bit_xor}
use Rattle.std.specs.List.{AllByRecursion}
use Rattle.std.specs.Int.Bits.{xor_assoc, xor_zero_r}
use Rattle.alm_sum.specs.Crc.{shifts, register_after_byte, register_after_bytes}
use Rattle.alm_sum.proofs.Bytes.{IsByte}
use Rattle.alm_sum.proofs.Shifts.{shifts_linear, eight_up, low_byte}

-- bytes as one number, the first one lowest
abbrev pub packed : List ℕ → ℕ
packed [] = 0
packed (byte ∷ bytes) = bit_xor byte (packed bytes * 256)

-- eight shifts for each of n bytes
abbrev pub eights : ℕ → ℕ → ℕ
eights zero c = c
eights (suc n) c = eights n (shifts 8 c)

-- what comes after eight shifts could have come before them, higher
pub pull : (x m : ℕ) → bit_xor (shifts 8 x) m ≡ shifts 8 (bit_xor x (m * 256))
pull x m = ap (bit_xor (shifts 8 x)) (sym (eight_up m)) ∙ sym (shifts_linear 8 x (m * 256))

pub together : (c : ℕ) (bytes : List ℕ) → register_after_bytes c bytes ≡ eights (length bytes) (bit_xor c (packed bytes))
together c [] = sym (xor_zero_r c)
together c (byte ∷ bytes) =
    together (register_after_byte c byte) bytes
    ∙ ap (eights (length bytes)) (pull (bit_xor c byte) (packed bytes) ∙ ap (shifts 8) (xor_assoc c byte (packed bytes * 256)))

-- how many numbers n bytes make
abbrev pub numbers : ℕ → ℕ
numbers zero = 1
numbers (suc n) = 256 * numbers n

pub packed_lt : (bytes : List ℕ) → AllByRecursion IsByte bytes → packed bytes < numbers (length bytes)
packed_lt [] are = omega arith
packed_lt (byte ∷ bytes) are =
    let rest = packed_lt bytes are.1 in
    let is = low_byte byte (packed bytes) are.0 in
    let lt : byte < 256 = are.0 in
    omega (arith, rest, is, lt)

pub packed_same : (x y : List ℕ) → length x ≡ length y → AllByRecursion IsByte x → AllByRecursion IsByte y → packed x ≡ packed y → x ≡ y
packed_same [] [] long p q e = refl
packed_same [] (b ∷ y) long p q e = absurd (omega (arith, long))
packed_same (a ∷ x) [] long p q e = absurd (omega (arith, long))
packed_same (a ∷ x) (b ∷ y) long p q e =
    let m : ℕ = packed x in
    let n : ℕ = packed y in
    let la : a < 256 = p.0 in
    let lb : b < 256 = q.0 in
    let is : m * 256 + a ≡ n * 256 + b = sym (low_byte a m la) ∙ e ∙ low_byte b n lb in
    let first : a ≡ b = omega (arith, is, la, lb) in
    let others : m ≡ n = omega (arith, is, la, lb) in
    let lists : x ≡ y = packed_same x y (omega (arith, long)) p.1 q.1 others in
    (λ i. first i ∷ lists i)
