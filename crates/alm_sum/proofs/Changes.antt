-- Changed bytes change the checksum: each step of the register can be undone.
use Rattle.std.proofs.Common.{◌≡◌, inl, inr, ◌⊎◌, ℕ, zero, suc, ◌+◌, ◌*◌, ◌/◌, ◌%◌, ◌^◌, ◌<◌, ◌≤◌, List, [], ◌∷◌, ◌++◌, length, sym, ◌∙◌, ap, arith}
use Rattle.std.specs.Prelude.{bit_xor}
use Rattle.std.specs.List.{AllByRecursion}
use Rattle.std.specs.Int.Bits.{xor_assoc, xor_zero_r, xor_self}
use Rattle.std.proofs.lemmas.Nat.{xor_block, xor_comm, xor_lt}
use Rattle.std.proofs.lemmas.List.Elements.{recursion_from_All}
use Rattle.alm_sum.specs.Crc.{polynomial, subtracted, shift, shifts, register_after_byte, register_after_bytes, checksum_of}
use Rattle.alm_sum.proofs.Bytes.{IsByte, AreBytes}
use Rattle.alm_sum.proofs.Shifts.{parity, bytes_more}
use Rattle.alm_sum.proofs.Packed.{packed, numbers, eights, together, packed_lt, packed_same}

xor_back : (a p : ℕ) → bit_xor (bit_xor a p) p ≡ a
xor_back a p = xor_assoc a p p ∙ ap (bit_xor a) (xor_self p) ∙ xor_zero_r a

xor_right : (a b p : ℕ) → bit_xor a p ≡ bit_xor b p → a ≡ b
xor_right a b p e = sym (xor_back a p) ∙ ap (λ x. bit_xor x p) e ∙ xor_back b p

xor_left : (a b p : ℕ) → bit_xor p a ≡ bit_xor p b → a ≡ b
xor_left a b p e = xor_right a b p (xor_comm a p ∙ e ∙ xor_comm p b)

-- ---- shifts

shift_even : (c : ℕ) → c % 2 ≡ 0 → shift c ≡ c / 2
shift_even c e = ap (λ r. bit_xor (c / 2) (subtracted r)) e ∙ xor_zero_r (c / 2)

shift_odd : (c : ℕ) → c % 2 ≡ 1 → shift c ≡ bit_xor (c / 2) polynomial
shift_odd c e = ap (λ r. bit_xor (c / 2) (subtracted r)) e

-- by its highest bit a register shows what was shifted out
high : (h : ℕ) → h < 2 ^ 31 → 2 ^ 31 ≤ bit_xor h polynomial
high h lt =
    let h_is : h ≡ 0 * 2 ^ 31 + h = omega arith in
    let e : bit_xor h polynomial ≡ 1 * 2 ^ 31 + bit_xor h 0x02F63B78 =
    ap (λ x. bit_xor x polynomial) h_is ∙ xor_block 31 0 1 h 0x02F63B78 lt (omega arith) in
    omega (arith, e)

shift_lt : (c : ℕ) → c < 2 ^ 32 → shift c < 2 ^ 32
shift_lt c lt = xor_lt 32 (c / 2) (subtracted (c % 2)) (omega (arith, lt)) (small (c % 2))
  where
    small : (r : ℕ) → subtracted r < 2 ^ 32
    small zero = omega arith
    small (suc r) = omega arith

shift_same : (a b : ℕ) → a < 2 ^ 32 → b < 2 ^ 32 → shift a ≡ shift b → a ≡ b
shift_same a b la lb e = by_parity (parity a) (parity b)
  where
    by_parity : (a % 2 ≡ 0) ⊎ (a % 2 ≡ 1) → (b % 2 ≡ 0) ⊎ (b % 2 ≡ 1) → a ≡ b
    by_parity (inl p) (inl q) = let h : a / 2 ≡ b / 2 = sym (shift_even a p) ∙ e ∙ shift_even b q in omega (arith, h, p, q)
    by_parity (inr p) (inr q) =
        let h : a / 2 ≡ b / 2 = xor_right (a / 2) (b / 2) polynomial (sym (shift_odd a p) ∙ e ∙ shift_odd b q) in omega (arith, h, p, q)
    by_parity (inl p) (inr q) =
        let h : a / 2 ≡ bit_xor (b / 2) polynomial = sym (shift_even a p) ∙ e ∙ shift_odd b q in
        let top = high (b / 2) (omega (arith, lb)) in absurd (omega (arith, h, top, la))
    by_parity (inr p) (inl q) =
        let h : bit_xor (a / 2) polynomial ≡ b / 2 = sym (shift_odd a p) ∙ e ∙ shift_even b q in
        let top = high (a / 2) (omega (arith, la)) in absurd (omega (arith, h, top, lb))

shifts_lt : (n c : ℕ) → c < 2 ^ 32 → shifts n c < 2 ^ 32
unfolding shifts
shifts_lt zero c lt = lt
shifts_lt (suc n) c lt = shifts_lt n (shift c) (shift_lt c lt)

shifts_same : (n a b : ℕ) → a < 2 ^ 32 → b < 2 ^ 32 → shifts n a ≡ shifts n b → a ≡ b
unfolding shifts
shifts_same zero a b la lb e = e
shifts_same (suc n) a b la lb e = shift_same a b la lb (shifts_same n (shift a) (shift b) (shift_lt a la) (shift_lt b lb) e)

eights_same : (n a b : ℕ) → a < 2 ^ 32 → b < 2 ^ 32 → eights n a ≡ eights n b → a ≡ b
eights_same zero a b la lb e = e
eights_same (suc n) a b la lb e = shifts_same 8 a b la lb (eights_same n (shifts 8 a) (shifts 8 b) (shifts_lt 8 a la) (shifts_lt 8 b lb) e)

-- ---- bytes

with_byte : (c byte : ℕ) → c < 2 ^ 32 → byte < 256 → bit_xor c byte < 2 ^ 32
with_byte c byte lc lb = xor_lt 32 c byte lc (omega (arith, lb))

pub after_lt : (c : ℕ) (bytes : List ℕ) → c < 2 ^ 32 → AllByRecursion IsByte bytes → register_after_bytes c bytes < 2 ^ 32
after_lt c [] lt are = lt
after_lt c (byte ∷ bytes) lt are = after_lt (register_after_byte c byte) bytes (shifts_lt 8 (bit_xor c byte) (with_byte c byte lt are.0)) are.1

after_same : (c d : ℕ) (bytes : List ℕ) → c < 2 ^ 32 → d < 2 ^ 32 → AllByRecursion IsByte bytes → register_after_bytes c bytes ≡ register_after_bytes d bytes → c ≡ d
after_same c d [] lc ld are e = e
after_same c d (byte ∷ bytes) lc ld are e =
    let c' = with_byte c byte lc are.0 in
    let d' = with_byte d byte ld are.0 in
    xor_right c d byte (shifts_same 8 (bit_xor c byte) (bit_xor d byte) c' d'
    (after_same (register_after_byte c byte) (register_after_byte d byte) bytes (shifts_lt 8 (bit_xor c byte) c') (shifts_lt 8 (bit_xor d byte) d') are.1 e))

word_lt : (n : ℕ) → n ≤ 4 → numbers n ≤ 2 ^ 32
word_lt zero le = omega arith
word_lt (suc zero) le = omega arith
word_lt (suc (suc zero)) le = omega arith
word_lt (suc (suc (suc zero))) le = omega arith
word_lt (suc (suc (suc (suc zero)))) le = omega arith
word_lt (suc (suc (suc (suc (suc n))))) le = absurd (omega (arith, le))

-- few bytes that make the same of a register are the same
pub few_same : (c : ℕ) (x y : List ℕ) → c < 2 ^ 32 → length x ≡ length y → length x ≤ 4 → AllByRecursion IsByte x → AllByRecursion IsByte y
    → register_after_bytes c x ≡ register_after_bytes c y → x ≡ y
few_same c x y lc long few p q e =
    let lx : packed x < 2 ^ 32 = omega (arith, packed_lt x p, word_lt (length x) few) in
    let ly : packed y < 2 ^ 32 = omega (arith, packed_lt y q, word_lt (length y) (omega (arith, long, few))) in
    let both : eights (length x) (bit_xor c (packed x)) ≡ eights (length x) (bit_xor c (packed y)) =
    sym (together c x) ∙ e ∙ together c y ∙ ap (λ n. eights n (bit_xor c (packed y))) (sym long) in
    packed_same x y long p q
    (xor_left (packed x) (packed y) c
    (eights_same (length x) (bit_xor c (packed x)) (bit_xor c (packed y)) (xor_lt 32 c (packed x) lc lx) (xor_lt 32 c (packed y) lc ly) both))

pub few_changes : (front x y back : List ℕ) → AreBytes front → AreBytes back → AreBytes x → AreBytes y → length x ≡ length y → length x ≤ 4
    → checksum_of (front ++ x ++ back) ≡ checksum_of (front ++ y ++ back) → x ≡ y
few_changes front x y back in_front behind p q long few e =
    let are : (l : List ℕ) → AreBytes l → AllByRecursion IsByte l = recursion_from_All IsByte in
    let c : ℕ = register_after_bytes 0xFFFFFFFF front in
    let lc : c < 2 ^ 32 = after_lt 0xFFFFFFFF front (omega arith) (are front in_front) in
    let whole = xor_right (register_after_bytes 0xFFFFFFFF (front ++ x ++ back)) (register_after_bytes 0xFFFFFFFF (front ++ y ++ back)) 0xFFFFFFFF e in
    let apart : (l : List ℕ) → register_after_bytes 0xFFFFFFFF (front ++ l ++ back) ≡ register_after_bytes (register_after_bytes c l) back =
    λ l. bytes_more 0xFFFFFFFF (front ++ l) back ∙ ap (λ r. register_after_bytes r back) (bytes_more 0xFFFFFFFF front l) in
    few_same c x y lc long few (are x p) (are y q)
    (after_same (register_after_bytes c x) (register_after_bytes c y) back (after_lt c x lc (are x p)) (after_lt c y lc (are y q)) (are back behind) (sym (apart x) ∙ whole ∙ apart y))
