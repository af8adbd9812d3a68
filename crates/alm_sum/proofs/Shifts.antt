-- Shifts are linear, so that eight of them can be looked up.
use Rattle.std.proofs.Common.{◌≡◌, inl, inr, ◌⊎◌, ℕ, zero, suc, ◌+◌, ◌*◌, ◌/◌, ◌%◌, ◌^◌, ◌<◌, List, [], ◌∷◌, ◌++◌, length, take, get_or, refl, sym, ◌∙◌, ap, arith}
use Rattle.std.specs.Prelude.{bit_xor}
use Rattle.std.specs.Int.Bits.{xor_assoc, xor_zero_l, xor_zero_r}
use Rattle.std.proofs.lemmas.Nat.{xor_block, xor_comm, xor_lt}
use Rattle.std.proofs.Math.Seq.{take-suc}
use Rattle.alm_sum.specs.Crc.{subtracted, shift, shifts, register_after_byte, register_after_bytes}

pub parity : (n : ℕ) → (n % 2 ≡ 0) ⊎ (n % 2 ≡ 1)
parity n = by_rest (n % 2) (omega arith)
  where
    by_rest : (r : ℕ) → r < 2 → (r ≡ 0) ⊎ (r ≡ 1)
    by_rest zero lt = inl refl
    by_rest (suc zero) lt = inr refl
    by_rest (suc (suc r)) lt = absurd (omega (arith, lt))

pub swap : (a b c d : ℕ) → bit_xor (bit_xor a b) (bit_xor c d) ≡ bit_xor (bit_xor a c) (bit_xor b d)
swap a b c d =
    xor_assoc a b (bit_xor c d)
    ∙ ap (bit_xor a) (sym (xor_assoc b c d) ∙ ap (λ x. bit_xor x d) (xor_comm b c) ∙ xor_assoc c b d)
    ∙ sym (xor_assoc a c (bit_xor b d))

-- ---- one shift

-- half and rest
split : (n : ℕ) → n ≡ n / 2 * 2 ^ 1 + n % 2
split n = omega arith

xor_split : (a b : ℕ) → bit_xor a b ≡ bit_xor (a / 2) (b / 2) * 2 ^ 1 + bit_xor (a % 2) (b % 2)
xor_split a b = (λ i. bit_xor (split a i) (split b i)) ∙ xor_block 1 (a / 2) (b / 2) (a % 2) (b % 2) (omega arith) (omega arith)

half_of : (n h r : ℕ) → r < 2 → n ≡ h * 2 ^ 1 + r → n / 2 ≡ h
half_of n h r lt is = omega (arith, lt, is)

rest_of : (n h r : ℕ) → r < 2 → n ≡ h * 2 ^ 1 + r → n % 2 ≡ r
rest_of n h r lt is = omega (arith, lt, is)

subtracted_linear : (r s : ℕ) → (r ≡ 0) ⊎ (r ≡ 1) → (s ≡ 0) ⊎ (s ≡ 1) → subtracted (bit_xor r s) ≡ bit_xor (subtracted r) (subtracted s)
subtracted_linear r s (inl a) (inl b) = (λ i. subtracted (bit_xor (a i) (b i))) ∙ sym (λ i. bit_xor (subtracted (a i)) (subtracted (b i)))
subtracted_linear r s (inl a) (inr b) = (λ i. subtracted (bit_xor (a i) (b i))) ∙ sym (λ i. bit_xor (subtracted (a i)) (subtracted (b i)))
subtracted_linear r s (inr a) (inl b) = (λ i. subtracted (bit_xor (a i) (b i))) ∙ sym (λ i. bit_xor (subtracted (a i)) (subtracted (b i)))
subtracted_linear r s (inr a) (inr b) = (λ i. subtracted (bit_xor (a i) (b i))) ∙ sym (λ i. bit_xor (subtracted (a i)) (subtracted (b i)))

shift_linear : (a b : ℕ) → shift (bit_xor a b) ≡ bit_xor (shift a) (shift b)
shift_linear a b =
    let h = bit_xor (a / 2) (b / 2) in
    let r = bit_xor (a % 2) (b % 2) in
    let small : r < 2 ^ 1 = xor_lt 1 (a % 2) (b % 2) (omega arith) (omega arith) in
    let is = xor_split a b in
    let below : r < 2 = omega (arith, small) in
    (λ i. bit_xor (half_of (bit_xor a b) h r below is i) (subtracted (rest_of (bit_xor a b) h r below is i)))
    ∙ ap (bit_xor h) (subtracted_linear (a % 2) (b % 2) (parity a) (parity b))
    ∙ swap (a / 2) (b / 2) (subtracted (a % 2)) (subtracted (b % 2))

pub shifts_linear : (n a b : ℕ) → shifts n (bit_xor a b) ≡ bit_xor (shifts n a) (shifts n b)
unfolding shifts
shifts_linear zero a b = refl
shifts_linear (suc n) a b = ap (shifts n) (shift_linear a b) ∙ shifts_linear n (shift a) (shift b)

-- ---- a byte of the register

shift_up : (m : ℕ) → shift (m * 2) ≡ m
shift_up m =
    let half : m * 2 / 2 ≡ m = omega arith in
    let rest : m * 2 % 2 ≡ 0 = omega arith in
    (λ i. bit_xor (half i) (subtracted (rest i))) ∙ xor_zero_r m

-- what is above eight bits comes down
pub eight_up : (m : ℕ) → shifts 8 (m * 256) ≡ m
unfolding shifts
eight_up m =
    let e : m * 256 ≡ m * 2 * 2 * 2 * 2 * 2 * 2 * 2 * 2 = omega arith in
    ap (shifts 8) e
    ∙ ap (shifts 7) (shift_up (m * 2 * 2 * 2 * 2 * 2 * 2 * 2)) ∙ ap (shifts 6) (shift_up (m * 2 * 2 * 2 * 2 * 2 * 2))
    ∙ ap (shifts 5) (shift_up (m * 2 * 2 * 2 * 2 * 2)) ∙ ap (shifts 4) (shift_up (m * 2 * 2 * 2 * 2))
    ∙ ap (shifts 3) (shift_up (m * 2 * 2 * 2)) ∙ ap (shifts 2) (shift_up (m * 2 * 2))
    ∙ ap (shifts 1) (shift_up (m * 2)) ∙ shift_up m

-- a byte below others
pub low_byte : (a m : ℕ) → a < 256 → bit_xor a (m * 256) ≡ m * 256 + a
low_byte a m lt =
    (λ i. bit_xor (a_is i) (m_is i)) ∙ xor_block 8 0 m a 0 (omega (arith, lt)) (omega arith)
    ∙ (λ i. xor_zero_l m i * 2 ^ 8 + xor_zero_r a i) ∙ same
  where
    a_is : a ≡ 0 * 2 ^ 8 + a
    a_is = omega arith

    m_is : m * 256 ≡ m * 2 ^ 8 + 0
    m_is = omega arith

    same : m * 2 ^ 8 + a ≡ m * 256 + a
    same = omega arith

-- a byte that goes into the register meets its lowest eight bits, and these alone are looked up
pub byte_step : (c byte : ℕ) → byte < 256 → register_after_byte c byte ≡ bit_xor (c / 256) (shifts 8 (bit_xor (c % 256) byte))
byte_step c byte lt =
    let c_is : c ≡ c / 256 * 256 + c % 256 = omega arith in
    let apart : c ≡ bit_xor (c / 256 * 256) (c % 256) =
    c_is ∙ sym (low_byte (c % 256) (c / 256) (omega arith)) ∙ xor_comm (c % 256) (c / 256 * 256) in
    ap (λ x. shifts 8 (bit_xor x byte)) apart
    ∙ ap (shifts 8) (xor_assoc (c / 256 * 256) (c % 256) byte)
    ∙ shifts_linear 8 (c / 256 * 256) (bit_xor (c % 256) byte)
    ∙ ap (λ x. bit_xor x (shifts 8 (bit_xor (c % 256) byte))) (eight_up (c / 256))

-- ---- the tables

-- what shifts make of n numbers from a first one on
unfoldable pub remainders : ℕ → ℕ → ℕ → List ℕ
remainders bits zero from = []
remainders bits (suc n) from = shifts bits from ∷ remainders bits n (suc from)

remainder_at : (bits n from i : ℕ) → i < n → get_or (remainders bits n from) i 0 ≡ shifts bits (i + from)
unfolding remainders
remainder_at bits zero from i lt = absurd (omega (arith, lt))
remainder_at bits (suc n) from zero lt = let first : from ≡ 0 + from = omega arith in ap (shifts bits) first
remainder_at bits (suc n) from (suc i) lt =
    let next : i + suc from ≡ suc i + from = omega arith in
    remainder_at bits n (suc from) i (omega (arith, lt)) ∙ ap (shifts bits) next

pub looked_up : (bits : ℕ) (table : List ℕ) (byte : ℕ) → byte < 256 → table ≡ remainders bits 256 0 → get_or table byte 0 ≡ shifts bits byte
looked_up bits table byte lt is =
    let zero_more : byte + 0 ≡ byte = omega arith in
    ap (λ (l : List ℕ). get_or l byte 0) is ∙ remainder_at bits 256 0 byte lt ∙ ap (shifts bits) zero_more

-- ---- bytes one after the other

pub bytes_more : (c : ℕ) (front back : List ℕ) → register_after_bytes c (front ++ back) ≡ register_after_bytes (register_after_bytes c front) back
bytes_more c [] back = refl
bytes_more c (byte ∷ front) back = bytes_more (register_after_byte c byte) front back

pub byte_more : (c : ℕ) (bytes : List ℕ) (i byte : ℕ) → i < length bytes → get_or bytes i 0 ≡ byte → register_after_bytes c (take (i + 1) bytes) ≡ register_after_byte (register_after_bytes c (take i bytes)) byte
byte_more c bytes i byte lt is =
    let one : i + 1 ≡ suc i = omega arith in
    ap (λ n. register_after_bytes c (take n bytes)) one ∙ ap (register_after_bytes c) (take-suc bytes i 0 lt) ∙ bytes_more c (take i bytes) (get_or bytes i 0 ∷ [])
    ∙ ap (register_after_byte (register_after_bytes c (take i bytes))) is
