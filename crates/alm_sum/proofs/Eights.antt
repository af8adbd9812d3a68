-- Eight bytes at once: what shifts make of each of them can be looked up.
use Rattle.std.proofs.Common.{◌≡◌, ℕ, zero, suc, ◌+◌, ◌*◌, ◌/◌, ◌%◌, ◌^◌, ◌<◌, List, [], ◌∷◌, length, get_or, refl, sym, ◌∙◌, ap, arith}
use Rattle.std.specs.Prelude.{bit_xor}
use Rattle.std.specs.Int.{to_le_bytes, w32}
use Rattle.std.specs.Int.Bits.{xor_zero_l, xor_zero_r}
use Rattle.std.proofs.lemmas.Nat.{xor_block, xor_comm}
use Rattle.alm_sum.specs.Crc.{shift, shifts, register_after_bytes}
use Rattle.alm_sum.proofs.Packed.{packed, eights, pull, together}
use Rattle.alm_sum.proofs.Shifts.{shifts_linear, swap, low_byte}

-- ---- each byte by itself

eights_linear : (n a b : ℕ) → eights n (bit_xor a b) ≡ bit_xor (eights n a) (eights n b)
eights_linear zero a b = refl
eights_linear (suc n) a b = ap (eights n) (shifts_linear 8 a b) ∙ eights_linear n (shifts 8 a) (shifts 8 b)

shifts_more : (m n both c : ℕ) → m + n ≡ both → shifts n (shifts m c) ≡ shifts both c
unfolding shifts
shifts_more zero n both c is = let same : n ≡ both = omega (arith, is) in ap (λ k. shifts k c) same
shifts_more (suc m) n zero c is = absurd (omega (arith, is))
shifts_more (suc m) n (suc both) c is = shifts_more m n both (shift c) (omega (arith, is))

none : (c : ℕ) → c ≡ shifts 0 c
unfolding shifts
none c = refl

eights_are : (n c : ℕ) → eights n c ≡ shifts (n * 8) c
eights_are zero c = none c
eights_are (suc n) c = eights_are n (shifts 8 c) ∙ shifts_more 8 (n * 8) (suc n * 8) c (omega arith)

-- what is looked up of these bytes, the last one first
abbrev pub looked : List ℕ → ℕ
looked [] = 0
looked (byte ∷ bytes) = bit_xor (looked bytes) (shifts (suc (length bytes) * 8) byte)

looked_is : (bytes : List ℕ) → eights (length bytes) (packed bytes) ≡ looked bytes
looked_is [] = refl
looked_is (byte ∷ bytes) =
    let n : ℕ = length bytes in
    let m : ℕ = packed bytes in
    ap (eights n) (sym (pull byte m))
    ∙ eights_linear n (shifts 8 byte) m
    ∙ xor_comm (eights n (shifts 8 byte)) (eights n m)
    ∙ (λ i. bit_xor (looked_is bytes i) (eights_are (suc n) byte i))

-- ---- the register's bytes meet the first ones

abbrev pub meet : List ℕ → List ℕ → List ℕ
meet [] y = y
meet (a ∷ x) [] = a ∷ x
meet (a ∷ x) (b ∷ y) = bit_xor a b ∷ meet x y

up : (m n : ℕ) → bit_xor (m * 256) (n * 256) ≡ bit_xor m n * 256
up m n =
    let here : (k : ℕ) → k * 256 ≡ k * 2 ^ 8 + 0 = λ k. omega arith in
    (λ i. bit_xor (here m i) (here n i)) ∙ xor_block 8 m n 0 0 (omega arith) (omega arith) ∙ sym (here (bit_xor m n))

meet_is : (x y : List ℕ) → bit_xor (packed x) (packed y) ≡ packed (meet x y)
meet_is [] y = xor_zero_l (packed y)
meet_is (a ∷ x) [] = xor_zero_r (packed (a ∷ x))
meet_is (a ∷ x) (b ∷ y) =
    swap a (packed x * 256) b (packed y * 256)
    ∙ ap (bit_xor (bit_xor a b)) (up (packed x) (packed y) ∙ ap (λ m. m * 256) (meet_is x y))

-- ---- eight bytes

-- n elements of a list from one on
abbrev elements : List ℕ → ℕ → ℕ → List ℕ
elements list zero i = []
elements list (suc n) i = get_or list i 0 ∷ elements list n (suc i)

elements_after : (a : ℕ) (list : List ℕ) (n i : ℕ) → elements (a ∷ list) n (suc i) ≡ elements list n i
elements_after a list zero i = refl
elements_after a list (suc n) i = ap (λ l. get_or list i 0 ∷ l) (elements_after a list n (suc i))

elements_are : (list : List ℕ) → elements list (length list) 0 ≡ list
elements_are [] = refl
elements_are (a ∷ list) = ap (λ l. a ∷ l) (elements_after a list (length list) 0 ∙ elements_are list)

-- a register is its four bytes
low_bytes : (c : ℕ) → c < 2 ^ 32 → packed (to_le_bytes w32 c) ≡ c
low_bytes c lt =
    let above : (n m a : ℕ) → m ≡ n / 256 → a ≡ n % 256 → bit_xor a (m * 256) ≡ n =
    λ n m a m_is a_is. low_byte a m (omega (arith, a_is)) ∙ omega (arith, m_is, a_is) in
    let top : bit_xor (c / 16777216 % 256) 0 ≡ c / 16777216 = xor_zero_r (c / 16777216 % 256) ∙ omega (arith, lt) in
    above c _ (c % 256) (above (c / 256) _ (c / 256 % 256) (above (c / 65536) _ (c / 65536 % 256) (top ∙ omega arith) refl ∙ omega arith) refl) refl

-- the register after eight bytes: what is looked up of them, of which the first four have met the register's
pub eight_more : (c : ℕ) (first bytes : List ℕ) → c < 2 ^ 32 → first ≡ to_le_bytes w32 c → length bytes ≡ 8
    → looked (meet (elements first 4 0) (elements bytes 8 0)) ≡ register_after_bytes c bytes
eight_more c first bytes lt is long =
    let list : List ℕ = elements bytes 8 0 in
    let met : List ℕ = meet (to_le_bytes w32 c) list in
    ap (λ f. looked (meet (elements f 4 0) list)) is
    ∙ sym (looked_is met)
    ∙ ap (eights 8) (sym (meet_is (to_le_bytes w32 c) list))
    ∙ ap (λ x. eights 8 (bit_xor x (packed list))) (low_bytes c lt)
    ∙ sym (together c list)
    ∙ ap (λ n. register_after_bytes c (elements bytes n 0)) (sym long)
    ∙ ap (register_after_bytes c) (elements_are bytes)
