-- Numbers in digits: what is written is read back, and what is read is written so.
use Rattle.std.proofs.Common.{◌≡◌, ◌<◌, ◌≤◌, ◌+◌, ◌-◌, ◌*◌, ◌^◌, ℕ, List, [], ◌∷◌, Option, Some, None, Bool, true, false, refl, arith, nat_le, nat_lt, ap, ◌∙◌, sym, get_or, length, suc, zero, inl, inr}
use Rattle.std.specs.Prelude.{◌&&◌, decimal, ◌==◌}
use Rattle.std.proofs.lemmas.Bool.{cases_Bool}
use Rattle.std.specs.Str.Parse.{AllDigits, digits_value_after, digits_value}
use Rattle.std.specs.Char.{digit_value}
use Rattle.std.proofs.lemmas.Str.{digit_value_digit}
use Rattle.std.proofs.lemmas.Str.Parse.{digit_from_value, numerals_by_value, tells_digits}
use Rattle.std.proofs.lemmas.Fmt.{decimal-digits_value, decimal_is_IsNumeral, first_decimal, decimal_digit}
use Rattle.std.proofs.lemmas.Option.{none-some, same_Some}
use Rattle.alm_lines.specs.Line.{value, up_to, number}

abbrev is_digit : ℕ → Bool
is_digit d = nat_le 48 d && nat_le d 57

digit-yes : (c : ℕ) → 48 ≤ c → c ≤ 57 → is_digit c ≡ true
digit-yes c low high = grind arith

digit-low : (c : ℕ) → is_digit c ≡ true → 48 ≤ c
digit-low c e = grind arith

digit-high : (c : ℕ) → is_digit c ≡ true → c ≤ 57
digit-high c e = grind arith

-- what is read of digits is their value
pub value-digits : (n : ℕ) (ds : List ℕ) → AllDigits 10 ds → value n ds ≡ Some (digits_value_after 10 n ds)
value-digits n [] d = refl
value-digits n (c ∷ cs) d =
    let k = digit_from_value c d.0 in
    let yes : is_digit c ≡ true = digit-yes c k.0 k.1 in
    let e : n * 10 + (c - 48) ≡ n * 10 + digit_value c = omega (arith, digit_value_digit c k) in
    rw yes (value-digits (n * 10 + (c - 48)) cs d.1 ∙ ap (λ (m : ℕ). Some (digits_value_after 10 m cs)) e)

-- what is read are digits, and their value
pub record Reads (n : ℕ) (ds : List ℕ) (m : ℕ) : Type 0 where
  pub digits : AllDigits 10 ds
  pub same : digits_value_after 10 n ds ≡ m

pub value-reads : (n : ℕ) (ds : List ℕ) (m : ℕ) → value n ds ≡ Some m → Reads n ds m
value-reads n [] m e = record { digits = tt; same = same_Some n m e }
value-reads n (c ∷ cs) m e =
    elim (cases_Bool (is_digit c)) [
      | inl hit ↦
          (let k : (48 ≤ c) × (c ≤ 57) = (digit-low c hit, digit-high c hit) in
          let r = value-reads (n * 10 + (c - 48)) cs m (rw hit at e) in
          let same : n * 10 + digit_value c ≡ n * 10 + (c - 48) = omega (arith, digit_value_digit c k) in
          record {
            digits = tells_digits.more c cs k r.digits;
            same = ap (λ (x : ℕ). digits_value_after 10 x cs) same ∙ r.same;
          })
      | inr miss ↦ absurd (none-some m (rw miss at e))
    ]

up_to-below : (limit n : ℕ) → n < limit → up_to limit (Some n) ≡ Some n
up_to-below limit n h = grind arith

up_to-value : (limit : ℕ) (o : Option ℕ) (n : ℕ) → up_to limit o ≡ Some n → (o ≡ Some n) × (n < limit)
up_to-value limit None n e = absurd (none-some n e)
up_to-value limit (Some m) n e =
    elim (cases_Bool (nat_lt m limit)) [
      | inl hit ↦ (let same = same_Some m n (rw hit at e) in (ap (λ (x : ℕ). Some x) same, (let below : m < limit = grind arith in omega (arith, same))))
      | inr miss ↦ absurd (none-some n (rw miss at e))
    ]

-- the digits of a number below a limit are read as it
number-of : (limit : ℕ) (ds : List ℕ) (n : ℕ) → AllDigits 10 ds → digits_value 10 ds ≡ n → 0 < length ds → (get_or ds 0 0 ≡ 48 → length ds ≡ 1) → n < limit → number limit ds ≡ Some n
number-of limit [] n d e some lead below = absurd (omega arith)
number-of limit (c ∷ []) n d e some lead below =
    rw (value-digits 0 (c ∷ []) d, e) (up_to-below limit n below)
number-of limit (c ∷ b ∷ cs) n d e some lead below =
    let no : (c == 48) ≡ false = grind (arith, lead) in
    rw (no, value-digits 0 (c ∷ b ∷ cs) d, e) (up_to-below limit n below)

lead-decimal : (n : ℕ) → n < 2 ^ 64 → get_or (decimal n) 0 0 ≡ 48 → length (decimal n) ≡ 1
lead-decimal zero small e = ap length (decimal_digit 0 (omega arith))
lead-decimal (suc n) small e = absurd (omega (arith, first_decimal (suc n) (omega arith) small))

pub number-decimal : (limit n : ℕ) → n < limit → n < 2 ^ 64 → number limit (decimal n) ≡ Some n
number-decimal limit n below small =
    let k = decimal_is_IsNumeral n small in
    number-of limit (decimal n) n k.0.1 k.1 k.0.0 (lead-decimal n small) below

-- and digits that are read are those of the number
pub decimal-number : (limit : ℕ) (ds : List ℕ) (n : ℕ) → limit ≤ 2 ^ 64 → number limit ds ≡ Some n → ds ≡ decimal n
decimal-number limit [] n small e = absurd (none-some n e)
decimal-number limit (c ∷ []) n small e =
    let u = up_to-value limit (value 0 (c ∷ [])) n e in
    let r = value-reads 0 (c ∷ []) n u.0 in
    sym (decimal-digits_value (numerals_by_value (AllDigits 10) tells_digits) (c ∷ []) r.digits (omega arith) (λ x. omega arith) (omega (arith, r.same, u.1))) ∙ ap decimal r.same
decimal-number limit (c ∷ b ∷ cs) n small e =
    elim (cases_Bool (c == 48)) [
      | inl hit ↦ absurd (none-some n (rw hit at e))
      | inr miss ↦
          (let u = up_to-value limit (value 0 (c ∷ b ∷ cs)) n (rw miss at e) in
          let r = value-reads 0 (c ∷ b ∷ cs) n u.0 in
          let lead : c ≡ 48 → length (c ∷ b ∷ cs) ≡ 1 = λ same. absurd (grind (arith, miss, same)) in
          sym (decimal-digits_value (numerals_by_value (AllDigits 10) tells_digits) (c ∷ b ∷ cs) r.digits (omega arith) lead (omega (arith, r.same, u.1))) ∙ ap decimal r.same)
    ]
