-- The bytes before the first space, and those after it.
use Rattle.std.proofs.Common.{◌≡◌, ◌<◌, ◌+◌, ◌^◌, ℕ, List, [], ◌∷◌, ◌++◌, Option, Some, None, Bool, true, false, refl, arith, nat_lt, nat_eq, get_or, length, take, drop, inl, inr, add-one}
use Rattle.std.specs.Prelude.{◌&&◌, decimal, ◌==◌, not}
use Rattle.std.specs.List.{position_or_len}
use Rattle.std.proofs.lemmas.Bool.{cases_Bool}
use Rattle.std.proofs.lemmas.Grind.{common_steps}
use Rattle.std.proofs.lemmas.List.{length-append}
use Rattle.std.proofs.lemmas.List.Sums.{split_at_first, passes_at_first}
use Rattle.std.specs.Str.Parse.{AllDigits}
use Rattle.std.proofs.lemmas.Str.Parse.{digit_from_value}
use Rattle.std.proofs.lemmas.Fmt.{decimal_is_IsNumeral}
use Rattle.alm_lines.specs.Line.{cut_at_space, same}

abbrev is_space : ℕ → Bool
is_space b = b == 32

-- two parts with a space between them, or one alone
abbrev pub joined : List ℕ → Option (List ℕ) → List ℕ
joined first None = first
joined first (Some rest) = first ++ 32 ∷ rest

-- the parts make the whole
pub cut-joined : (xs : List ℕ) → xs ≡ joined (cut_at_space xs).0 (cut_at_space xs).1
cut-joined xs =
    elim (cases_Bool (nat_lt (position_or_len is_space xs) (length xs))) [
      | inl hit ↦
          (let within : position_or_len is_space xs < length xs = grind arith in
          let space : get_or xs (position_or_len is_space xs) 0 ≡ 32 = grind (arith, passes_at_first is_space xs 0 within) in
          let split = split_at_first is_space xs 0 within in
          rw hit (rw space at split))
      | inr miss ↦ rw miss refl
    ]

-- no byte is a space
abbrev pub is_spaceless : List ℕ → Bool
is_spaceless [] = true
is_spaceless (c ∷ cs) = not (c == 32) && is_spaceless cs

spaceless-head : (c : ℕ) (b : Bool) → (not (c == 32) && b) ≡ true → (c == 32) ≡ false
spaceless-head c b e = grind arith

spaceless-tail : (t b : Bool) → (t && b) ≡ true → b ≡ true
spaceless-tail true b e = e
spaceless-tail false b e = grind arith

place-spaced : (a b : List ℕ) → is_spaceless a ≡ true → position_or_len is_space (a ++ 32 ∷ b) ≡ length a
place-spaced [] b e = refl
place-spaced (c ∷ cs) b e =
    let head : (c == 32) ≡ false = spaceless-head c (is_spaceless cs) e in
    let rest = place-spaced cs b (spaceless-tail (not (c == 32)) (is_spaceless cs) e) in
    rw head (omega (arith, rest))

place-none : (a : List ℕ) → is_spaceless a ≡ true → position_or_len is_space a ≡ length a
place-none [] e = refl
place-none (c ∷ cs) e =
    let head : (c == 32) ≡ false = spaceless-head c (is_spaceless cs) e in
    let rest = place-none cs (spaceless-tail (not (c == 32)) (is_spaceless cs) e) in
    rw head (omega (arith, rest))

take-front : (a b : List ℕ) → take (length a) (a ++ b) ≡ a
take-front a b = grind (arith, common_steps)

drop-front : (a : List ℕ) (x : ℕ) (b : List ℕ) → drop (length a + 1) (a ++ x ∷ b) ≡ b
drop-front [] x b = refl
drop-front (c ∷ cs) x b = rw add-one (let next = drop-front cs x b in rw add-one at next)

pub cut-spaced : (a b : List ℕ) → is_spaceless a ≡ true → cut_at_space (a ++ 32 ∷ b) ≡ (a, Some b)
cut-spaced a b e =
    let place = place-spaced a b e in
    let within : nat_lt (length a) (length (a ++ 32 ∷ b)) ≡ true = grind (arith, length-append a (32 ∷ b)) in
    rw (place, within, take-front a (32 ∷ b), drop-front a 32 b) refl

pub cut-alone : (a : List ℕ) → is_spaceless a ≡ true → cut_at_space a ≡ (a, None)
cut-alone a e =
    let place = place-none a e in
    let none : nat_lt (length a) (length a) ≡ false = grind arith in
    rw (place, none) refl

spaceless-digits : (ds : List ℕ) → AllDigits 10 ds → is_spaceless ds ≡ true
spaceless-digits [] d = refl
spaceless-digits (c ∷ cs) d =
    let k = digit_from_value c d.0 in
    let head : (c == 32) ≡ false = grind (arith, k) in
    rw (head, spaceless-digits cs d.1) refl

pub spaceless-decimal : (n : ℕ) → n < 2 ^ 64 → is_spaceless (decimal n) ≡ true
spaceless-decimal n small = spaceless-digits (decimal n) (decimal_is_IsNumeral n small).0.1

-- equal words
pub same-is : (xs ys : List ℕ) → same xs ys ≡ true → xs ≡ ys
same-is [] [] e = refl
same-is [] (y ∷ ys) e = grind arith
same-is (x ∷ xs) [] e = grind arith
same-is (x ∷ xs) (y ∷ ys) e =
    let head : x ≡ y = grind arith in
    let tail = same-is xs ys (spaceless-tail (nat_eq x y) (same xs ys) e) in
    cc
