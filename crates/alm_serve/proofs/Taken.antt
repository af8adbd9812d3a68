-- What is taken into the room that is left.
use Rattle.std.proofs.Common.{◌≡◌, ℕ, zero, suc, ◌+◌, ◌-◌, ◌≤◌, Bool, List, [], ◌∷◌, ◌++◌, length, take, min, refl, ap, subst, ◌∙◌, arith, rules}
use Rattle.std.specs.Prelude.{◌==◌, ◌||◌}
use Rattle.std.specs.Cmp.Lexicographic.{pointwise}
use Rattle.std.specs.List.{list_any, starts_with}
use Rattle.std.proofs.lemmas.List.{take_min, take-take}
use Rattle.alm_serve.specs.Http.{begins_with_method, methods}

-- the room, by what is kept
pub room_left : (room kept : ℕ) → room + kept ≡ 8 → room ≡ 8 - kept
room_left room kept whole = omega arith

-- as much as there is room for, by what is kept
pub taken : (room kept : ℕ) (xs : List ℕ) → room + kept ≡ 8 → take (min room (length xs)) xs ≡ take (8 - kept) xs
taken room kept xs whole = subst (λ n. take (min room (length xs)) xs ≡ take n xs) (room_left room kept whole) (take_min room xs)

-- each has at most eight bytes
abbrev AreShort : List (List ℕ) → Type 0
AreShort [] = Unit {0}
AreShort (m ∷ ms) = (length m ≤ 8) × AreShort ms

-- what they begin with is in the first eight
begins_alike : (came : List ℕ) (ms : List (List ℕ)) → AreShort ms → list_any (λ m. starts_with ◌==◌ (take 8 came) m) ms ≡ list_any (λ m. starts_with ◌==◌ came m) ms
begins_alike came [] short = refl
begins_alike came (m ∷ ms) short =
    ap (λ (l : List ℕ). pointwise ◌==◌ m l || list_any (λ n. starts_with ◌==◌ (take 8 came) n) ms) (take-take (length m) 8 came short.0)
    ∙ ap (λ (t : Bool). starts_with ◌==◌ came m || t) (begins_alike came ms short.1)

pub same_method : (came : List ℕ) → begins_with_method (take 8 came) ≡ begins_with_method came
same_method came = begins_alike came methods (search rules)

-- the first bytes, with those that came next
take_more : (n : ℕ) (xs ys : List ℕ) → take n xs ++ take (n - length (take n xs)) ys ≡ take n (xs ++ ys)
take_more zero xs ys = refl
take_more (suc n) [] ys =
    let all : suc n - 0 ≡ suc n = omega arith in
    ap (λ (k : ℕ). take k ys) all
take_more (suc n) (x ∷ xs) ys =
    let less : suc n - suc (length (take n xs)) ≡ n - length (take n xs) = omega arith in
    ap (λ (l : List ℕ). x ∷ l) (ap (λ (k : ℕ). take n xs ++ take k ys) less ∙ take_more n xs ys)

pub first_more : (before came bytes : List ℕ) → bytes ≡ take 8 before → bytes ++ take (8 - length bytes) came ≡ take 8 (before ++ came)
first_more before came bytes is = ap (λ (l : List ℕ). l ++ take (8 - length l) came) is ∙ take_more 8 before came
