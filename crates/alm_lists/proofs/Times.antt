-- How often a node is in a list that is changed.
use Rattle.std.proofs.Common.{◌≡◌, ℕ, ◌+◌, ◌<◌, ◌≤◌, ◌≢◌, nat_eq, nat_lt, Bool, true, false, List, [], ◌∷◌, ◌++◌, length, cond, refl, sym, arith, subst, inl, inr}
use Rattle.std.specs.Prelude.{filter}
use Rattle.std.specs.List.{AllByRecursion, IsDistinct, list_any}
use Rattle.std.proofs.lemmas.Bool.{eqb-true, cases_eq, cond_both, or_cases}
use Rattle.std.proofs.lemmas.Bool.Decides.{nat_tests}
use Rattle.std.proofs.lemmas.Map.Steps.{length-le_from_distinct_below}
use Rattle.alm_lists.specs.Lists.{times, list_without, put_before, put_by}

-- what is not in a list is not its first, and not in the rest
pub absent : (n x t : ℕ) → cond (nat_eq n x) (1 + t) t ≡ 0 → (x ≢ n) × (t ≡ 0)
absent n x t h = (λ e. grind (arith, nat_tests), grind (arith, nat_tests))

pub times-push_same : (n : ℕ) (xs : List ℕ) → times n (xs ++ n ∷ []) ≡ times n xs + 1
times-push_same n [] = grind (arith, nat_tests)
times-push_same n (x ∷ xs) = grind (arith, nat_tests, times-push_same n xs)

pub times-push_other : (n x : ℕ) (xs : List ℕ) → x ≢ n → times x (xs ++ n ∷ []) ≡ times x xs
times-push_other n x [] e = grind (arith, nat_tests)
times-push_other n x (y ∷ xs) e = grind (arith, nat_tests, times-push_other n x xs e)

pub times-without_same : (n : ℕ) (xs : List ℕ) → times n (list_without n xs) ≡ 0
times-without_same n [] = refl
times-without_same n (x ∷ xs) = grind (arith, nat_tests, times-without_same n xs)

pub times-without_other : (n x : ℕ) (xs : List ℕ) → x ≢ n → times x (list_without n xs) ≡ times x xs
times-without_other n x [] e = refl
times-without_other n x (y ∷ xs) e = grind (arith, nat_tests, times-without_other n x xs e)

pub times-put_other : (at n x : ℕ) (xs : List ℕ) → x ≢ n → times x (put_before at n xs) ≡ times x xs
times-put_other at n x [] e = refl
times-put_other at n x (y ∷ xs) e = grind (arith, nat_tests, times-put_other at n x xs e)

pub times-put_same : (at n : ℕ) (xs : List ℕ) → times at xs ≤ 1 → times n (put_before at n xs) ≡ times n xs + times at xs
times-put_same at n [] h = refl
times-put_same at n (y ∷ xs) h = grind (arith, nat_tests, times-put_same at n xs)

-- a list without a node that isn't in it
pub without-absent : (n : ℕ) (xs : List ℕ) → times n xs ≡ 0 → list_without n xs ≡ xs
without-absent n [] h = refl
without-absent n (x ∷ xs) h = grind (arith, nat_tests, without-absent n xs)

-- a list with a number put before another that isn't in it
pub put_before-absent : (at n : ℕ) (xs : List ℕ) → times at xs ≡ 0 → put_before at n xs ≡ xs
put_before-absent at n [] h = refl
put_before-absent at n (x ∷ xs) h = grind (arith, nat_tests, put_before-absent at n xs)

pub length-without : (n : ℕ) (xs : List ℕ) → length (list_without n xs) + times n xs ≡ length xs
length-without n [] = refl
length-without n (x ∷ xs) = grind (arith, nat_tests, length-without n xs)

pub length-put_before : (at n : ℕ) (xs : List ℕ) → times at xs ≤ 1 → length (put_before at n xs) ≡ length xs + times at xs
length-put_before at n [] h = refl
length-put_before at n (x ∷ xs) h = grind (arith, nat_tests, length-put_before at n xs)

pub times-append : (n : ℕ) (xs ys : List ℕ) → times n (xs ++ ys) ≡ times n xs + times n ys
times-append n [] ys = omega arith
times-append n (x ∷ xs) ys = grind (arith, nat_tests, times-append n xs ys)

pub times-filter : (test : ℕ → Bool) (n : ℕ) (xs : List ℕ) → times n (filter test xs) ≡ cond (test n) (times n xs) 0
times-filter test n [] = cond_both (test n) 0 0 (λ t. 0 ≡ t) (λ e. refl) (λ e. refl)
times-filter test n (x ∷ xs) = elim (cases_eq n x) [
  | inl e ↦ let h = times-filter test n xs in rw (← e) (cond_both (test n) (n ∷ filter test xs) (filter test xs) (λ l. times n l ≡ cond (test n) (times n (n ∷ xs)) 0)
      (λ t. rw t (grind (arith, nat_tests, rw t at h))) (λ t. rw t (rw t at h)))
  | inr e ↦ let h = times-filter test n xs in let one : times n (x ∷ xs) ≡ times n xs = grind (arith, nat_tests) in
      rw one (cond_both (test x) (x ∷ filter test xs) (filter test xs) (λ l. times n l ≡ cond (test n) (times n xs) 0) (λ t. grind (arith, nat_tests, h)) (λ t. h))
]

-- a number put by its key
pub times-put_by_other : (key : ℕ → ℕ) (n x : ℕ) (xs : List ℕ) → x ≢ n → times x (put_by key n xs) ≡ times x xs
times-put_by_other key n x [] e = grind (arith, nat_tests)
times-put_by_other key n x (y ∷ xs) e =
    cond_both (nat_lt (key n) (key y)) (n ∷ y ∷ xs) (y ∷ put_by key n xs) (λ l. times x l ≡ times x (y ∷ xs)) (λ t. grind (arith, nat_tests)) (λ t. grind (arith, nat_tests, times-put_by_other key n x xs e))

pub times-put_by_same : (key : ℕ → ℕ) (n : ℕ) (xs : List ℕ) → times n (put_by key n xs) ≡ times n xs + 1
times-put_by_same key n [] = grind (arith, nat_tests)
times-put_by_same key n (y ∷ xs) =
    cond_both (nat_lt (key n) (key y)) (n ∷ y ∷ xs) (y ∷ put_by key n xs) (λ l. times n l ≡ times n (y ∷ xs) + 1) (λ t. grind (arith, nat_tests)) (λ t. grind (arith, nat_tests, times-put_by_same key n xs))

-- numbers below a bound, each at most once, are at most as many
apart-from_times : (n : ℕ) (xs : List ℕ) → times n xs ≡ 0 → AllByRecursion (λ y. nat_eq n y ≡ false) xs
apart-from_times n [] h = tt
apart-from_times n (x ∷ xs) h = (grind (arith, nat_tests), apart-from_times n xs (absent n x (times n xs) h).1)

distinct-from_times : (xs : List ℕ) → ((x : ℕ) → times x xs ≤ 1) → IsDistinct nat_eq xs
unfolding IsDistinct
distinct-from_times [] h = tt
distinct-from_times (x ∷ xs) h =
    let none : times x xs ≡ 0 = grind (arith, nat_tests, h x) in
    (apart-from_times x xs none, distinct-from_times xs (λ y. grind (arith, nat_tests, h y)))

small-any : (m q : ℕ) (xs : List ℕ) → AllByRecursion (λ x. x < m) xs → list_any (nat_eq q) xs ≡ true → q < m
small-any m q [] s h = absurd (cc)
small-any m q (x ∷ xs) s h =
    elim (or_cases (nat_eq q x) (list_any (nat_eq q) xs) h) [ inl e ↦ subst (λ y. y < m) (sym (eqb-true q x e)) s.0 | inr e ↦ small-any m q xs s.1 e ]

pub length-le_from_times : (m : ℕ) (xs : List ℕ) → AllByRecursion (λ x. x < m) xs → ((x : ℕ) → times x xs ≤ 1) → length xs ≤ m
length-le_from_times m xs s h = length-le_from_distinct_below xs m (distinct-from_times xs h) (λ q e. small-any m q xs s e)

-- a list without a node differs from it
pub avoids-from_times : (n : ℕ) (xs : List ℕ) → times n xs ≡ 0 → AllByRecursion (λ x. x ≢ n) xs
avoids-from_times n [] h = tt
avoids-from_times n (x ∷ xs) h = let a = absent n x (times n xs) h in (a.0, avoids-from_times n xs a.1)

-- what is below all of a list isn't in it
pub times_below : (n : ℕ) (xs : List ℕ) → AllByRecursion (λ x. n < x) xs → times n xs ≡ 0
times_below n [] a = refl
times_below n (x ∷ xs) a = let lt : n < x = a.0 in grind (arith, nat_tests, times_below n xs a.1)

-- what is not below a bound isn't in a list below it
pub times-past : (m n : ℕ) (xs : List ℕ) → m ≤ n → AllByRecursion (λ x. x < m) xs → times n xs ≡ 0
times-past m n [] k s = refl
times-past m n (x ∷ xs) k s = let lt : x < m = s.0 in grind (arith, nat_tests, times-past m n xs k s.1)
