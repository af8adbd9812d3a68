-- What holds of each number of a list.
use Rattle.std.proofs.Common.{ℕ, ◌+◌, ◌<◌, ◌≤◌, nat_eq, nat_lt, nat_le, Bool, List, [], ◌∷◌, ◌++◌, suc, zero, not, sym, arith, subst, inl, inr}
use Rattle.std.specs.Prelude.{filter}
use Rattle.std.specs.List.{AllByRecursion, range_with_len}
use Rattle.std.proofs.lemmas.Bool.{cases_eq, cond_both}
use Rattle.std.proofs.lemmas.Bool.Decides.{nat_tests}
use Rattle.alm_lists.specs.Lists.{times, list_without, put_before, put_by}
use Rattle.alm_lists.specs.Orders.{put_in_order, in_order}

pub every : {P Q : ℕ → Type 0} → ((x : ℕ) → P x → Q x) → (xs : List ℕ) → AllByRecursion P xs → AllByRecursion Q xs
every f [] p = tt
every f (x ∷ xs) p = (f x p.0, every f xs p.1)

pub both : {P Q R : ℕ → Type 0} → ((x : ℕ) → P x → Q x → R x) → (xs : List ℕ) → AllByRecursion P xs → AllByRecursion Q xs → AllByRecursion R xs
both f [] p q = tt
both f (x ∷ xs) p q = (f x p.0 q.0, both f xs p.1 q.1)

-- what holds of all holds of a member
pub among : (P : ℕ → Type 0) (i : ℕ) (xs : List ℕ) → AllByRecursion P xs → 1 ≤ times i xs → P i
among P i [] a h = absurd (omega arith)
among P i (x ∷ xs) a h = elim (cases_eq i x) [
  | inl e ↦ subst P (sym e) a.0
  | inr e ↦ let more : 1 ≤ times i xs = grind (arith, nat_tests) in among P i xs a.1 more
]

-- what holds of each member holds of all
pub all-members : (P : ℕ → Type 0) (xs : List ℕ) → ((i : ℕ) → 1 ≤ times i xs → P i) → AllByRecursion P xs
all-members P [] f = tt
all-members P (x ∷ xs) f = (f x (grind (arith, nat_tests)), all-members P xs (λ i h. f i (grind (arith, nat_tests))))

pub all-push : (P : ℕ → Type 0) (n : ℕ) (xs : List ℕ) → AllByRecursion P xs → P n → AllByRecursion P (xs ++ n ∷ [])
all-push P n [] a h = (h, tt)
all-push P n (x ∷ xs) a h = (a.0, all-push P n xs a.1 h)

pub all-append : (P : ℕ → Type 0) (xs ys : List ℕ) → AllByRecursion P xs → AllByRecursion P ys → AllByRecursion P (xs ++ ys)
all-append P [] ys a b = b
all-append P (x ∷ xs) ys a b = (a.0, all-append P xs ys a.1 b)

pub all-filter : (P : ℕ → Type 0) (test : ℕ → Bool) (xs : List ℕ) → AllByRecursion P xs → AllByRecursion P (filter test xs)
all-filter P test [] a = tt
all-filter P test (x ∷ xs) a = cond_both (test x) (x ∷ filter test xs) (filter test xs) (AllByRecursion P) (λ e. (a.0, all-filter P test xs a.1)) (λ e. all-filter P test xs a.1)

pub all-without : (P : ℕ → Type 0) (n : ℕ) (xs : List ℕ) → AllByRecursion P xs → AllByRecursion P (list_without n xs)
all-without P n xs a = all-filter P (λ x. not (nat_eq n x)) xs a

pub all-put_before : (P : ℕ → Type 0) (at n : ℕ) (xs : List ℕ) → P n → AllByRecursion P xs → AllByRecursion P (put_before at n xs)
all-put_before P at n [] h a = tt
all-put_before P at n (x ∷ xs) h a =
    cond_both (nat_eq at x) (n ∷ x ∷ xs) (x ∷ put_before at n xs) (AllByRecursion P) (λ e. (h, a)) (λ e. (a.0, all-put_before P at n xs h a.1))

pub all-put_by : (P : ℕ → Type 0) (key : ℕ → ℕ) (n : ℕ) (xs : List ℕ) → P n → AllByRecursion P xs → AllByRecursion P (put_by key n xs)
all-put_by P key n [] h a = (h, tt)
all-put_by P key n (x ∷ xs) h a =
    cond_both (nat_lt (key n) (key x)) (n ∷ x ∷ xs) (x ∷ put_by key n xs) (AllByRecursion P) (λ e. (h, a)) (λ e. (a.0, all-put_by P key n xs h a.1))

pub all-put_in_order : (P : ℕ → Type 0) (key : ℕ → ℕ) (i : ℕ) (xs : List ℕ) → P i → AllByRecursion P xs → AllByRecursion P (put_in_order key i xs)
all-put_in_order P key i [] h a = (h, tt)
all-put_in_order P key i (x ∷ xs) h a =
    cond_both (nat_le (key i) (key x)) (i ∷ x ∷ xs) (x ∷ put_in_order key i xs) (AllByRecursion P) (λ e. (h, a)) (λ e. (a.0, all-put_in_order P key i xs h a.1))

pub all-in_order : (P : ℕ → Type 0) (key : ℕ → ℕ) (xs : List ℕ) → AllByRecursion P xs → AllByRecursion P (in_order key xs)
all-in_order P key [] a = tt
all-in_order P key (x ∷ xs) a = all-put_in_order P key x (in_order key xs) a.0 (all-in_order P key xs a.1)

pub all-range : (P : ℕ → Type 0) (a n : ℕ) → ((x : ℕ) → a ≤ x → x < a + n → P x) → AllByRecursion P (range_with_len a n)
all-range P a zero f = tt
all-range P a (suc n) f = (f a (omega arith) (omega arith), all-range P (a + 1) n (λ x h k. f x (omega arith) (omega arith)))
