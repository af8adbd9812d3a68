-- The lists by priority together, and those by area, have each annunciated alarm once.
use Rattle.std.proofs.Common.{◌≡◌, ℕ, ◌+◌, ◌≤◌, ◌<◌, Bool, true, false, ◌&&◌, cond, List, [], ◌∷◌, length, Option, Some, None, zero, suc, inl, inr, ◌≢◌, refl, sym, ap, ◌∙◌, subst, arith}
use Rattle.std.specs.Prelude.{◌==◌, slice_get, map, sum, filter, All}
use Rattle.std.specs.List.{range_with_len}
use Rattle.std.proofs.lemmas.Bool.{cases_eq, eq-eqb, ne_eqb}
use Rattle.std.proofs.lemmas.Bool.Decides.{nat_tests}
use Rattle.std.proofs.lemmas.List.Sorted.{length_permutation}
use Rattle.std.proofs.lemmas.List.Sums.{sum-map, sum_by-cons}
use Rattle.std.proofs.lemmas.Option.{slice_get_within, get_or_from_slice_get}
use Rattle.alm_types.specs.declared.attr.Attr.{Attr}
use Rattle.alm_state.specs.Rows.{State, is_annunciated}
use Rattle.alm_model.specs.Plant.{Condensed}
use Rattle.alm_model.specs.Lists.{list_of, alarms, stands_in, is_one, passes}
use Rattle.alm_model.specs.Lists as lists
use Rattle.alm_model.specs.Rules.{KeepsRules}
use Rattle.alm_model.specs.declared.list.List.TheVariants.{Priority, Area}
use Rattle.alm_model.proofs.Listed.{listed-permutation}
use Rattle.alm_laws.specs.Listed.{asks_for_operator}

abbrev bit : Bool → ℕ
bit b = cond b 1 0

-- ---- lengths of filters

cons-length : (b : Bool) (x : ℕ) (xs : List ℕ) → length (cond b (x ∷ xs) xs) ≡ bit b + length xs
cons-length true x xs = omega arith
cons-length false x xs = omega arith

filter-length : (t : ℕ → Bool) (x : ℕ) (xs : List ℕ) → length (filter t (x ∷ xs)) ≡ bit (t x) + length (filter t xs)
filter-length t x xs = cons-length (t x) x (filter t xs)

four-filters : (a b c d t : ℕ → Bool) → ((i : ℕ) → bit (a i) + bit (b i) + bit (c i) + bit (d i) ≡ bit (t i)) → (xs : List ℕ)
    → length (filter a xs) + length (filter b xs) + length (filter c xs) + length (filter d xs) ≡ length (filter t xs)
four-filters a b c d t h [] = refl
four-filters a b c d t h (x ∷ xs) =
    omega (arith, filter-length a x xs, filter-length b x xs, filter-length c x xs, filter-length d x xs, filter-length t x xs, h x, four-filters a b c d t h xs)

sum-step : (f : ℕ → ℕ) (n : ℕ) (ns : List ℕ) → sum (map f (n ∷ ns)) ≡ f n + sum (map f ns)
sum-step f n ns = sum-map f (n ∷ ns) ∙ sum_by-cons f n ns ∙ ap (λ x. f n + x) (sym (sum-map f ns))

range-step : (f : ℕ → ℕ) (a n : ℕ) → sum (map f (range_with_len a (suc n))) ≡ f a + sum (map f (range_with_len (a + 1) n))
range-step f a n = sum-step f a (range_with_len (a + 1) n)

-- ---- by priority

four-bits : (p : ℕ) → 1 ≤ p → p ≤ 4 → bit (p == 1) + bit (p == 2) + bit (p == 3) + bit (p == 4) ≡ 1
four-bits p low high = grind (arith, nat_tests)

four-of : (b : Bool) (p : ℕ) → 1 ≤ p → p ≤ 4 → bit (b && (p == 1)) + bit (b && (p == 2)) + bit (b && (p == 3)) + bit (b && (p == 4)) ≡ bit b
four-of true p low high = four-bits p low high
four-of false p low high = refl

one-priority : (oa : Option Attr) (os : Option State)
    → bit (passes (stands_in (Priority 1)) oa os) + bit (passes (stands_in (Priority 2)) oa os) + bit (passes (stands_in (Priority 3)) oa os) + bit (passes (stands_in (Priority 4)) oa os)
    ≡ bit (passes asks_for_operator oa os)
one-priority (Some a) (Some s) = four-of (is_annunciated s.core) a.priority a.priority_limits.0 a.priority_limits.1
one-priority (Some a) None = refl
one-priority None os = refl

length-of : (q : Condensed) (n : ℕ) → length (list_of (Priority n) q) ≡ length (alarms (stands_in (Priority n)) q.panel.attrs q.panel.rows)
length-of q n = length_permutation _ _ (listed-permutation lists.stamp (stands_in (Priority n)) q.panel.attrs q.panel.rows)

pub priorities-sum : (q : Condensed)
    → length (list_of (Priority 1) q) + length (list_of (Priority 2) q) + length (list_of (Priority 3) q) + length (list_of (Priority 4) q)
    ≡ length (alarms asks_for_operator q.panel.attrs q.panel.rows)
priorities-sum q =
    let all = four-filters (is_one (stands_in (Priority 1)) q.panel.attrs q.panel.rows) (is_one (stands_in (Priority 2)) q.panel.attrs q.panel.rows)
    (is_one (stands_in (Priority 3)) q.panel.attrs q.panel.rows) (is_one (stands_in (Priority 4)) q.panel.attrs q.panel.rows) (is_one asks_for_operator q.panel.attrs q.panel.rows)
    (λ i. one-priority (slice_get q.panel.attrs i) (slice_get q.panel.rows i)) (range_with_len 0 (length q.panel.rows)) in
    omega (arith, length-of q 1, length-of q 2, length-of q 3, length-of q 4, all)

-- ---- by area

all-at : {A : Type 0} (P : A → Type 0) (xs : List A) → All P xs → (i : ℕ) (x : A) → slice_get xs i ≡ Some x → P x
all-at P xs h i x e = subst P (get_or_from_slice_get xs i x x e) (h i x (slice_get_within xs i x e))

sum-bits-none : (t : ℕ → ℕ → Bool) (ns : List ℕ) → sum (map (λ n. length (filter (t n) [])) ns) ≡ 0
sum-bits-none t [] = refl
sum-bits-none t (n ∷ ns) = sum-bits-none t ns

sum-bits-more : (t : ℕ → ℕ → Bool) (x : ℕ) (xs ns : List ℕ)
    → sum (map (λ n. length (filter (t n) (x ∷ xs))) ns) ≡ sum (map (λ n. bit (t n x)) ns) + sum (map (λ n. length (filter (t n) xs)) ns)
sum-bits-more t x xs [] = refl
sum-bits-more t x xs (n ∷ ns) =
    omega (arith, sum-step (λ k. length (filter (t k) (x ∷ xs))) n ns, sum-step (λ k. bit (t k x)) n ns, sum-step (λ k. length (filter (t k) xs)) n ns, filter-length (t n) x xs, sum-bits-more t x xs ns)

many-filters : (t : ℕ → ℕ → Bool) (all : ℕ → Bool) (ns : List ℕ) → ((i : ℕ) → sum (map (λ n. bit (t n i)) ns) ≡ bit (all i)) → (xs : List ℕ)
    → sum (map (λ n. length (filter (t n) xs)) ns) ≡ length (filter all xs)
many-filters t all ns h [] = sum-bits-none t ns
many-filters t all ns h (x ∷ xs) = omega (arith, sum-bits-more t x xs ns, h x, many-filters t all ns h xs, filter-length all x xs)

sum-past : (area a n : ℕ) → area < a → sum (map (λ k. bit (area == k)) (range_with_len a n)) ≡ 0
sum-past area a zero h = refl
sum-past area a (suc n) h =
    let miss : bit (area == a) ≡ 0 = ap bit (ne_eqb area a (λ e. omega (arith, e, h))) in
    omega (arith, range-step (λ k. bit (area == k)) a n, miss, sum-past area (a + 1) n (omega (arith, h)))

above : (area a : ℕ) → a ≤ area → area ≢ a → a + 1 ≤ area
above area a low apart = omega (arith, low, apart)

sum-hit : (area a n : ℕ) → a ≤ area → area < a + n → sum (map (λ k. bit (area == k)) (range_with_len a n)) ≡ 1
sum-hit area a zero low high = absurd (omega (arith, low, high))
sum-hit area a (suc n) low high = elim (cases_eq area a) [
  | inl same ↦ (let hit : bit (area == a) ≡ 1 = ap bit (eq-eqb area a same) in omega (arith, range-step (λ k. bit (area == k)) a n, hit, sum-past area (a + 1) n (omega (arith, same))))
  | inr apart ↦ (let miss : bit (area == a) ≡ 0 = ap bit (ne_eqb area a apart) in omega (arith, range-step (λ k. bit (area == k)) a n, miss, sum-hit area (a + 1) n (above area a low apart) (omega (arith, high))))
]

sum-none : (ns : List ℕ) → sum (map (λ k. 0) ns) ≡ 0
sum-none [] = refl
sum-none (n ∷ ns) = sum-none ns

sum-of : (b : Bool) (area n : ℕ) → area < n → sum (map (λ k. bit (b && (area == k))) (range_with_len 0 n)) ≡ bit b
sum-of true area n within = sum-hit area 0 n (omega arith) (omega (arith, within))
sum-of false area n within = sum-none (range_with_len 0 n)

one-area : (n : ℕ) (oa : Option Attr) (os : Option State) → ((a : Attr) → oa ≡ Some a → a.area < n)
    → sum (map (λ k. bit (passes (stands_in (Area k)) oa os)) (range_with_len 0 n)) ≡ bit (passes asks_for_operator oa os)
one-area n (Some a) (Some s) within = sum-of (is_annunciated s.core) a.area n (within a refl)
one-area n (Some a) None within = sum-none (range_with_len 0 n)
one-area n None os within = sum-none (range_with_len 0 n)

sum-same : (f g : ℕ → ℕ) → ((n : ℕ) → f n ≡ g n) → (ns : List ℕ) → sum (map f ns) ≡ sum (map g ns)
sum-same f g h [] = refl
sum-same f g h (n ∷ ns) = omega (arith, sum-step f n ns, sum-step g n ns, h n, sum-same f g h ns)

pub areas-sum : (q : Condensed) → KeepsRules q → sum (map (λ n. length (list_of (Area n) q)) (range_with_len 0 (length q.floods))) ≡ length (alarms asks_for_operator q.panel.attrs q.panel.rows)
areas-sum q rules =
    sum-same (λ n. length (list_of (Area n) q)) (λ n. length (alarms (stands_in (Area n)) q.panel.attrs q.panel.rows)) (λ n. length_permutation _ _ (listed-permutation lists.stamp (stands_in (Area n)) q.panel.attrs q.panel.rows)) (range_with_len 0 (length q.floods))
    ∙ many-filters (λ n. is_one (stands_in (Area n)) q.panel.attrs q.panel.rows) (is_one asks_for_operator q.panel.attrs q.panel.rows) (range_with_len 0 (length q.floods))
    (λ i. one-area (length q.floods) (slice_get q.panel.attrs i) (slice_get q.panel.rows i) (λ a e. all-at (λ x. x.area < length q.floods) q.panel.attrs rules.in_areas i a e))
    (range_with_len 0 (length q.panel.rows))
