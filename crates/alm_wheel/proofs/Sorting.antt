-- Of the nodes that were gathered, those that are due, in order.
use Rattle.std.proofs.Common.{◌≡◌, ℕ, ◌+◌, ◌-◌, ◌<◌, ◌≤◌, nat_lt, nat_le, Bool, true, false, Option, Some, None, List, length, get_or, cond, min, refl, sym, ◌∙◌, ap, arith, inl, inr}
use Rattle.std.specs.Prelude.{option_map, filter, ◌&&◌}
use Rattle.std.specs.List.Sorted.{IsPermutation}
use Rattle.std.specs.Ordering.{nat_cmp, ordering_then, is_lt}
use Rattle.std.specs.declared.cmp.Ordering.{Ordering}
use Rattle.std.specs.declared.cmp.Ordering.TheVariants.{Less, Equal}
use Rattle.std.proofs.lemmas.Bool.{cases_lt, lt-ltb, le-ltb, eq-eqb, ltb-true, leb-true, false≢true}
use Rattle.alm_lists.specs.Lists.{times}
use Rattle.alm_lists.specs.Orders.{IsSortedFilter}
use Rattle.alm_lists.proofs.Each.{all-filter}
use Rattle.alm_lists.proofs.Times.{times-filter}
use Rattle.alm_lists.proofs.Sorted.{IsNotAfter, rises-from_neighbours, times-IsPermutation, all-IsPermutation}
use Rattle.alm_links.specs.Lists.{Lists}
use Rattle.alm_wheel.specs.Deadlines.{slot_of, deadline_of, deadline_key, is_between, is_deadline_due}
use Rattle.alm_wheel.specs.Wheels.{IsWheel, nodes_behind}
use Rattle.alm_wheel.proofs.Gathering.{met, met_between, times-nodes_behind, small-nodes_behind, few-nodes_behind}

-- what the comparison by deadline and number says of neighbours
cmp-lt : (x y : ℕ) → x < y → nat_cmp x y ≡ Less
cmp-lt x y h = rw (lt-ltb x y h)

cmp-eq : (x y : ℕ) → x ≡ y → nat_cmp x y ≡ Equal
cmp-eq x y e = rw (e, le-ltb y y (omega arith), eq-eqb y y refl)

then_less : (o : Ordering) → o ≡ Less → (p : Ordering) → is_lt (ordering_then o p) ≡ true
then_less o e p = rw e

then_equal : (o : Ordering) → o ≡ Equal → (p : Ordering) → p ≡ Less → is_lt (ordering_then o p) ≡ true
then_equal o e p f = rw (e, f)

not_after : (key : ℕ → ℕ) (i j : ℕ) → is_lt (ordering_then (nat_cmp (key j) (key i)) (nat_cmp j i)) ≡ false → IsNotAfter key i j
not_after key i j e = elim (cases_lt (key i) (key j)) [
  | inl l ↦ inl l
  | inr g ↦ elim (cases_lt (key j) (key i)) [
    | inl l ↦ absurd (false≢true (sym e ∙ then_less (nat_cmp (key j) (key i)) (cmp-lt (key j) (key i) l) (nat_cmp j i)))
    | inr m ↦ elim (cases_lt j i) [
      | inl l ↦ absurd (false≢true (sym e ∙ then_equal (nat_cmp (key j) (key i)) (cmp-eq (key j) (key i) (omega arith)) (nat_cmp j i) (cmp-lt j i l)))
      | inr k ↦ inr (omega arith, k)
    ]
  ]
]

and_left : (a b : Bool) → (a && b) ≡ true → a ≡ true
and_left true b e = refl
and_left false b e = absurd (false≢true e)

and_right : (a b : Bool) → (a && b) ≡ true → b ≡ true
and_right true b e = e
and_right false b e = absurd (false≢true e)

-- the slot of a node that is due is met
met_due : (o : Option ℕ) (from to : ℕ) → is_between from to o ≡ true → met (option_map slot_of o) from (min (to - from) 256) ≡ 1
met_due None from to e = absurd (false≢true e)
met_due (Some d) from to e =
    met_between from to d (ltb-true from d (and_left (nat_lt from d) (nat_le d to) e)) (leb-true d to (and_right (nat_lt from d) (nat_le d to) e))

cond_one : (b : Bool) (n : ℕ) → (b ≡ true → n ≡ 1) → cond b n 0 ≡ cond b 1 0
cond_one true n f = f refl
cond_one false n f = refl

cond_few : (b : Bool) (n : ℕ) → n ≤ 1 → cond b n 0 ≤ 1
cond_few true n h = h
cond_few false n h = omega arith

pub due_sorted : (deadlines : List (Option ℕ)) (f : Lists) (from to : ℕ) (behind passed sorted : List ℕ) → IsWheel deadlines f → behind ≡ nodes_behind f.lists from (min (to - from) 256)
    → passed ≡ filter (is_deadline_due from to deadlines) behind → IsPermutation passed sorted
    → ((k d : ℕ) → k + 1 < length sorted
    → is_lt (ordering_then (nat_cmp (deadline_key deadlines (get_or sorted (k + 1) d)) (deadline_key deadlines (get_or sorted k d))) (nat_cmp (get_or sorted (k + 1) d) (get_or sorted k d))) ≡ false)
    → IsSortedFilter (deadline_key deadlines) (is_deadline_due from to deadlines) (length deadlines) sorted
due_sorted deadlines f from to behind passed sorted w b p moved up =
    let turns = min (to - from) 256 in
    let few : turns ≤ 256 = omega arith in
    let test = is_deadline_due from to deadlines in
    let times_in : (i : ℕ) → times i sorted ≡ cond (test i) (times i (nodes_behind f.lists from turns)) 0 =
    λ i. times-IsPermutation i passed sorted moved ∙ ap (times i) p ∙ times-filter test i behind ∙ ap (λ l. cond (test i) (times i l) 0) b in
    record {
      rises = rises-from_neighbours (deadline_key deadlines) sorted (λ k d h. not_after (deadline_key deadlines) (get_or sorted k d) (get_or sorted (k + 1) d) (up k d h))
          (λ i. rw (times_in i) (cond_few (test i) (times i (nodes_behind f.lists from turns)) (few-nodes_behind deadlines f from turns w few i)));
      small = all-IsPermutation (λ i. i < length deadlines) passed sorted moved (rw (p, b) (all-filter (λ i. i < length deadlines) test (nodes_behind f.lists from turns) (small-nodes_behind deadlines f from turns w)));
      members = λ i h. times_in i ∙ cond_one (test i) (times i (nodes_behind f.lists from turns)) (λ e. times-nodes_behind deadlines f i from turns w h ∙ met_due (deadline_of deadlines i) from to e);
    }
