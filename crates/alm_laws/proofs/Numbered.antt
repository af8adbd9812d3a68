-- The lists by number.
use Rattle.std.proofs.Common.{◌≡◌, ℕ, ◌<◌, ◌+◌, Bool, List, length, zero, suc, refl, sym, arith, inl, inr, subst}
use Rattle.std.specs.Prelude.{◌↔◌, AllPairs, Contains, filter, slice_get}
use Rattle.std.specs.List.{range_with_len}
use Rattle.std.proofs.lemmas.Option.{slice_get_within}
use Rattle.alm_types.specs.declared.attr.Attr.{Attr}
use Rattle.alm_state.specs.Rows.{State}
use Rattle.alm_lists.specs.Orders.{Precedes, RisesByRecursion}
use Rattle.alm_lists.proofs.Each.{all-range}
use Rattle.alm_model.specs.Plant.{Condensed}
use Rattle.alm_model.specs.Lists.{list_of, stands_in, is_one, is_old, is_frequent, moments_in}
use Rattle.alm_model.specs.Rules.{KeepsRules}
use Rattle.alm_model.specs.declared.list.List.TheVariants.{Stale, Chatter}
use Rattle.alm_model.proofs.Kept.{there}
use Rattle.alm_model.proofs.Members.{Has-from, Contains-from, filter-Has, range-Has, AllPairs-from, EachPair-from}
use Rattle.alm_model.proofs.Rising.{each-rises, one-rising}
use Rattle.alm_laws.specs.Listed.{IsStaleAlarm, IsChatteringAlarm}
use Rattle.alm_laws.specs.Plant.{IsAlarmOf}
use Rattle.alm_laws.proofs.Measuring.{stale-so, chatter-so}
use Rattle.alm_laws.proofs.Meeting.{rises-keep}

abbrev level : ℕ → ℕ
level i = 0

up : (i j : ℕ) → Precedes level i j → i < j
up i j (inl l) = absurd (omega arith)
up i j (inr e) = e.1

range-rises : (a n : ℕ) → RisesByRecursion level (range_with_len a n)
range-rises a zero = tt
range-rises a (suc n) = (all-range (Precedes level a) (a + 1) n (λ x l m. inr (refl, omega arith)), range-rises (a + 1) n)

module _ (p r : ℕ → Bool) (n : ℕ) where
  rises : RisesByRecursion level (filter p (filter r (range_with_len 0 n)))
  rises = rises-keep p level (filter r (range_with_len 0 n)) (rises-keep r level (range_with_len 0 n) (range-rises 0 n))

  numbered : AllPairs (λ i j. i < j) (filter p (filter r (range_with_len 0 n)))
  numbered i j d l m = up _ _ (AllPairs-from (Precedes level) (filter p (filter r (range_with_len 0 n))) (each-rises level (filter p (filter r (range_with_len 0 n))) rises) i j d l m)

  below : (i : ℕ) → Contains (filter p (filter r (range_with_len 0 n))) i → i < n
  below i c = let outer = filter-Has p i (filter r (range_with_len 0 n)) (Has-from i (filter p (filter r (range_with_len 0 n))) c) in
      let inner = filter-Has r i (range_with_len 0 n) outer.0 in
      let l = (range-Has i 0 n inner.0).1 in
      omega arith

  pub one-numbered : (P : ℕ → Type 0) (out : List ℕ) → ((i : ℕ) → Contains (filter p (filter r (range_with_len 0 n))) i ↔ P i)
      → (AllPairs (λ i j. i < j) out × ((i : ℕ) → Contains out i ↔ P i)) ↔ (out ≡ filter p (filter r (range_with_len 0 n)))
  one-numbered P out members = (
    λ h. (let pairs : AllPairs (Precedes level) out = λ i j d l m. inr (refl, h.0 i j d l m) in
        one-rising level out (filter p (filter r (range_with_len 0 n))) (EachPair-from (Precedes level) out pairs) (each-rises level (filter p (filter r (range_with_len 0 n))) rises)
        (λ i m. Has-from i (filter p (filter r (range_with_len 0 n))) ((members i).1 ((h.1 i).0 (Contains-from i out m))))
        (λ i m. Has-from i out ((h.1 i).1 ((members i).0 (Contains-from i (filter p (filter r (range_with_len 0 n))) m))))),
    λ e. subst (λ l. AllPairs (λ i j. i < j) l × ((i : ℕ) → Contains l i ↔ P i)) (sym e) (numbered, members),
  )

-- the alarm of a number
alarm-of : (q : Condensed) (i : ℕ) → KeepsRules q → i < length q.panel.rows → (a : Attr) × (s : State) × IsAlarmOf q i a s
alarm-of q i h l =
    let s = there q.panel.rows i l in
    let a = there q.panel.attrs i (let many = h.attrs in omega (arith, l, many)) in
    (a.0, s.0, record { rules = h; attr = a.1; row = s.1 })

abbrev is_stale_at : Condensed → ℕ → Bool
is_stale_at q i = is_old q.panel.now (moments_in (slice_get q.kept.moments i))

abbrev is_frequent_at : Condensed → ℕ → Bool
is_frequent_at q i = is_frequent q.panel.now (moments_in (slice_get q.kept.moments i))

pub one-stale : (q : Condensed) (out : List ℕ) → KeepsRules q → (AllPairs (λ i j. i < j) out × ((i : ℕ) → Contains out i ↔ IsStaleAlarm q i)) ↔ (out ≡ list_of Stale q)
one-stale q out h = one-numbered (is_stale_at q) (is_one (stands_in Stale) q.panel.attrs q.panel.rows) (length q.panel.rows) (IsStaleAlarm q) out (λ i. (
  λ c. (let w = alarm-of q i h (below (is_stale_at q) (is_one (stands_in Stale) q.panel.attrs q.panel.rows) (length q.panel.rows) i c) in (w.0, w.1, w.2.attr, w.2.row, (stale-so q i w.0 w.1 w.2).0 c)),
  λ w. (stale-so q i w.0 w.1 (record { rules = h; attr = w.2; row = w.3 })).1 w.4,
))

pub one-chattering : (q : Condensed) (out : List ℕ) → KeepsRules q → (AllPairs (λ i j. i < j) out × ((i : ℕ) → Contains out i ↔ IsChatteringAlarm q i)) ↔ (out ≡ list_of Chatter q)
one-chattering q out h = one-numbered (is_frequent_at q) (is_one (stands_in Chatter) q.panel.attrs q.panel.rows) (length q.panel.rows) (IsChatteringAlarm q) out (λ i. (
  λ c. (let l = below (is_frequent_at q) (is_one (stands_in Chatter) q.panel.attrs q.panel.rows) (length q.panel.rows) i c in
      let w = alarm-of q i h l in
      let ms = there q.kept.moments i (let many = h.recent in omega (arith, l, many)) in
      (ms.0, ms.1, (chatter-so q i w.0 w.1 ms.0 w.2 ms.1).0 c)),
  λ w. (let l = slice_get_within q.kept.moments i w.0 w.1 in
      let a = alarm-of q i h (let many = h.recent in omega (arith, l, many)) in
      (chatter-so q i a.0 a.1 w.0 a.2 w.1).1 w.2),
))
