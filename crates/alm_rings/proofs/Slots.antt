-- Laws of ends by their slots.
use Rattle.std.proofs.Common.{◌≡◌, ◌<◌, ◌≢◌, ◌≤◌, ℕ, length, true, false, List, [], ◌∷◌, zero, suc, refl, sym, ap, ◌∙◌, subst, arith, rules, ◌⊎◌, inl, inr, eq-eqb, Option, Some, None}
use Rattle.std.specs.Prelude.{◌==◌, slice_get, slice_set, get_or, IsSome}
use Rattle.std.proofs.lemmas.Bool.{cases_Bool, eqb-true, true≢false}
use Rattle.std.proofs.lemmas.Option.{none-some, same_Some, get_or_from_slice_get, slice_get_within}
use Rattle.alm_rings.specs.Ends.{SameInbox, SameOutbox}
use Rattle.alm_rings.specs.declared.told.Told.{Ghosts}
use Rattle.alm_rings.specs.declared.outbox.Outbox.{Outbox}
use Rattle.alm_rings.specs.declared.inbox.Inbox.{Inbox}
use Rattle.alm_rings.specs.Placed.{end_at, AreApart, inbox_at, SameInboxAt, outbox_at, SameOutboxAt}

-- a test that fails
pub apart_numbers : (m n : ℕ) → m ≢ n → (m == n) ≡ false
apart_numbers m n differ = elim (cases_Bool (m == n)) [ inl t ↦ absurd (differ (eqb-true m n t)) | inr f ↦ f ]

module _ {E : Type 0} (number : E → ℕ) where
  apart_tail : (e : E) (ends : List E) → AreApart number (e ∷ ends) → AreApart number ends
  apart_tail e ends apart = λ j k x y p q same. omega (arith, apart (suc j) (suc k) x y p q same)

  -- the end of its slot is the one at its place
  pub found : (ends : List E) (k : ℕ) (e : E) → AreApart number ends → slice_get ends k ≡ Some e → end_at number (number e) ends ≡ Some e
  found [] k e apart is = absurd (none-some e is)
  found (x ∷ ends) zero e apart is =
      let same : x ≡ e = same_Some x e is in
      let yes : (number x == number e) ≡ true = eq-eqb (number x) (number e) (ap number same) in
      rw yes is
  found (x ∷ ends) (suc k) e apart is = elim (cases_Bool (number x == number e)) [
    | inl t ↦ absurd (omega (arith, apart 0 (suc k) x e refl is (eqb-true (number x) (number e) t)))
    | inr f ↦ rw f (found ends k e (apart_tail x ends apart) is)
  ]

  -- another end at its place, of the same slot
  pub set_same : (ends : List E) (k : ℕ) (e new : E) → AreApart number ends → slice_get ends k ≡ Some e → number new ≡ number e → end_at number (number e) (slice_set ends k new) ≡ Some new
  set_same [] k e new apart is same = absurd (none-some e is)
  set_same (x ∷ ends) zero e new apart is same =
      let yes : (number new == number e) ≡ true = eq-eqb (number new) (number e) same in rw yes refl
  set_same (x ∷ ends) (suc k) e new apart is same = elim (cases_Bool (number x == number e)) [
    | inl t ↦ absurd (omega (arith, apart 0 (suc k) x e refl is (eqb-true (number x) (number e) t)))
    | inr f ↦ rw f (set_same ends k e new (apart_tail x ends apart) is same)
  ]

  pub set_other : (ends : List E) (k : ℕ) (e new : E) (slot : ℕ) → slice_get ends k ≡ Some e → number new ≡ number e → slot ≢ number e → end_at number slot (slice_set ends k new) ≡ end_at number slot ends
  set_other [] k e new slot is same other = refl
  set_other (x ∷ ends) zero e new slot is same other =
      let no : (number new == slot) ≡ false = apart_numbers (number new) slot (λ p. other (sym p ∙ same)) in
      let no2 : (number x == slot) ≡ false = apart_numbers (number x) slot (λ p. other (sym p ∙ ap number (same_Some x e is))) in
      rw (no, no2) refl
  set_other (x ∷ ends) (suc k) e new slot is same other = elim (cases_Bool (number x == slot)) [
    | inl t ↦ rw t refl
    | inr f ↦ rw f (set_other ends k e new slot is same other)
  ]

  -- an end that exists is at a place
  pub place_of : (ends : List E) (slot : ℕ) (e : E) → end_at number slot ends ≡ Some e → (k : ℕ) × ((slice_get ends k ≡ Some e) × (number e ≡ slot))
  place_of [] slot e is = absurd (none-some e is)
  place_of (x ∷ ends) slot e is = elim (cases_Bool (number x == slot)) [
    | inl t ↦ (let here : Some x ≡ Some e = rw t at is in (0, (here, ap number (sym (same_Some x e here)) ∙ eqb-true (number x) slot t)))
    | inr f ↦ (let rest = place_of ends slot e (rw f at is) in (suc rest.0, rest.1))
  ]

  some_of : {A : Type 0} (o : Option A) → IsSome o → (a : A) × (o ≡ Some a)
  some_of None h = absurd (cc h)
  some_of (Some a) h = (a, refl)

  -- places by slot keep the ends apart
  pub placed_apart : (ends : List E) (places : List ℕ) → ((k : ℕ) (e : E) → slice_get ends k ≡ Some e → slice_get places (number e) ≡ Some k) → AreApart number ends
  placed_apart ends places placed = λ j k d e p q same. same_Some j k (sym (placed j d p) ∙ (ap (slice_get places) same ∙ placed k e q))

  -- the place of a slot that has its end
  pub standing : (ends : List E) (places : List ℕ) (slot at : ℕ) → ((k : ℕ) (e : E) → slice_get ends k ≡ Some e → slice_get places (number e) ≡ Some k) → IsSome (end_at number slot ends) → get_or places slot 0 ≡ at
      → (e : E) × ((slice_get ends at ≡ Some e) × (number e ≡ slot) × (end_at number slot ends ≡ Some e))
  standing ends places slot at placed there is =
      let some = some_of (end_at number slot ends) there in
      let k = place_of ends slot some.0 some.1 in
      let here : slice_get places slot ≡ Some k.0 = ap (slice_get places) (sym k.1.1) ∙ placed k.0 some.0 k.1.0 in
      let same : k.0 ≡ at = sym (get_or_from_slice_get places slot k.0 0 here) ∙ is in
      (some.0, (subst (λ n. slice_get ends n ≡ Some some.0) same k.1.0, k.1.1, some.1))

  -- what is at a place after a write
  get_set : (ends : List E) (k j : ℕ) (new x : E) → slice_get (slice_set ends k new) j ≡ Some x → ((j ≡ k) × (x ≡ new)) ⊎ (slice_get ends j ≡ Some x)
  get_set [] k j new x is = inr is
  get_set (y ∷ ends) zero zero new x is = inl (refl, sym (same_Some new x is))
  get_set (y ∷ ends) zero (suc j) new x is = inr is
  get_set (y ∷ ends) (suc k) zero new x is = inr is
  get_set (y ∷ ends) (suc k) (suc j) new x is = elim (get_set ends k j new x is) [ inl h ↦ inl (ap suc h.0, h.1) | inr h ↦ inr h ]

  -- another end at its place is at the place that its slot says
  pub placed_set : (ends : List E) (places : List ℕ) (k : ℕ) (e new : E) → ((j : ℕ) (x : E) → slice_get ends j ≡ Some x → slice_get places (number x) ≡ Some j) → slice_get ends k ≡ Some e → number new ≡ number e
      → (j : ℕ) (x : E) → slice_get (slice_set ends k new) j ≡ Some x → slice_get places (number x) ≡ Some j
  placed_set ends places k e new placed at same j x is = elim (get_set ends k j new x is) [
    | inl h ↦ ap (λ y. slice_get places (number y)) h.1 ∙ (ap (slice_get places) same ∙ (placed k e at ∙ ap Some (sym h.0)))
    | inr h ↦ placed j x h
  ]

  -- and so do the slots of the ends, found by their places
  pub back_set : (ends : List E) (places : List ℕ) (at : ℕ) (e new : E) → ((s k : ℕ) (x : E) → slice_get places s ≡ Some k → slice_get ends k ≡ Some x → number x ≡ s) → slice_get ends at ≡ Some e → number new ≡ number e
      → (s k : ℕ) (x : E) → slice_get places s ≡ Some k → slice_get (slice_set ends at new) k ≡ Some x → number x ≡ s
  back_set ends places at e new back here same s k x to is = elim (get_set ends at k new x is) [
    | inl h ↦ ap number h.1 ∙ (same ∙ back s k e to (ap (slice_get ends) h.0 ∙ here))
    | inr h ↦ back s k x to h
  ]

  -- each slot, after another end was put at a place
  pub set_cases : (ends : List E) (k : ℕ) (e new : E) → AreApart number ends → slice_get ends k ≡ Some e → number new ≡ number e → (slot : ℕ)
      → ((slot ≡ number e) × (end_at number slot ends ≡ Some e) × (end_at number slot (slice_set ends k new) ≡ Some new)) ⊎ ((slot ≢ number e) × (end_at number slot (slice_set ends k new) ≡ end_at number slot ends))
  set_cases ends k e new apart at same slot = elim (cases_Bool (slot == number e)) [
    | inl t ↦ (let is = eqb-true slot (number e) t in
        inl (is, ap (λ s. end_at number s ends) is ∙ found ends k e apart at, ap (λ s. end_at number s (slice_set ends k new)) is ∙ set_same ends k e new apart at same))
    | inr f ↦ (let other : slot ≢ number e = λ p. (let t = eq-eqb slot (number e) p in absurd (true≢false (sym t ∙ f))) in
        inr (other, set_other ends k e new slot at same other))
  ]

  -- what is read of each slot's end stays, if it is the same of both ends
  pub set_by : {A : Type 0} (f : Option E → A) (ends : List E) (k : ℕ) (e new : E) → AreApart number ends → slice_get ends k ≡ Some e → number new ≡ number e → f (Some new) ≡ f (Some e) → (slot : ℕ) → f (end_at number slot (slice_set ends k new)) ≡ f (end_at number slot ends)
  set_by f ends k e new apart at same is slot = elim (set_cases ends k e new apart at same slot) [
    | inl h ↦ ap f h.2 ∙ (is ∙ ap f (sym h.1))
    | inr h ↦ ap f h.1
  ]

pub same_inbox : (i : Inbox) → SameInbox i i
same_inbox i = search rules

pub same_inbox_at : (o : Option Inbox) → SameInboxAt o o
same_inbox_at None = tt
same_inbox_at (Some i) = same_inbox i

-- the same inboxes after one was put at its place
pub same_inboxes : (inboxes : List Inbox) (k : ℕ) (i new : Inbox) → AreApart (λ i. i.slot) inboxes → slice_get inboxes k ≡ Some i → SameInbox i new → (s : ℕ) → SameInboxAt (inbox_at s inboxes) (inbox_at s (slice_set inboxes k new))
same_inboxes inboxes k i new apart at same s = elim (set_cases (λ i. i.slot) inboxes k i new apart at same.1 s) [
  | inl h ↦ rw (h.1, h.2) same
  | inr h ↦ rw h.1 (same_inbox_at (inbox_at s inboxes))
]

-- a slot whose place is after the ends has none
pub no_end : {E : Type 0} (number : E → ℕ) (ends : List E) (places : List ℕ) (slot at : ℕ) → ((k : ℕ) (e : E) → slice_get ends k ≡ Some e → slice_get places (number e) ≡ Some k) → get_or places slot 0 ≡ at → length ends ≤ at → end_at number slot ends ≡ None
no_end number ends places slot at placed is far = elim (end_at number slot ends) as (λ o. end_at number slot ends ≡ o → o ≡ None) [
  | None ↦ λ e. refl
  | Some x ↦ λ e. (let k = place_of number ends slot x e in
      let here : slice_get places slot ≡ Some k.0 = ap (slice_get places) (sym k.1.1) ∙ placed k.0 x k.1.0 in
      let same : at ≡ k.0 = sym is ∙ get_or_from_slice_get places slot k.0 0 here in
      absurd (omega (arith, same, far, slice_get_within ends k.0 x k.1.0)))
] refl

module _ {T : Type 0} {g : Ghosts T} where
  pub same_outbox : (o : Outbox T g) → SameOutbox o o
  same_outbox o = search rules

  pub same_outbox_at : (o : Option (Outbox T g)) → SameOutboxAt o o
  same_outbox_at None = tt
  same_outbox_at (Some o) = same_outbox o

  -- the same outboxes after one was put at its place
  pub same_outboxes : (outboxes : List (Outbox T g)) (k : ℕ) (o new : Outbox T g) → AreApart (λ (o : Outbox T g). o.slot) outboxes → slice_get outboxes k ≡ Some o → SameOutbox o new → (s : ℕ) → SameOutboxAt (outbox_at s outboxes) (outbox_at s (slice_set outboxes k new))
  same_outboxes outboxes k o new apart at same s = elim (set_cases (λ (o : Outbox T g). o.slot) outboxes k o new apart at same.1 s) [
    | inl h ↦ rw (h.1, h.2) same
    | inr h ↦ rw h.1 (same_outbox_at (outbox_at s outboxes))
  ]

-- a table of places
pub set_there : (xs : List ℕ) (j x : ℕ) → j < length xs → slice_get (slice_set xs j x) j ≡ Some x
set_there [] j x less = absurd (omega arith)
set_there (y ∷ xs) zero x less = refl
set_there (y ∷ xs) (suc j) x less = set_there xs j x (omega arith)

pub set_apart : (xs : List ℕ) (j k x : ℕ) → j ≢ k → slice_get (slice_set xs j x) k ≡ slice_get xs k
set_apart [] j k x other = refl
set_apart (y ∷ xs) zero zero x other = absurd (other refl)
set_apart (y ∷ xs) zero (suc k) x other = refl
set_apart (y ∷ xs) (suc j) zero x other = refl
set_apart (y ∷ xs) (suc j) (suc k) x other = set_apart xs j k x (λ p. other (ap suc p))
