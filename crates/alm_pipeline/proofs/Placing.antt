-- Ends of which one was synchronised.
use Rattle.std.proofs.Common.{◌≡◌, ◌≢◌, ◌⊎◌, inl, inr, ◌∙◌, ◌<◌, ◌∷◌, [], ℕ, zero, suc, List, length, Option, Some, None, slice_get, slice_set, is_some, true, refl, sym, ap, arith, eq-eqb, ◌==◌, false, subst}
use Rattle.std.proofs.lemmas.Option.{none-some, same_Some}
use Rattle.rtrb.specs.Ends.{SameRing}
use Rattle.rtrb.specs.declared.end.End.{End}
use Rattle.alm_rings.specs.declared.told.Told.{Ghosts}
use Rattle.alm_rings.specs.declared.inbox.Inbox.{Inbox}
use Rattle.alm_rings.specs.declared.outbox.Outbox.{Outbox}
use Rattle.std.proofs.lemmas.Bool.{cases_Bool, eqb-true, true≢false}
use Rattle.rtrb.specs.Ring.{IsPair}
use Rattle.alm_rings.specs.declared.console.Console.{Console}
use Rattle.alm_rings.specs.Ends.{SameConsole, SameInbox, SameOutbox}
use Rattle.alm_rings.specs.Placed.{SameInboxAt, SameOutboxAt}
use Rattle.alm_rings.proofs.Slots.{apart_numbers}
use Rattle.alm_pipeline.specs.World.{with_at}

-- after a write at a place
pub set_cases : {E : Type 0} (xs : List E) (k at : ℕ) (new e : E) → slice_get (slice_set xs at new) k ≡ Some e → ((k ≡ at) × (new ≡ e)) ⊎ ((k ≢ at) × (slice_get xs k ≡ Some e))
set_cases [] k at new e is = absurd (none-some e is)
set_cases (x ∷ xs) zero zero new e is = inl (refl, same_Some new e is)
set_cases (x ∷ xs) (suc k) zero new e is = inr ((λ p. absurd (omega (arith, p))), is)
set_cases (x ∷ xs) zero (suc at) new e is = inr ((λ p. absurd (omega (arith, p))), is)
set_cases (x ∷ xs) (suc k) (suc at) new e is = elim (set_cases xs k at new e is) [
  | inl l ↦ inl (ap suc l.0, l.1)
  | inr r ↦ inr ((λ p. r.0 (omega (arith, p))), r.1)
]

pub set_here : {E : Type 0} (xs : List E) (at : ℕ) (new : E) → at < length xs → slice_get (slice_set xs at new) at ≡ Some new
set_here [] at new less = absurd (omega (arith, less))
set_here (x ∷ xs) zero new less = refl
set_here (x ∷ xs) (suc at) new less = set_here xs at new (omega (arith, less))

pub still_inbox : (a b : Option Inbox) → SameInboxAt a b → is_some a ≡ true → is_some b ≡ true
still_inbox None None same some = some
still_inbox (Some i) (Some j) same some = refl
still_inbox None (Some j) same some = absurd same
still_inbox (Some i) None same some = absurd same

pub some_there : {E : Type 0} (o : Option E) → is_some o ≡ true → (e : E) × (o ≡ Some e)
some_there None is = absurd (cc is)
some_there (Some e) is = (e, refl)

-- the end before that was this one
pub back_inbox : (a b : Option Inbox) (i : Inbox) → SameInboxAt a b → b ≡ Some i → (x : Inbox) × (a ≡ Some x) × SameInbox x i
back_inbox None None i same is = absurd (none-some i is)
back_inbox None (Some y) i same is = absurd same
back_inbox (Some x) None i same is = absurd same
back_inbox (Some x) (Some y) i same is = (x, refl, subst (SameInbox x) (same_Some y i is) same)

module _ {T A P : Type 0} where
  pub ring_trans : (a b c : End T A P) → SameRing a b → SameRing b c → SameRing a c
  ring_trans a b c r s = (s.0 ∙ r.0, s.1 ∙ r.1, s.2 ∙ r.2, s.3 ∙ r.3)

  pub ring_sym : (a b : End T A P) → SameRing a b → SameRing b a
  ring_sym a b r = (sym r.0, sym r.1, sym r.2, sym r.3)

module _ {T : Type 0} {g : Ghosts T} where
  pub still_outbox : (a b : Option (Outbox T g)) → SameOutboxAt a b → is_some a ≡ true → is_some b ≡ true
  still_outbox None None same some = some
  still_outbox (Some i) (Some j) same some = refl
  still_outbox None (Some j) same some = absurd same
  still_outbox (Some i) None same some = absurd same

  pub still_requests : (c c' : Console T g) (i : Inbox) → SameConsole c c' → IsPair c.requests i.requests → IsPair c'.requests i.requests
  still_requests c c' i same pair = ring_trans c'.requests.end c.requests.end i.requests.end (ring_sym c.requests.end c'.requests.end same.0.0) pair

  pub still_replies : (c c' : Console T g) (o : Outbox T g) → SameConsole c c' → IsPair o.replies c.replies → IsPair o.replies c'.replies
  still_replies c c' o same pair = ring_trans o.replies.end c.replies.end c'.replies.end pair same.1.0

pub same_or_not : (m n : ℕ) → (m ≡ n) ⊎ (m ≢ n)
same_or_not m n = elim (cases_Bool (m == n)) [ inl t ↦ inl (eqb-true m n t) | inr f ↦ inr (λ p. true≢false (sym (eq-eqb m n p) ∙ f)) ]

pub with_here : {A : Type 0} (f : ℕ → A) (slot : ℕ) (x : A) (s : ℕ) → s ≡ slot → with_at f slot x s ≡ x
with_here f slot x s is = let yes : (s == slot) ≡ true = eq-eqb s slot is in rw yes refl

pub with_there : {A : Type 0} (f : ℕ → A) (slot : ℕ) (x : A) (s : ℕ) → s ≢ slot → with_at f slot x s ≡ f s
with_there f slot x s differ = let no : (s == slot) ≡ false = apart_numbers s slot differ in rw no refl

module _ {T : Type 0} {g : Ghosts T} where
  pub back_outbox : (a b : Option (Outbox T g)) (i : Outbox T g) → SameOutboxAt a b → b ≡ Some i → (x : Outbox T g) × (a ≡ Some x) × SameOutbox x i
  back_outbox None None i same is = absurd (none-some i is)
  back_outbox None (Some y) i same is = absurd same
  back_outbox (Some x) None i same is = absurd same
  back_outbox (Some x) (Some y) i same is = (x, refl, subst (SameOutbox x) (same_Some y i is) same)
