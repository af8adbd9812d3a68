-- Inboxes that stay the same ends.
use Rattle.std.proofs.Common.{ℕ, List, Option, Some, None, refl, rules}
use Rattle.std.specs.Prelude.{IsSome}
use Rattle.alm_rings.specs.declared.inbox.Inbox.{Inbox}
use Rattle.alm_rings.specs.declared.outbox.Outbox.{Outbox}
use Rattle.alm_rings.specs.declared.told.Told.{Ghosts}
use Rattle.alm_rings.specs.Placed.{SameInboxAt, inbox_at, SameOutboxAt}
use Rattle.alm_seq.specs.Sequences.{SameInboxes}
use Rattle.alm_threads.specs.Serving.{ServesSlots}

pub same_at_trans : (a b c : Option Inbox) → SameInboxAt a b → SameInboxAt b c → SameInboxAt a c
same_at_trans None None None p q = tt
same_at_trans None None (Some z) p q = absurd q
same_at_trans None (Some y) c p q = absurd p
same_at_trans (Some x) None c p q = absurd p
same_at_trans (Some x) (Some y) None p q = absurd q
same_at_trans (Some x) (Some y) (Some z) p q = search rules

pub some_still : (a b : Option Inbox) → SameInboxAt a b → IsSome a → IsSome b
some_still None None p q = q
some_still None (Some y) p q = absurd p
some_still (Some x) None p q = absurd p
some_still (Some x) (Some y) p q = refl

pub serves_still : (slots : List ℕ) (a b : List Inbox) → SameInboxes a b → ServesSlots slots a → ServesSlots slots b
serves_still slots a b same serves = λ k s at. some_still (inbox_at s a) (inbox_at s b) (same s) (serves k s at)

module _ {T : Type 0} {g : Ghosts T} where
  pub out_trans : (a b c : Option (Outbox T g)) → SameOutboxAt a b → SameOutboxAt b c → SameOutboxAt a c
  out_trans None None None p q = tt
  out_trans None None (Some z) p q = absurd q
  out_trans None (Some y) c p q = absurd p
  out_trans (Some x) None c p q = absurd p
  out_trans (Some x) (Some y) None p q = absurd q
  out_trans (Some x) (Some y) (Some z) p q = search rules
