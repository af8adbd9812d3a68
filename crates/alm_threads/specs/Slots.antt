-- The ends of some slots.
use Rattle.std.specs.Prelude.{◌≡◌, ℕ, List, [], slice_get, Some, IsSome}
use Rattle.rtrb.specs.Ring.{IsPair}
use Rattle.alm_rings.specs.declared.console.Console.{Console}
use Rattle.alm_rings.specs.declared.inbox.Inbox.{Inbox}
use Rattle.alm_rings.specs.declared.outbox.Outbox.{Outbox}
use Rattle.alm_rings.specs.declared.told.Told.{Ghosts}
use Rattle.alm_rings.specs.Ends.{sent_of, received_of}
use Rattle.alm_rings.specs.Placed.{AreApart, inbox_at, outbox_at, taken_by, released_by}

module _ {T : Type 0} {g : Ghosts T} where
  -- no slot has two ends, and nothing went through them
  pub record AreNew (inboxes : List Inbox) (outboxes : List (Outbox T g)) : Type 0 where
    pub inboxes_apart : AreApart (λ i. i.slot) inboxes
    pub outboxes_apart : AreApart (λ o. o.slot) outboxes
    pub taken : (s : ℕ) → taken_by s inboxes ≡ []
    pub released : (s : ℕ) → released_by s outboxes ≡ []

  -- nothing went through these consoles
  abbrev pub AreNewConsoles : List (Console T g) → Type 0
  AreNewConsoles consoles = (k : ℕ) (c : Console T g) → slice_get consoles k ≡ Some c → (sent_of c ≡ []) × (received_of c ≡ [])

  -- each console's slot has its other two ends there
  pub record AreTied (consoles : List (Console T g)) (inboxes : List Inbox) (outboxes : List (Outbox T g)) : Type 0 where
    pub has_inbox : (k : ℕ) (c : Console T g) → slice_get consoles k ≡ Some c → IsSome (inbox_at c.slot inboxes)
    pub has_outbox : (k : ℕ) (c : Console T g) → slice_get consoles k ≡ Some c → IsSome (outbox_at c.slot outboxes)
    pub requests : (k : ℕ) (c : Console T g) (i : Inbox) → slice_get consoles k ≡ Some c → inbox_at c.slot inboxes ≡ Some i → IsPair c.requests i.requests
    pub replies : (k : ℕ) (c : Console T g) (o : Outbox T g) → slice_get consoles k ≡ Some c → outbox_at c.slot outboxes ≡ Some o → IsPair o.replies c.replies
