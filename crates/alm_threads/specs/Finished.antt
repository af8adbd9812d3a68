-- What is left in the rings of a run whose ends are in one thread.
use Rattle.std.specs.Prelude.{◌≡◌, ◌<◌, ◌^◌, ℕ, List, length, slice_get, Some, IsSome}
use Rattle.rtrb.specs.Ring.{IsPair}
use Rattle.alm_rings.specs.declared.console.Console.{Console}
use Rattle.alm_rings.specs.declared.inbox.Inbox.{Inbox}
use Rattle.alm_rings.specs.declared.outbox.Outbox.{Outbox}
use Rattle.alm_rings.specs.declared.told.Told.{Ghosts}
use Rattle.alm_rings.specs.Ends.{sent_of}
use Rattle.alm_rings.specs.Placed.{inbox_at, taken_by, released_by}

module _ {T : Type 0} {g : Ghosts T} where
  -- the slot of each console has its inbox there
  pub record HaveInboxes (consoles : List (Console T g)) (inboxes : List Inbox) : Type 0 where
    pub has_inbox : (k : ℕ) (c : Console T g) → slice_get consoles k ≡ Some c → IsSome (inbox_at c.slot inboxes)
    pub requests : (k : ℕ) (c : Console T g) (i : Inbox) → slice_get consoles k ≡ Some c → inbox_at c.slot inboxes ≡ Some i → IsPair c.requests i.requests

  -- all that was sent was taken, and serials have 64 bits
  abbrev pub IsTaken : Console T g → List Inbox → Type 0
  IsTaken c inboxes = (taken_by c.slot inboxes ≡ sent_of c) × (length (sent_of c) < 2 ^ 64)

  abbrev pub AreAllTaken : List (Console T g) → List Inbox → Type 0
  AreAllTaken consoles inboxes = (k : ℕ) (c : Console T g) → slice_get consoles k ≡ Some c → IsTaken c inboxes

  -- and all that was taken was answered
  pub record IsAllAnswered (consoles : List (Console T g)) (inboxes : List Inbox) (outboxes : List (Outbox T g)) : Type 0 where
    pub taken : AreAllTaken consoles inboxes
    pub answered : (s : ℕ) → length (released_by s outboxes) ≡ length (taken_by s inboxes)
