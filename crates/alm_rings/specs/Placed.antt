-- Ends by their slots.
use Rattle.std.specs.Prelude.{◌≡◌, ◌==◌, ℕ, List, [], ◌∷◌, if◌then◌else◌, Option, Some, None, slice_get}
use Rattle.alm_types.specs.declared.want.Want.{Want}
use Rattle.alm_rings.specs.declared.receipt.Receipt.{Receipt}
use Rattle.alm_rings.specs.declared.told.Told.{Ghosts}
use Rattle.alm_rings.specs.declared.console.Console.{Console}
use Rattle.alm_rings.specs.declared.inbox.Inbox.{Inbox}
use Rattle.alm_rings.specs.declared.outbox.Outbox.{Outbox}
use Rattle.alm_rings.specs.Ends.{taken_of, waiting_in, released_of, room_in, SameInbox, SameOutbox}

-- the end of a slot, the first if there were several
abbrev pub end_at : {E : Type 0} → (E → ℕ) → ℕ → List E → Option E
end_at number slot [] = None
end_at number slot (e ∷ ends) = if number e == slot then Some e else end_at number slot ends

-- no slot has two ends
abbrev pub AreApart : {E : Type 0} → (E → ℕ) → List E → Type 0
AreApart {E} number ends = (j k : ℕ) (d e : E) → slice_get ends j ≡ Some d → slice_get ends k ≡ Some e → number d ≡ number e → j ≡ k

abbrev pub inbox_at : ℕ → List Inbox → Option Inbox
inbox_at slot inboxes = end_at (λ i. i.slot) slot inboxes

abbrev pub taken_in : Option Inbox → List Want
taken_in None = []
taken_in (Some i) = taken_of i

abbrev pub known_to : Option Inbox → List Want
known_to None = []
known_to (Some i) = waiting_in i

-- the requests of a slot that were taken, none if it has no end
abbrev pub taken_by : ℕ → List Inbox → List Want
taken_by slot inboxes = taken_in (inbox_at slot inboxes)

-- the requests of a slot that are known to wait
abbrev pub waiting_by : ℕ → List Inbox → List Want
waiting_by slot inboxes = known_to (inbox_at slot inboxes)

-- the same end, or none
abbrev pub SameInboxAt : Option Inbox → Option Inbox → Type 0
SameInboxAt None None = Unit {0}
SameInboxAt (Some a) (Some b) = SameInbox a b
SameInboxAt _ _ = ⊥

module _ {T : Type 0} {g : Ghosts T} where
  abbrev pub outbox_at : ℕ → List (Outbox T g) → Option (Outbox T g)
  outbox_at slot outboxes = end_at (λ o. o.slot) slot outboxes

  abbrev pub released_in : Option (Outbox T g) → List (Receipt T g)
  released_in None = []
  released_in (Some o) = released_of o

  abbrev pub room_at : Option (Outbox T g) → ℕ
  room_at None = 0
  room_at (Some o) = room_in o

  -- the receipts that were released to a slot, none if it has no end
  abbrev pub released_by : ℕ → List (Outbox T g) → List (Receipt T g)
  released_by slot outboxes = released_in (outbox_at slot outboxes)

  -- the places for receipts to a slot that are known to be free
  abbrev pub room_by : ℕ → List (Outbox T g) → ℕ
  room_by slot outboxes = room_at (outbox_at slot outboxes)

  abbrev pub SameOutboxAt : Option (Outbox T g) → Option (Outbox T g) → Type 0
  SameOutboxAt None None = Unit {0}
  SameOutboxAt (Some a) (Some b) = SameOutbox a b
  SameOutboxAt _ _ = ⊥

  abbrev pub console_at : ℕ → List (Console T g) → Option (Console T g)
  console_at slot consoles = end_at (λ c. c.slot) slot consoles
