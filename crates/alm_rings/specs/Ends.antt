-- The ends of a slot: what went into its rings, what came out, and what each end knows.
use Rattle.std.specs.Prelude.{◌≡◌, ℕ, List}
use Rattle.rtrb.specs.Ring.{sent, received, known_free, known_items, IsPair, SameProducer, SameConsumer}
use Rattle.alm_types.specs.declared.want.Want.{Want}
use Rattle.alm_rings.specs.declared.receipt.Receipt.{Receipt}
use Rattle.alm_rings.specs.declared.told.Told.{Ghosts}
use Rattle.alm_rings.specs.declared.console.Console.{Console}
use Rattle.alm_rings.specs.declared.inbox.Inbox.{Inbox}
use Rattle.alm_rings.specs.declared.outbox.Outbox.{Outbox}

-- all requests that were taken, oldest first
abbrev pub taken_of : Inbox → List Want
taken_of i = received i.requests

-- the requests that it knows to wait
abbrev pub waiting_in : Inbox → List Want
waiting_in i = known_items i.requests

-- the same end
abbrev pub SameInbox : Inbox → Inbox → Type 0
SameInbox a b = SameConsumer a.requests b.requests × (b.slot ≡ a.slot)

module _ {T : Type 0} {g : Ghosts T} where
  -- all requests that were sent, oldest first
  abbrev pub sent_of : Console T g → List Want
  sent_of c = sent c.requests

  -- all receipts that were received, oldest first
  abbrev pub received_of : Console T g → List (Receipt T g)
  received_of c = received c.replies

  -- the receipts that it knows to wait
  abbrev pub coming_to : Console T g → List (Receipt T g)
  coming_to c = known_items c.replies

  -- the places for requests that it knows to be free
  abbrev pub room_of : Console T g → ℕ
  room_of c = known_free c.requests

  -- all receipts that were released, oldest first
  abbrev pub released_of : Outbox T g → List (Receipt T g)
  released_of o = sent o.replies

  -- the places for receipts that it knows to be free
  abbrev pub room_in : Outbox T g → ℕ
  room_in o = known_free o.replies

  -- the three ends of one slot
  abbrev pub AreEnds : Console T g → Inbox → Outbox T g → Type 0
  AreEnds c i o = IsPair c.requests i.requests × IsPair o.replies c.replies × (i.slot ≡ c.slot) × (o.slot ≡ c.slot)

  -- the same end
  abbrev pub SameConsole : Console T g → Console T g → Type 0
  SameConsole a b = SameProducer a.requests b.requests × SameConsumer a.replies b.replies × (b.slot ≡ a.slot)

  abbrev pub SameOutbox : Outbox T g → Outbox T g → Type 0
  SameOutbox a b = SameProducer a.replies b.replies × (b.slot ≡ a.slot)
