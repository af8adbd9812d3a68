-- What each call of the sequencer answers.
use Rattle.std.specs.Prelude.{◌≡◌, ◌≢◌, ◌+◌, ◌<◌, ℕ, List, [], ◌∷◌, ◌++◌, length, None}
use mathlib.Core.List.{IsPrefix}
use Rattle.alm_types.specs.declared.verdict.Verdict.{Verdict}
use Rattle.alm_types.specs.declared.entry.Entry.{Entry}
use Rattle.alm_model.specs.declared.alarms.Alarms.{Ghosts}
use Rattle.alm_model.specs.Plant.{Condensed}
use Rattle.alm_model.specs.Step.{run}
use Rattle.alm_model.specs.Judging.{accepted_of, verdict_of, request_of, entries_in}
use Rattle.alm_rings.specs.declared.inbox.Inbox.{Inbox}
use Rattle.alm_rings.specs.Batches.{sealed_of, emptied_of, empties_in, places_of}
use Rattle.alm_rings.specs.Placed.{inbox_at, taken_by, waiting_by, SameInboxAt}
use Rattle.alm_seq.specs.Spares.{spares}
use Rattle.alm_seq.specs.declared.sequencer.Sequencer.{Sequencer}
use Rattle.alm_seq.specs.declared.take.Take.{Take}
use Rattle.alm_seq.specs.declared.take.Take.TheVariants.{Taken, Empty, BatchFull}
use Rattle.alm_seq.specs.declared.seal.Seal.{Seal}
use Rattle.alm_seq.specs.declared.seal.Seal.TheVariants.{Sealed, NothingToSeal, NoRoom}
use Rattle.alm_types.specs.Sizes.{most_entries}

-- the same inboxes, of the same slots
abbrev pub SameInboxes : List Inbox → List Inbox → Type 0
SameInboxes old new = (s : ℕ) → SameInboxAt (inbox_at s old) (inbox_at s new)

module _ {P : Type 0} {g : Ghosts P} where
  -- the entries of its sealed batches
  abbrev pub sealed_by : Sequencer P g → List Entry
  sealed_by s = entries_in (sealed_of s.ends)

  -- those of its open one
  abbrev pub open_of : Sequencer P g → List Entry
  open_of s = s.batch.entries

  -- all of them
  abbrev pub history_of : Sequencer P g → List Entry
  history_of s = sealed_by s ++ open_of s

  abbrev pub live_base : Sequencer P g → Condensed
  live_base s = g.plant s.base.value

  abbrev pub live_of : Sequencer P g → Condensed
  live_of s = run (live_base s) (accepted_of (history_of s))

  -- it kept its base and its batches
  abbrev pub SameSeals : Sequencer P g → Sequencer P g → Type 0
  SameSeals old new = (new.base.value ≡ old.base.value) × (new.ends ≡ old.ends) × (new.spare ≡ old.spare) × (new.batch.first ≡ old.batch.first)

  -- no change
  abbrev pub Unchanged : Sequencer P g → Sequencer P g → Type 0
  Unchanged old new = (new.inboxes ≡ old.inboxes) × (new.ends ≡ old.ends) × (new.batch ≡ old.batch) × (new.spare ≡ old.spare) × (new.plant ≡ old.plant) × (new.base ≡ old.base)

  -- the next request of a slot was judged on the live plant, and joined the open batch
  pub record Takes (slot : ℕ) (verdict : Verdict) (old new : Sequencer P g) : Type 0 where
    pub entry : Entry
    pub of : entry.slot ≡ slot
    pub entries : open_of new ≡ open_of old ++ entry ∷ []
    pub taken : taken_by slot new.inboxes.items ≡ taken_by slot old.inboxes.items ++ entry.want ∷ []
    pub others : (s : ℕ) → s ≢ slot → inbox_at s new.inboxes.items ≡ inbox_at s old.inboxes.items
    pub serial : entry.serial ≡ length (taken_by slot new.inboxes.items)
    pub told : entry.verdict ≡ verdict
    pub judged : verdict ≡ verdict_of (live_of old) (request_of entry)
    pub next : IsPrefix (waiting_by slot old.inboxes.items) (entry.want ∷ waiting_by slot new.inboxes.items)

  abbrev pub TakeAnswers : Take → ℕ → Sequencer P g → Sequencer P g → Type 0
  TakeAnswers (Taken verdict) slot old new = (length (open_of old) < most_entries) × Takes slot verdict old new
  TakeAnswers Empty slot old new = (open_of new ≡ open_of old) × ((s : ℕ) → taken_by s new.inboxes.items ≡ taken_by s old.inboxes.items) × ((s : ℕ) → waiting_by s new.inboxes.items ≡ waiting_by s old.inboxes.items) × (waiting_by slot old.inboxes.items ≡ [])
  TakeAnswers BatchFull slot old new = Unchanged old new × (length (open_of old) ≡ most_entries)

  -- the open batch was sealed, and an empty one is open
  pub record Seals (old new : Sequencer P g) : Type 0 where
    pub some : 0 < length (open_of old)
    pub sealed : sealed_of new.ends ≡ sealed_of old.ends ++ old.batch ∷ []
    pub entries : open_of new ≡ []
    pub free : length (emptied_of new.ends) + spares old.spare ≡ length (emptied_of old.ends) + 1
    pub spare : new.spare ≡ None

  abbrev pub SealAnswers : Seal → Sequencer P g → Sequencer P g → Type 0
  SealAnswers Sealed old new = Seals old new
  SealAnswers NothingToSeal old new = Unchanged old new × (open_of old ≡ [])
  SealAnswers NoRoom old new = (sealed_of new.ends ≡ sealed_of old.ends) × (new.batch ≡ old.batch) × (length (emptied_of new.ends) + spares old.spare ≡ length (emptied_of old.ends) + spares new.spare) × (0 < spares old.spare + length (empties_in old.ends) → places_of old.ends ≡ 0)
