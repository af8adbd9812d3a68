-- The world: plain lists of what was sent, accepted, stored, shown and reported; which steps are possible in it, what each step
-- answers, and what the world is then. What a slot has seen is not in it: no answer depends on that.
use Rattle.std.specs.Prelude.{suc, ◌≡◌, ◌⊎◌, ◌<◌, ◌≤◌, ◌+◌, ◌-◌, ◌^◌, ◌==◌, if◌then◌else◌, ℕ, Bool, true, false, max, List, [], ◌∷◌, ◌++◌, length, take, drop, slice_get, Option, Some, None, is_some, IsOk}
use Rattle.alm_types.specs.declared.action.Action.{Action}
use Rattle.alm_types.specs.declared.want.Want.{Want}
use Rattle.alm_types.specs.declared.entry.Entry.{Entry}
use Rattle.alm_types.specs.declared.verdict.Verdict.{Verdict}
use Rattle.alm_model.specs.Plant.{Condensed}
use Rattle.alm_model.specs.Step.{run}
use Rattle.alm_model.specs.Look.{look, asks_list}
use Rattle.alm_model.specs.Judging.{verdict_of, accepted_of}
use Rattle.alm_store.specs.declared.open_fault.OpenFault.{OpenFault}
use Rattle.alm_store.specs.declared.open_fault.OpenFault.TheVariants as F
use Rattle.alm_pipeline.specs.declared.step.Step.{Step}
use Rattle.alm_pipeline.specs.declared.step.Step.TheVariants.{Send, Take, Seal, Fetch, Call, Publish, Release, GiveBack, Receive, Look, Crash, Reopen}
use Rattle.alm_pipeline.specs.declared.step_event.StepEvent.{StepEvent}
use Rattle.alm_pipeline.specs.declared.step_event.StepEvent.TheVariants.{Sent, Busy, Took, Sealed, Fetched, More, Committed, Failed, Published, Released, GaveBack, Received, Looked, Crashed, Opened, Unopened, Skipped}
use Rattle.alm_types.specs.Sizes.{most_entries, most_out}

-- ---- the world

-- the batch that was fetched, and its progress: held, stored, and shown with a number of its verdicts released
pub data BatchStage : Type 0 where
  Nothing : BatchStage
  Held : List Entry → BatchStage
  Stored : List Entry → BatchStage
  Shown : List Entry → ℕ → BatchStage

-- what a receipt says: the request's serial, its verdict, and the count of the plant with all accepted actions up to it
pub record Note : Type 0 where
  pub serial : ℕ
  pub verdict : Verdict
  pub number : ℕ

pub record World : Type 0 where
  -- the plant that the device encoded at the very first, and all accepted actions since
  pub base : Condensed
  pub accepted : List Action
  -- what each slot has sent, and how many of it were taken
  pub sent : ℕ → List Want
  pub taken : ℕ → ℕ
  -- what was released to each slot, and how many of it were received
  pub released : ℕ → List Note
  pub received : ℕ → ℕ
  -- the open batch, the sealed ones in their order, how many are free, and the one that was fetched
  pub taking : List Entry
  pub sealed : List (List Entry)
  pub free : ℕ
  pub stage : BatchStage
  -- how far the accepted list is stored, and shown
  pub stored : List Action
  pub published : List Action
  -- the greatest number that was released or count that was shown, over all reopenings
  pub floor : ℕ
  pub closed : Bool

-- the plant of all accepted actions
abbrev pub live : World → Condensed
live w = run w.base w.accepted

-- the published plant
abbrev pub shown_in : World → Condensed
shown_in w = run w.base w.published

-- the same, except for one slot
abbrev pub with_at : {A : Type 0} → (ℕ → A) → ℕ → A → ℕ → A
with_at f slot x s = if s == slot then x else f s

-- an open world with no work under way
abbrev pub new_world : Condensed → List Action → ℕ → World
new_world plant kept least = record {
  base = plant;
  accepted = kept;
  sent = λ _. [];
  taken = λ _. 0;
  released = λ _. [];
  received = λ _. 0;
  taking = [];
  sealed = [];
  free = 7;
  stage = Nothing;
  stored = kept;
  published = kept;
  floor = least;
  closed = false;
}

-- the world that begins with this plant
abbrev pub first : Condensed → World
first plant = new_world plant [] plant.panel.count

-- ---- what is possible, and what is answered

-- what is answered to the request that a slot has sent: it is judged on the plant of all actions accepted before it
abbrev pub judges : World → ℕ → Option Want → Verdict → Type 0
judges w slot None v = ⊥
judges w slot (Some a) v = v ≡ verdict_of (live w) (record { slot = slot; want = a })

abbrev pub entry_for : World → ℕ → Option Want → Verdict → List Entry
entry_for w slot None v = []
entry_for w slot (Some a) v = record { slot = slot; serial = w.taken slot + 1; want = a; verdict = v } ∷ []

abbrev pub IsHeld : BatchStage → Type 0
IsHeld (Held entries) = Unit {0}
IsHeld stage = ⊥

abbrev pub IsStored : BatchStage → Type 0
IsStored (Stored entries) = Unit {0}
IsStored stage = ⊥

abbrev pub HasVerdicts : BatchStage → Type 0
HasVerdicts (Shown entries n) = n < length entries
HasVerdicts stage = ⊥

abbrev pub IsReleased : BatchStage → Type 0
IsReleased (Shown entries n) = length entries ≤ n
IsReleased stage = ⊥

abbrev pub entries_at : BatchStage → List Entry
entries_at Nothing = []
entries_at (Held entries) = entries
entries_at (Stored entries) = entries
entries_at (Shown entries n) = entries

-- what the next receipt says
abbrev pub note_of : World → List Entry → ℕ → Option Entry → List Note
note_of w entries n None = []
note_of w entries n (Some e) = record { serial = e.serial; verdict = e.verdict; number = w.base.panel.count + length w.published - length (accepted_of (drop (suc n) entries)) } ∷ []

abbrev pub next_notes : World → BatchStage → List Note
next_notes w (Shown entries n) = note_of w entries n (slice_get entries n)
next_notes w stage = []

-- the entry whose verdict is the next
abbrev pub next_entry : BatchStage → Option Entry
next_entry (Shown entries n) = slice_get entries n
next_entry stage = None

abbrev pub goes_to : Option Entry → ℕ → Type 0
goes_to None slot = ⊥
goes_to (Some e) slot = e.slot ≡ slot

abbrev pub raise : ℕ → List Note → ℕ
raise least [] = least
raise least (note ∷ notes) = max least note.number

abbrev pub Possible : World → Step → Type 0
Possible w (Send slot a) = w.closed ≡ false
Possible w (Take slot) = (w.closed ≡ false) × (w.taken slot < length (w.sent slot)) × (length w.taking < most_entries)
Possible w Seal = (w.closed ≡ false) × (0 < length w.taking) × (0 < w.free)
Possible w Fetch = (w.closed ≡ false) × (w.stage ≡ Nothing) × (0 < length w.sealed)
Possible w Call = (w.closed ≡ false) × IsHeld w.stage
Possible w Publish = (w.closed ≡ false) × IsStored w.stage
Possible w Release = (w.closed ≡ false) × HasVerdicts w.stage
Possible w GiveBack = (w.closed ≡ false) × IsReleased w.stage
Possible w (Receive slot) = (w.closed ≡ false) × (w.received slot < length (w.released slot))
Possible w (Look slot query) = (w.closed ≡ false) × IsOk (look (shown_in w) query)
Possible w (Crash bytes) = Unit {0}
Possible w Reopen = w.closed ≡ true

-- the receipt that comes next says so
abbrev pub says : Option Note → ℕ → Verdict → ℕ → Type 0
says None serial verdict number = ⊥
says (Some note) serial verdict number = (serial ≡ note.serial) × (verdict ≡ note.verdict) × (number ≡ note.number)

abbrev pub IsStorageFault : OpenFault → Type 0
IsStorageFault F.Disk = Unit {0}
IsStorageFault F.OutOfMemory = Unit {0}
IsStorageFault F.Unformatted = ⊥
IsStorageFault (F.Damaged half at) = ⊥

-- the trace entry is an answer of this step. More, Committed or Failed is decided by the device. A Call is also possible if a
-- checkpoint is open, as the device's own phase says: MayCall and Moves of Headline
abbrev pub Answers : World → Step → StepEvent → Type 0
Answers w (Send slot a) (Sent serial) = Possible w (Send slot a) × (length (w.sent slot) < most_out + w.received slot) × (serial ≡ length (w.sent slot) + 1)
Answers w (Send slot a) Busy = Possible w (Send slot a) × ((most_out + w.received slot ≤ length (w.sent slot)) ⊎ (2 ^ 64 ≤ length (w.sent slot) + 1))
Answers w (Take slot) (Took v) = Possible w (Take slot) × judges w slot (slice_get (w.sent slot) (w.taken slot)) v
Answers w Seal Sealed = Possible w Seal
Answers w Fetch Fetched = Possible w Fetch
Answers w Call More = (w.closed ≡ false) × (IsHeld w.stage → 0 < length (accepted_of (entries_at w.stage)))
Answers w Call Committed = Possible w Call
Answers w Call Failed = (w.closed ≡ false) × (IsHeld w.stage → 0 < length (accepted_of (entries_at w.stage)))
Answers w Publish Published = Possible w Publish
Answers w Release (Released slot) = Possible w Release × goes_to (next_entry w.stage) slot
Answers w GiveBack GaveBack = Possible w GiveBack
Answers w (Receive slot) (Received serial verdict number) = Possible w (Receive slot) × says (slice_get (w.released slot) (w.received slot)) serial verdict number
Answers w (Look slot query) (Looked count) = Possible w (Look slot query) × (count ≡ w.base.panel.count + length w.published)
-- a look is refused if its alarm or list doesn't exist; one at a list also if out of memory, which Moves counts
Answers w (Look slot query) Skipped = ¬ (Possible w (Look slot query)) ⊎ (is_some (asks_list query) ≡ true)
Answers w (Crash bytes) Crashed = Unit {0}
Answers w Reopen (Opened n) = Possible w Reopen × (w.floor ≤ n) × (n ≤ w.base.panel.count + length w.accepted)
Answers w Reopen (Unopened fault) = Possible w Reopen × IsStorageFault fault
Answers w step Skipped = ¬ (Possible w step)
Answers w step event = ⊥

-- ---- the world after a step

-- all but the base, the accepted list and the floor is lost
abbrev pub closed_world : World → World
closed_world w = record (new_world w.base w.accepted w.floor) { closed = true }

abbrev pub with_entry : World → ℕ → List Entry → World
with_entry w slot es = record w { taken = with_at w.taken slot (w.taken slot + 1); taking = w.taking ++ es; accepted = w.accepted ++ accepted_of es }

abbrev pub fetches : World → List (List Entry) → World
fetches w [] = w
fetches w (entries ∷ sealed) = record w { stage = Held entries; sealed = sealed }

abbrev pub stores : World → BatchStage → World
stores w (Held entries) = record w { stage = Stored entries; stored = w.stored ++ accepted_of entries }
stores w stage = w

abbrev pub after_publish : World → BatchStage → World
after_publish w (Stored entries) = record w { stage = Shown entries 0; published = w.published ++ accepted_of entries }
after_publish w stage = w

abbrev pub told_more : BatchStage → BatchStage
told_more (Shown entries n) = Shown entries (n + 1)
told_more stage = stage

abbrev pub tells : World → ℕ → List Note → World
tells w slot notes = record w { stage = told_more w.stage; released = with_at w.released slot (w.released slot ++ notes); floor = raise w.floor notes }

-- the world after a step that was answered so
abbrev pub after_step : World → Step → StepEvent → World
after_step w (Send slot a) (Sent serial) = record w { sent = with_at w.sent slot (w.sent slot ++ a ∷ []) }
after_step w (Take slot) (Took v) = with_entry w slot (entry_for w slot (slice_get (w.sent slot) (w.taken slot)) v)
after_step w Seal Sealed = record w { sealed = w.sealed ++ w.taking ∷ []; taking = []; free = w.free - 1 }
after_step w Fetch Fetched = fetches w w.sealed
after_step w Call Committed = stores w w.stage
after_step w Call Failed = closed_world w
after_step w Publish Published = after_publish w w.stage
after_step w Release (Released slot) = tells w slot (next_notes w w.stage)
after_step w GiveBack GaveBack = record w { stage = Nothing; free = w.free + 1 }
after_step w (Receive slot) (Received serial verdict number) = record w { received = with_at w.received slot (w.received slot + 1) }
after_step w (Look slot query) (Looked count) = record w { floor = max w.floor count }
after_step w (Crash bytes) Crashed = closed_world w
after_step w Reopen (Opened n) = new_world w.base (take (n - w.base.panel.count) w.accepted) w.floor
after_step w step event = w
