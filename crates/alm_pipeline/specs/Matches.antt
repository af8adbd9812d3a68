-- The parts of a bench are those of a world. For the proofs: no public call's reader needs it.
use Rattle.std.specs.Prelude.{◌≡◌, ◌≢◌, ◌↔◌, ◌<◌, ◌≤◌, ◌+◌, ◌^◌, ℕ, false, List, [], ◌∷◌, ◌++◌, length, slice_get, Some}
use Rattle.alm_types.specs.declared.action.Action.{Action}
use Rattle.alm_types.specs.declared.want.Want.{Want}
use Rattle.alm_types.specs.declared.entry.Entry.{Entry}
use Rattle.alm_types.specs.Batches.{Judged}
use Rattle.alm_model.specs.Plant.{Condensed}
use Rattle.alm_model.specs.Step.{run}
use Rattle.alm_model.specs.Judging.{accepted_of, entries_in}
use Rattle.alm_rings.specs.declared.receipt.Receipt.{Receipt}
use Rattle.alm_rings.specs.declared.told.Told.{Ghosts as ToldGhosts}
use Rattle.alm_rings.specs.declared.console.Console.{Console}
use Rattle.alm_rings.specs.declared.inbox.Inbox.{Inbox}
use Rattle.alm_rings.specs.declared.outbox.Outbox.{Outbox}
use Rattle.alm_rings.specs.declared.fetch_ends.FetchEnds.{FetchEnds}
use Rattle.alm_rings.specs.declared.seal_ends.SealEnds.{SealEnds}
use Rattle.alm_rings.specs.Ends.{sent_of, received_of, coming_to, room_of}
use Rattle.alm_rings.specs.Placed.{taken_by, waiting_by, released_by, room_by}
use Rattle.alm_rings.specs.Batches.{sealed_of, fetched_of, emptied_of, given_of, coming_in, empties_in, places_of, places_in}
use Rattle.alm_flush.specs.declared.held.Held as H
use Rattle.alm_flush.specs.declared.held.Held.TheVariants as V
use Rattle.alm_flush.specs.Advances.{IsSure, Within}
use Rattle.alm_flush.specs.Flushes.{IsGivenUp}
use Rattle.alm_flush.specs.HeldBatch.{stored_of, published_entries, to_commit}
use Rattle.alm_seq.specs.Spares.{spares}
use Rattle.alm_store.specs.declared.store.Store.{Ghosts}
use Rattle.alm_disk.specs.Failures.{HasFailed}
use Rattle.alm_disk.specs.declared.disk.Disk
use Rattle.alm_store.specs.declared.phase.Phase.TheVariants.{Stopped}
use Rattle.alm_pipeline.specs.declared.pipeline.Pipeline.{Pipeline}
use Rattle.alm_flush.specs.declared.advance.Advance as A
use Rattle.alm_pipeline.specs.declared.step.Step.{Step}
use Rattle.alm_pipeline.specs.declared.step.Step.TheVariants.{Call, Crash, Reopen}
use Rattle.alm_pipeline.specs.declared.step_event.StepEvent.{StepEvent}
use Rattle.alm_pipeline.specs.declared.step_event.StepEvent.TheVariants.{More, Committed, Failed, Skipped}
use Rattle.alm_pipeline.specs.World.{World, BatchStage, Nothing, Held, Stored, Shown, Note, IsHeld, after_step}
use Rattle.alm_pipeline.specs.Pace.{FitsBatches, Paces, most_more}
use Rattle.alm_pipeline.specs.Headline.{Sight}
use Rattle.alm_types.specs.Sizes.{most_out}

-- how far the flusher's batch is
abbrev pub stage_of : H.Held → BatchStage
stage_of V.Nothing = Nothing
stage_of (V.Fetched b) = Held b.entries
stage_of (V.Failed b) = Held b.entries
stage_of (V.Committed b) = Stored b.entries
stage_of (V.Published b n) = Shown b.entries n

-- the entries of each batch
abbrev pub entries_of : List Judged → List (List Entry)
entries_of [] = []
entries_of (b ∷ batches) = b.entries ∷ entries_of batches

-- how many batches are held
abbrev pub batch_held_at : BatchStage → ℕ
batch_held_at Nothing = 0
batch_held_at stage = 1

-- the parts have these batches
pub record Batches (taking : List Entry) (sealed : List (List Entry)) (free : ℕ) (stage : BatchStage) (open' : Judged) (spare : ℕ) (s : SealEnds) (f : FetchEnds) (h : H.Held) : Type 0 where
  pub entries : open'.entries ≡ taking
  pub waiting : entries_of (sealed_of s) ≡ entries_of (fetched_of f) ++ sealed
  pub held : stage_of h ≡ stage
  pub spared : free + length (emptied_of s) ≡ length (given_of f) + spare
  pub eight : free + length sealed + batch_held_at stage + 1 ≡ 8

module _ {T : Type 0} {g : ToldGhosts T} where
  -- what a receipt says
  abbrev pub note : Receipt T g → Note
  note r = record { serial = r.serial; verdict = r.verdict; number = r.number }

  abbrev pub notes_of : List (Receipt T g) → List Note
  notes_of [] = []
  notes_of (r ∷ receipts) = note r ∷ notes_of receipts

  -- the ends of the slots have these lists
  pub record Slots (sent : ℕ → List Want) (taken : ℕ → ℕ) (released : ℕ → List Note) (received : ℕ → ℕ) (consoles : List (Console T g)) (inboxes : List Inbox) (outboxes : List (Outbox T g)) : Type 0 where
    pub requests : (s : ℕ) (c : Console T g) → slice_get consoles s ≡ Some c → sent_of c ≡ sent s
    pub judged : (s : ℕ) → length (taken_by s inboxes) ≡ taken s
    pub notes : (s : ℕ) → notes_of (released_by s outboxes) ≡ released s
    pub receipts : (s : ℕ) (c : Console T g) → slice_get consoles s ≡ Some c → length (received_of c) ≡ received s
    pub few : (s : ℕ) → length (sent s) ≤ most_out + received s

  -- a slot's ends know what the others did
  pub record KnowsEnds (s : ℕ) (console : Console T g) (inboxes : List Inbox) (outboxes : List (Outbox T g)) : Type 0 where
    pub requests : taken_by s inboxes ++ waiting_by s inboxes ≡ sent_of console
    pub replies : received_of console ++ coming_to console ≡ released_by s outboxes
    pub serials : length (sent_of console) < 2 ^ 64
    pub room : most_out + length (taken_by s inboxes) ≤ room_of console + length (sent_of console)
    pub reply_room : most_out + length (received_of console) ≤ room_by s outboxes + length (released_by s outboxes)

  abbrev pub KnowsSlot : ℕ → List (Console T g) → List Inbox → List (Outbox T g) → Type 0
  KnowsSlot s consoles inboxes outboxes = (c : Console T g) → slice_get consoles s ≡ Some c → KnowsEnds s c inboxes outboxes

-- the ends of the batch rings know what the others did
pub record KnowsBatches (s : SealEnds) (f : FetchEnds) : Type 0 where
  pub batches : fetched_of f ++ coming_in f ≡ sealed_of s
  pub empties : emptied_of s ++ empties_in s ≡ given_of f
  pub places : 8 + length (fetched_of f) ≤ places_of s + length (sealed_of s)
  pub back : 8 + length (emptied_of s) ≤ places_in f + length (given_of f)

-- the parts keep these lists, relative to the plant with which they began
pub record FitLists (plant : Condensed) (accepted stored published : List Action) (floor : ℕ) (base base' : Condensed) (sealed : List Entry) (open' : List Entry) (before : List Entry) (h : H.Held) : Type 0 where
  pub opened : List Action
  pub judged_from : base ≡ run plant opened
  pub stored_from : base' ≡ run plant opened
  pub all : accepted ≡ opened ++ accepted_of (sealed ++ open')
  pub kept : stored ≡ opened ++ accepted_of (before ++ stored_of h)
  pub shown : published ≡ opened ++ accepted_of (before ++ published_entries h)
  pub enough : floor ≤ plant.panel.count + length published

-- the event of a device call
abbrev pub event_of_call : A.Advance → StepEvent
event_of_call A.TheVariants.More = More
event_of_call A.TheVariants.Committed = Committed
event_of_call A.TheVariants.Failed = Failed
event_of_call A.TheVariants.Nothing = Skipped

-- the step leaves the device alone
abbrev pub IsInner : Step → Type 0
IsInner Call = ⊥
IsInner (Crash bytes) = ⊥
IsInner Reopen = ⊥
IsInner step = Unit {0}

module _ {K D : Type 0} {g : Ghosts K D} {d : Disk.Ghosts D} where
  -- its device
  abbrev pub disk_of : Pipeline K D g d → D
  disk_of p = g.disk p.flusher.store

  -- the device keeps to the model after exactly if it did before
  abbrev pub StaysHonest : (old new : Pipeline K D g d) → Type 0
  StaysHonest old new = d.honest (disk_of old) ↔ d.honest (disk_of new)

  -- the device failed in between
  abbrev pub DeviceFailed : (old new : Pipeline K D g d) → Type 0
  DeviceFailed old new = HasFailed (d.failures (disk_of old)) (d.failures (disk_of new))

  -- the device is as it was, and so is the work on it
  abbrev pub LeavesDevice : (old new : Pipeline K D g d) → Type 0
  LeavesDevice old new = (d.state (disk_of new) ≡ d.state (disk_of old)) × (d.failures (disk_of new) ≡ d.failures (disk_of old)) × ((g.state new.flusher.store).phase ≡ (g.state old.flusher.store).phase)

  -- what contracts see of its device, if n growths were refused
  abbrev pub sight_in : ℕ → Pipeline K D g d → Sight
  sight_in n p = record { state = d.state (g.disk p.flusher.store); failures = d.failures (g.disk p.flusher.store); phase = (g.state p.flusher.store).phase; refused = n }

  -- its next call begins no checkpoint
  abbrev pub CallsSurely : Pipeline K D g d → Type 0
  CallsSurely p = IsSure (g.state p.flusher.store).phase (g.takes p.flusher.store (to_commit p.flusher.held))

  pub record MatchesWorld (w : World) (p : Pipeline K D g d) : Type 0 where
    pub slots : Slots w.sent w.taken w.released w.received p.consoles.items p.sequencer.inboxes.items p.flusher.outboxes.items
    pub batches : Batches w.taking w.sealed w.free w.stage p.sequencer.batch (spares p.sequencer.spare) p.sequencer.ends p.flusher.fetch p.flusher.held
    pub lists : FitLists w.base w.accepted w.stored w.published w.floor p.sequencer.base.value p.flusher.board.base.value (entries_in (sealed_of p.sequencer.ends)) p.sequencer.batch.entries (entries_in (fetched_of p.flusher.before.value)) p.flusher.held

  -- the parts are those of an open world
  pub record MatchesOpenWorld (w : World) (p : Pipeline K D g d) : Type 0 where
    pub opened : w.closed ≡ false
    pub fits : MatchesWorld w p
    pub going : (g.state p.flusher.store).phase ≢ Stopped
    pub trying : ¬ (IsGivenUp p.flusher.held)

  -- after a call that failed the parts still fit the world that the failure shuts
  abbrev pub CallFits : World → StepEvent → Pipeline K D g d → Type 0
  CallFits w Failed p = MatchesWorld w p
  CallFits w event p = MatchesOpenWorld (after_step w Call event) p

  -- the commit of the fetched batch is done in at most m calls
  abbrev pub CommitsIn : ℕ → Pipeline K D g d → Type 0
  CommitsIn m p = let actions = to_commit p.flusher.held in let s = p.flusher.store in Within m (g.state s).phase (g.state s).left (g.takes s actions) (g.will_take s actions) (length actions)

  -- .. and after at most `more` calls that return More, if a batch is held
  pub record EndsAfter (more : ℕ) (w : World) (p : Pipeline K D g d) : Type 0 where
    pub few : FitsBatches w
    pub ends : IsHeld w.stage → CommitsIn (more + 1) p

  -- this step with this answer meets the pace, and the commit ends after as many calls as it leaves
  abbrev pub StepsInPace : World → Step → StepEvent → (more : ℕ) → Pipeline K D g d → Type 0
  StepsInPace w step event more p = (next : ℕ) × Paces most_more w step event more next × EndsAfter next (after_step w step event) p

  -- the ends of a slot, and those of the batch rings, know what the others did
  abbrev pub KnowsAtSlot : ℕ → Pipeline K D g d → Type 0
  KnowsAtSlot s p = KnowsSlot s p.consoles.items p.sequencer.inboxes.items p.flusher.outboxes.items

  abbrev pub KnowsAll : Pipeline K D g d → Type 0
  KnowsAll p = KnowsBatches p.sequencer.ends p.flusher.fetch
