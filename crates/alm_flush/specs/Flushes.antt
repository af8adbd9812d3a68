-- What each call of a flusher answers.
use Rattle.std.specs.Prelude.{◌≡◌, ◌≢◌, ◌+◌, ◌<◌, ◌≤◌, ℕ, List, [], ◌∷◌, ◌++◌, length, Some, None}
use mathlib.Core.List.{IsPrefix}
use Rattle.alm_types.specs.Batches.{Judged}
use Rattle.alm_types.specs.declared.action.Action.{Action}
use Rattle.alm_types.specs.declared.entry.Entry.{Entry}
use Rattle.alm_model.specs.Plant.{Condensed}
use Rattle.alm_model.specs.Judging.{accepted_of}
use Rattle.alm_model.specs.Rules.{AllAdmitted}
use Rattle.alm_rings.specs.declared.receipt.Receipt.{Receipt}
use Rattle.alm_rings.specs.declared.told.Told.{Ghosts}
use Rattle.alm_rings.specs.declared.outbox.Outbox.{Outbox}
use Rattle.alm_rings.specs.Placed.{outbox_at, released_by, room_by}
use Rattle.alm_rings.specs.declared.fetch_ends.FetchEnds.{FetchEnds}
use Rattle.alm_rings.specs.Batches.{fetched_of, coming_in}
use Rattle.alm_store.specs.declared.phase.Phase.{Phase}
use Rattle.alm_store.specs.declared.phase.Phase.TheVariants.{Idle, Stopped}
use Rattle.alm_store.specs.Advancing.{IsCheckpointing}
use Rattle.alm_flush.specs.HeldBatch.{next_entry_of, after_release, left_of}
use Rattle.alm_flush.specs.declared.advance.Advance.{Advance}
use Rattle.alm_flush.specs.declared.advance.Advance.TheVariants as A
use Rattle.alm_flush.specs.declared.publishes.Publishes.{Publishes}
use Rattle.alm_flush.specs.declared.publishes.Publishes.TheVariants as P
use Rattle.alm_flush.specs.declared.release.Release.{Release}
use Rattle.alm_flush.specs.declared.release.Release.TheVariants as R
use Rattle.alm_flush.specs.declared.held.Held.{Held}
use Rattle.alm_flush.specs.declared.held.Held.TheVariants.{Nothing, Fetched, Failed, Committed, Published}
use Rattle.alm_flush.specs.declared.fetch.Fetch as F
use Rattle.alm_flush.specs.declared.fetch.Fetch.TheVariants.{Got, Empty}

pub record Gets (new : Held) (from to : FetchEnds) : Type 0 where
  pub batch : Judged
  pub held : new ≡ Fetched batch
  pub fetched : fetched_of to ≡ fetched_of from ++ batch ∷ []
  pub next : IsPrefix (coming_in from) (batch ∷ coming_in to)

abbrev pub FetchAnswers : F.Fetch → Held → Held → FetchEnds → FetchEnds → Type 0
FetchAnswers Got old new from to = (old ≡ Nothing) × Gets new from to
FetchAnswers Empty old new from to = (old ≡ Nothing) × (new ≡ Nothing) × (fetched_of to ≡ fetched_of from) × (coming_in to ≡ coming_in from) × ¬ (0 < length (coming_in from))
FetchAnswers F.TheVariants.Held old new from to = (old ≢ Nothing) × (new ≡ old) × (to ≡ from)

-- for a store that was in this phase: after a commit has failed, it fails permanently, and it fails at first only with actions or
-- if the store has stopped. Without a batch to commit an open checkpoint continues
abbrev pub AdvanceAnswers : Advance → Phase → Held → Held → Type 0
AdvanceAnswers A.Committed p (Fetched b) new = (new ≡ Committed b) × (p ≢ Stopped)
AdvanceAnswers A.More p (Fetched b) new = (new ≡ Fetched b) × (p ≢ Stopped) × (0 < length (accepted_of b.entries))
AdvanceAnswers A.Failed p (Fetched b) new = (new ≡ Failed b) × (p ≢ Stopped → 0 < length (accepted_of b.entries))
AdvanceAnswers A.Nothing p (Fetched b) new = ⊥
AdvanceAnswers A.Failed p (Failed b) new = new ≡ Failed b
AdvanceAnswers answer p (Failed b) new = ⊥
AdvanceAnswers A.More p old new = (new ≡ old) × IsCheckpointing p
AdvanceAnswers A.Failed p old new = (new ≡ old) × (p ≢ Idle)
AdvanceAnswers A.Nothing p old new = (new ≡ old) × (p ≡ Idle)
AdvanceAnswers A.Committed p old new = ⊥

abbrev pub PublishAnswers : Publishes → Held → Held → Type 0
PublishAnswers P.Published (Committed b) new = new ≡ Published b 0
PublishAnswers P.OutOfMemory (Committed b) new = new ≡ Committed b
PublishAnswers P.NotYet (Committed b) new = ⊥
PublishAnswers P.NotYet old new = new ≡ old
PublishAnswers answer old new = ⊥

-- a batch is fetched that is the next one, and its actions are admitted
abbrev pub IsNext : Held → Condensed → Type 0
IsNext (Fetched b) plant = (b.first ≡ plant.panel.count + 1) × AllAdmitted plant (accepted_of b.entries)
IsNext held plant = ⊥

-- no batch waits for its commit
abbrev pub IsFree : Held → Type 0
IsFree (Fetched b) = ⊥
IsFree (Failed b) = ⊥
IsFree held = Unit {0}

-- its commit has failed permanently
abbrev pub IsGivenUp : Held → Type 0
IsGivenUp (Failed b) = Unit {0}
IsGivenUp held = ⊥

-- all verdicts of the published batch are released
abbrev pub AreAllReleased : Held → Type 0
AreAllReleased (Published b n) = length b.entries ≤ n
AreAllReleased held = ⊥

pub record GivesBack (old new : Held) (given given' : List Judged) : Type 0 where
  pub done : AreAllReleased old
  pub held : new ≡ Nothing
  pub more : length given' ≡ length given + 1

module _ {T : Type 0} {g : Ghosts T} where
  -- the next verdict is released to its slot, and the receipt reports the published list; the stored and the published list hold
  -- its number
  pub record Releases (slot : ℕ) (old new : Held) (from to : List (Outbox T g)) (base stored : Condensed) (published : List Action) : Type 0 where
    pub entry : Entry
    pub of : entry.slot ≡ slot
    pub next : next_entry_of old ≡ Some entry
    pub held : new ≡ after_release old
    pub receipt : Receipt T g
    pub released : released_by slot to ≡ released_by slot from ++ receipt ∷ []
    pub others : (s : ℕ) → s ≢ slot → outbox_at s to ≡ outbox_at s from
    pub verdict : receipt.verdict ≡ entry.verdict
    pub asker : receipt.slot ≡ slot
    pub serial : receipt.serial ≡ entry.serial
    pub list : g.list receipt.told ≡ published
    pub count : g.base_count receipt.told ≡ base.panel.count
    pub number : receipt.number + length (left_of old) ≡ base.panel.count + length published
    pub is_stored : receipt.number ≤ stored.panel.count
    pub is_published : receipt.number ≤ base.panel.count + length published

  -- the slot's ring knew no free place; the reply stays
  pub record IsFull (slot : ℕ) (old new : Held) (from to : List (Outbox T g)) : Type 0 where
    pub entry : Entry
    pub of : entry.slot ≡ slot
    pub next : next_entry_of old ≡ Some entry
    pub held : new ≡ old
    pub released : (s : ℕ) → released_by s to ≡ released_by s from
    pub room : (s : ℕ) → room_by s to ≡ room_by s from
    pub cause : room_by slot from ≡ 0

  abbrev pub ReleaseAnswers : Release → Held → Held → List (Outbox T g) → List (Outbox T g) → Condensed → Condensed → List Action → Type 0
  ReleaseAnswers (R.Released slot) old new from to base stored published = Releases slot old new from to base stored published
  ReleaseAnswers (R.Full slot) old new from to base stored published = IsFull slot old new from to
  ReleaseAnswers R.Nothing old new from to base stored published = (next_entry_of old ≡ None) × (new ≡ old) × (to ≡ from)
