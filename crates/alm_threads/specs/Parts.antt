-- The ends that the threads of a run get, and what they are when they come back.
use Rattle.std.specs.Prelude.{◌≡◌, ◌<◌, ◌≤◌, ℕ, List, [], length, Option, Some, None}
use Rattle.alm_disk.specs.Failures.{HasFailed}
use Rattle.alm_disk.specs.declared.disk.Disk
use Rattle.alm_model.specs.Plant.{Condensed}
use Rattle.alm_rings.specs.declared.console.Console.{Console}
use Rattle.alm_rings.specs.declared.told.Told
use Rattle.alm_rings.specs.Batches.{AreBatchEnds, SameSealEnds, SameFetchEnds, sealed_of, empties_in}
use Rattle.alm_rings.specs.Placed.{AreApart, SameOutboxAt, outbox_at, taken_by}
use Rattle.alm_seq.specs.Sequences.{SameInboxes}
use Rattle.alm_store.specs.declared.phase.Phase.TheVariants.{Stopped}
use Rattle.alm_store.specs.declared.store.Store.{Ghosts}
use Rattle.alm_threads.specs.declared.ends.Ends.{Ends}
use Rattle.alm_threads.specs.declared.flusher_parts.FlusherParts.{FlusherParts}
use Rattle.alm_threads.specs.declared.rings.Rings.{Rings}
use Rattle.alm_threads.specs.declared.stop_cause.StopCause.{StopCause}
use Rattle.alm_threads.specs.declared.stop_cause.StopCause.TheVariants as cause
use Rattle.alm_threads.specs.Causes.{most_refusals}
use Rattle.alm_threads.specs.Finished.{IsAllAnswered}
use Rattle.alm_threads.specs.Histories.{JudgesAll, Flushed, LeavesOneOf}
use Rattle.alm_moments.specs.declared.recorded_moment.RecordedMoment.{RecordedMoment}
use Rattle.alm_threads.specs.Moments.{Endures}
use Rattle.alm_threads.specs.Same.{AllSame}
use Rattle.alm_threads.specs.Serving.{ServesSlots}
use Rattle.alm_threads.specs.Slots.{AreTied}
use Rattle.alm_types.specs.Sizes.{most_actions}

-- a sequencer's ends, through which nothing went, with an empty batch and an inbox for each of these slots; and its plant
pub record AreFresh (slots : List ℕ) (plant : Condensed) (rings : Rings) : Type 0 where
  pub apart : AreApart (λ i. i.slot) rings.inboxes.items
  pub taken : (s : ℕ) → taken_by s rings.inboxes.items ≡ []
  pub sealed : sealed_of rings.ends ≡ []
  pub empties : 0 < length (empties_in rings.ends)
  pub count : plant.panel.count ≤ most_actions
  pub serves : ServesSlots slots rings.inboxes.items

-- the same ends; what went through them is one legal history from this plant on
pub record AreJudged (plant : Condensed) (before after : Rings) : Type 0 where
  pub inboxes : SameInboxes before.inboxes.items after.inboxes.items
  pub ends : SameSealEnds before.ends after.ends
  pub judged : JudgesAll plant after.inboxes.items after.ends

module _ {K D : Type 0} (k : Ghosts K D) (d : Disk.Ghosts D) where
  -- a run that began with one store and ended with another: a step failed only because the device did, or in the last epoch
  abbrev pub FailsForCause : Option StopCause → (before after : K) → Type 0
  FailsForCause why before after = why ≡ Some cause.Store → ¬ (k.exhausted after) → ∥ HasFailed (d.failures (k.disk before)) (d.failures (k.disk after)) ∥₁

module _ {K D T : Type 0} (k : Ghosts K D) (d : Disk.Ghosts D) {t : Told.Ghosts T} where
  -- a flusher's parts after a run that began with this store and has this history of moments
  abbrev pub HaveFlushed : K → List RecordedMoment → FlusherParts K T D t → Type 0
  HaveFlushed before history after = Flushed (LeavesOneOf (d.honest (k.disk before)) (d.honest (k.disk after.store)) k.recovers (d.state (k.disk after.store)))
      (Endures (d.honest (k.disk before)) k.recovers (k.state before).stored (d.state (k.disk before)) (d.state (k.disk after.store)) history)
      (k.state before).stored (k.state after.store).stored after.outboxes.items after.fetch

  -- a flusher's ends are the same, and the store went from the one to the other
  pub record AreFlushed (history : List RecordedMoment) (before after : FlusherParts K T D t) : Type 0 where
    pub outboxes : (s : ℕ) → SameOutboxAt (outbox_at s before.outboxes.items) (outbox_at s after.outboxes.items)
    pub fetch : SameFetchEnds before.fetch after.fetch
    pub flushed : HaveFlushed before.store history after

module _ {K D T J : Type 0} (k : Ghosts K D) (d : Disk.Ghosts D) {t : Told.Ghosts T} where
  -- a run ended for its cause, or all was answered. A store that has stopped is the cause; refused publishes are at least 1,000
  pub record EndForCause (ends : Ends K T J D t) : Type 0 where
    pub stopped : (k.state ends.flusher.store).phase ≡ Stopped → ends.cause ≡ Some cause.Store
    pub refused : (n : ℕ) → ends.cause ≡ Some (cause.Publishing n) → most_refusals ≤ n
    pub answered : ends.cause ≡ None → IsAllAnswered ends.consoles.items ends.rings.inboxes.items ends.flusher.outboxes.items

  -- all ends of a run, as its threads returned them
  pub record AreBack (consoles : List (Console T t)) (rings : Rings) (flusher : FlusherParts K T D t) (ends : Ends K T J D t) : Type 0 where
    pub same : AllSame consoles ends.consoles.items
    pub judged : AreJudged (k.state flusher.store).stored rings ends.rings
    pub flushed : AreFlushed k d ends.moments flusher ends.flusher
    pub tied : AreTied ends.consoles.items ends.rings.inboxes.items ends.flusher.outboxes.items
    pub batches : AreBatchEnds ends.rings.ends ends.flusher.fetch
    pub end : EndForCause ends
    pub failed : FailsForCause k d ends.cause flusher.store ends.flusher.store
