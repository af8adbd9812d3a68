-- What a run's threads leave, as parts of one history.
use Rattle.std.specs.Prelude.{◌≡◌, ◌≤◌, ◌+◌, ◌↔◌, ◌⊎◌, ◌++◌, ℕ, List, length, slice_get, Some}
use Rattle.std.specs.List.{range_with_len}
use mathlib.Core.List.{IsPrefix}
use Rattle.alm_types.specs.declared.action.Action.{Action}
use Rattle.alm_types.specs.declared.entry.Entry.{Entry}
use Rattle.alm_disk.specs.Device.{DeviceState, IsImage}
use Rattle.alm_model.specs.Plant.{Condensed}
use Rattle.alm_model.specs.Judging.{IsLegal, accepted_of, entries_in, firsts_from, firsts_of, of_slot, serials_of, wants_of}
use Rattle.alm_model.specs.Rules.{AllAdmitted}
use Rattle.alm_types.specs.Batches.{Judged}
use Rattle.alm_model.specs.Step.{run}
use Rattle.alm_rings.specs.declared.inbox.Inbox.{Inbox}
use Rattle.alm_rings.specs.declared.outbox.Outbox.{Outbox}
use Rattle.alm_rings.specs.declared.receipt.Receipt.{Receipt}
use Rattle.alm_rings.specs.declared.told.Told.{Ghosts}
use Rattle.alm_rings.specs.declared.seal_ends.SealEnds.{SealEnds}
use Rattle.alm_rings.specs.declared.fetch_ends.FetchEnds.{FetchEnds}
use Rattle.alm_rings.specs.Batches.{sealed_of, fetched_of}
use Rattle.alm_rings.specs.Placed.{taken_by, released_by}
use Rattle.alm_flush.specs.Replies.{replies_in, replies_to}

-- from this base: each batch begins after the accepted actions of those before it, and the accepted actions of all are admitted
pub record AreInOrder (base : Condensed) (batches : List Judged) : Type 0 where
  pub firsts : firsts_of batches ≡ firsts_from (base.panel.count + 1) batches
  pub admitted : AllAdmitted base (accepted_of (entries_in batches))

-- from this base: the entries of the sealed batches, and those that were not sealed, are one legal history, as of a single
-- thread. Of each slot they answer the requests that were taken, each once, in order
pub record JudgesAll (base : Condensed) (inboxes : List Inbox) (ends : SealEnds) : Type 0 where
  pub entries : List Entry
  pub sealed : IsPrefix (entries_in (sealed_of ends)) entries
  pub legal : IsLegal base entries
  pub wants : (s : ℕ) → wants_of (of_slot s entries) ≡ taken_by s inboxes
  pub serials : (s : ℕ) → serials_of (of_slot s entries) ≡ range_with_len 1 (length (taken_by s inboxes))
  pub in_order : AreInOrder base (sealed_of ends)

-- a device that does what its trait says still does, and each image that a crash may leave of it encodes one of these two plants
abbrev pub LeavesOneOf : Type 0 → Type 0 → (List ℕ → Condensed → Type 0) → DeviceState → Condensed → Condensed → Type 0
LeavesOneOf before after recovers device p q = (before ↔ after) × (after → (b : List ℕ) → IsImage device b → ∥ recovers b p ⊎ recovers b q ∥₁)

module _ {T : Type 0} {g : Ghosts T} where
  -- from this base: what is stored is a prefix of the fetched entries, what was released a prefix of those that are stored. Of
  -- each slot the receipts have the serials and verdicts of its entries, in order, and no number above what is stored. The device
  -- is left with the stored plant, or with that and the entries that come next, of the batch whose commit wasn't done. It came
  -- there by moments at each of which it encodes a prefix of what was fetched by then, at the last one with all that was released
  pub record Flushed (leaves : Condensed → Condensed → Type 0) (endures : List Action → ℕ → Type 0) (base stored : Condensed) (outboxes : List (Outbox T g)) (fetch : FetchEnds) : Type 0 where
    pub kept : List Entry
    pub fetched : IsPrefix kept (entries_in (fetched_of fetch))
    pub stored_is : stored ≡ run base (accepted_of kept)
    pub waiting : List Entry
    pub ahead : IsPrefix (kept ++ waiting) (entries_in (fetched_of fetch))
    pub device : leaves stored (run stored (accepted_of waiting))
    pub told : List Entry
    pub within : IsPrefix told kept
    pub course : endures (accepted_of (entries_in (fetched_of fetch))) (base.panel.count + length (accepted_of told))
    pub released : (s : ℕ) → replies_in (released_by s outboxes) ≡ replies_to (of_slot s told)
    pub numbers : (s k : ℕ) (r : Receipt T g) → slice_get (released_by s outboxes) k ≡ Some r → r.number ≤ stored.panel.count
