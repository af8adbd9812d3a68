-- What a run leaves of its slots and its device.
use Rattle.std.specs.Prelude.{◌≡◌, ◌≢◌, ◌≤◌, ◌+◌, ◌-◌, ◌^◌, ◌++◌, ℕ, List, [], Option, Some, length, min, slice_get}
use Rattle.std.specs.List.{range_with_len}
use mathlib.Core.List.{IsPrefix}
use Rattle.alm_types.specs.declared.action.Action.{Action}
use Rattle.alm_types.specs.declared.entry.Entry.{Entry}
use Rattle.alm_disk.specs.declared.disk.Disk
use Rattle.alm_model.specs.Plant.{Condensed}
use Rattle.alm_model.specs.Judging.{IsLegal, accepted_of, of_slot, serials_of, wants_of}
use Rattle.alm_model.specs.Step.{run}
use Rattle.alm_rings.specs.declared.console.Console.{Console}
use Rattle.alm_rings.specs.declared.inbox.Inbox.{Inbox}
use Rattle.alm_rings.specs.declared.outbox.Outbox.{Outbox}
use Rattle.alm_rings.specs.declared.slot_report.SlotReport.{SlotReport}
use Rattle.alm_rings.specs.declared.told.Told
use Rattle.alm_rings.specs.Ends.{sent_of, received_of}
use Rattle.alm_rings.specs.Placed.{taken_by, released_by}
use Rattle.alm_moments.specs.declared.run_id.RunId
use Rattle.alm_flush.specs.Replies.{replies_in, replies_to}
use Rattle.alm_store.specs.declared.store.Store
use Rattle.alm_threads.specs.declared.report.RunReport.{RunReport}
use Rattle.alm_threads.specs.Histories.{LeavesOneOf}
use Rattle.alm_threads.specs.Moments.{Endures}
use Rattle.alm_threads.specs.Parts.{FailsForCause}
use Rattle.alm_threads.specs.Same.{AllSame}

-- how many requests of a slot were sent, and how many of them taken; how many receipts were released, and how many of them
-- received
pub record IsClosed (sent taken released received : ℕ) (r : SlotReport) : Type 0 where
  pub sent_is : r.sent ≡ sent
  pub taken_is : r.taken ≡ taken
  pub released_is : r.released ≡ min released (2 ^ 64 - 1)
  pub received_is : r.received ≡ min received (2 ^ 64 - 1)
  pub no_more_taken : taken ≤ sent
  pub no_more_received : received ≤ released

-- a report that exists, with these numbers
pub record HasReport (reports : List (Option SlotReport)) (k sent taken released received : ℕ) : Type 0 where
  pub report : SlotReport
  pub at : slice_get reports k ≡ Some (Some report)
  pub is : IsClosed sent taken released received report

module _ {T : Type 0} {g : Told.Ghosts T} where
  -- a console's slot is closed. What was taken of it is a prefix of what it sent; what it received is a prefix of what was released
  -- to it. Its report has these numbers
  pub record IsSlotClosed (inboxes : List Inbox) (outboxes : List (Outbox T g)) (reports : List (Option SlotReport)) (k : ℕ) (c : Console T g) : Type 0 where
    pub taken : IsPrefix (taken_by c.slot inboxes) (sent_of c)
    pub received : IsPrefix (received_of c) (released_by c.slot outboxes)
    pub report : HasReport reports k (length (sent_of c)) (length (taken_by c.slot inboxes)) (length (released_by c.slot outboxes)) (length (received_of c))

  -- the reports are in the order of the consoles, each of what went through its slot
  abbrev pub AreClosed : List (Console T g) → List Inbox → List (Outbox T g) → List (Option SlotReport) → Type 0
  AreClosed consoles inboxes outboxes reports = (length reports ≡ length consoles) × ((k : ℕ) (c : Console T g) → slice_get consoles k ≡ Some c → IsSlotClosed inboxes outboxes reports k c)

  -- the entries of a console's slot are the requests that it sent, in order, as far as they were taken, with serials from 1. The
  -- receipts that it received have the serials and verdicts of these entries, in order, as far as they were released. Its report has
  -- these numbers
  pub record AnswersConsole (entries told : List Entry) (reports : List (Option SlotReport)) (k : ℕ) (c : Console T g) : Type 0 where
    pub requests : IsPrefix (wants_of (of_slot c.slot entries)) (sent_of c)
    pub serials : serials_of (of_slot c.slot entries) ≡ range_with_len 1 (length (of_slot c.slot entries))
    pub receipts : IsPrefix (replies_in (received_of c)) (replies_to (of_slot c.slot told))
    pub report : HasReport reports k (length (sent_of c)) (length (of_slot c.slot entries)) (length (of_slot c.slot told)) (length (received_of c))

-- from this base: what was taken of all slots is one legal history, as of a single thread. It has no entries of other slots. The
-- store holds a prefix of it, and what was released is a prefix of that. Each slot's report, in the order of the slots, counts its
-- entries in these lists. The device is left with the stored plant, or with that and the next entries of the history, of the one
-- batch whose commit wasn't done. It came there by moments at each of which it encodes a prefix of what was accepted by then. The
-- prefix contains all that may be reported by then, at the last all that was released
pub record IsServerRun (leaves : Condensed → Condensed → Type 0) (endures : List Action → ℕ → Type 0) (base : Condensed) (slots : List ℕ) (stored : Condensed) (reports : List (Option SlotReport)) : Type 0 where
  pub entries : List Entry
  pub legal : IsLegal base entries
  pub kept : List Entry
  pub prefix : IsPrefix kept entries
  pub stored_is : stored ≡ run base (accepted_of kept)
  pub waiting : List Entry
  pub ahead : IsPrefix (kept ++ waiting) entries
  pub device : leaves stored (run stored (accepted_of waiting))
  pub told : List Entry
  pub within : IsPrefix told kept
  pub course : endures (accepted_of entries) (base.panel.count + length (accepted_of told))
  pub only : (s : ℕ) → ((k : ℕ) → slice_get slots k ≢ Some s) → of_slot s entries ≡ []
  pub count : length reports ≡ length slots
  pub each : (k s : ℕ) → slice_get slots k ≡ Some s → (sent received : ℕ) × HasReport reports k sent (length (of_slot s entries)) (length (of_slot s told)) received

module _ {K D T J : Type 0} (k : Store.Ghosts K D) (d : Disk.Ghosts D) {t : Told.Ghosts T} {j : RunId.Ghosts J} where
  -- a run of these slots over this store, by its report. The report's consoles are the ends that these were, and the history answers
  -- each of them. It stopped because a step of the store failed only if the device failed, or in the last epoch
  pub record IsRunOver (store : K) (slots : List ℕ) (consoles : List (Console T t)) (report : RunReport K T J D k d t j) : Type 0 where
    pub run : IsServerRun (LeavesOneOf (d.honest (k.disk store)) (d.honest (k.disk report.keeper)) k.recovers (d.state (k.disk report.keeper)))
        (Endures (d.honest (k.disk store)) k.recovers (k.state store).stored (d.state (k.disk store)) (d.state (k.disk report.keeper)) report.moments)
        (k.state store).stored slots (k.state report.keeper).stored report.slots.items
    pub same : AllSame consoles report.consoles.value.items
    pub answers : (n : ℕ) (c : Console T t) → slice_get report.consoles.value.items n ≡ Some c → AnswersConsole run.entries run.told report.slots.items n c
    pub failed : FailsForCause k d report.cause store report.keeper
