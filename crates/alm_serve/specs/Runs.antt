-- What a server's run has done.
use Rattle.std.specs.Prelude.{◌≡◌, ◌≢◌, ◌⊎◌, ◌<◌, ◌^◌, ℕ, List, length, Option, Some, Result, Ok, Err, slice_get}
use Rattle.alm_disk.specs.Device.{DeviceState}
use Rattle.alm_disk.specs.Failures.{HasFailed}
use Rattle.alm_disk.specs.declared.disk.Disk
use Rattle.alm_model.specs.Plant.{Condensed}
use Rattle.alm_moments.specs.declared.recorded_moment.RecordedMoment.{RecordedMoment}
use Rattle.alm_rings.specs.declared.slot_report.SlotReport.{SlotReport}
use Rattle.alm_rings.specs.Placed.{AreApart}
use Rattle.alm_store.specs.Opening.{IsGivenBack, IsOpenedAs}
use Rattle.alm_threads.specs.Answered.{AllAnswered}
use Rattle.alm_threads.specs.Histories.{LeavesOneOf}
use Rattle.alm_threads.specs.Moments.{Endures}
use Rattle.alm_threads.specs.Runs.{IsServerRun}
use Rattle.alm_threads.specs.declared.stop_cause.StopCause.{StopCause}
use Rattle.alm_threads.specs.declared.stop_cause.StopCause.TheVariants as cause
use Rattle.alm_serve.specs.declared.serve_fault.ServeFault.{ServeFault}
use Rattle.alm_serve.specs.declared.serve_fault.ServeFault.TheVariants.{Open, Write, Storage}
use Rattle.alm_types.specs.Sizes.{slot_count}

-- the 18 slots, in their order
pub record AreAllSlots (slots : List ℕ) : Type 0 where
  pub count : length slots ≡ slot_count
  pub order : (k s : ℕ) → slice_get slots k ≡ Some s → s ≡ k

-- slots that a run may serve: at least one, and no two are the same
abbrev pub AreRunSlots : List ℕ → Type 0
AreRunSlots slots = (0 < length slots) × (length slots < 2 ^ 32) × AreApart (λ s. s) slots

-- all that was sent was taken and answered
abbrev pub IsWhole : List (Option SlotReport) → Type 0
IsWhole reports = ∥ AllAnswered reports ∥₁

module _ {D : Type 0} (d : Disk.Ghosts D) (recovers : List ℕ → Condensed → Type 0) where
  -- all slots were served in one run from this plant, over this device up to that one. At its end `count` actions are stored, and it
  -- ended so
  pub record ServesRun (base : Condensed) (from to : D) (ended : List (Option SlotReport) → Type 0) (count : ℕ) : Type 0 where
    pub slots : List ℕ
    pub all : AreAllSlots slots
    pub stored : Condensed
    pub counted : count ≡ stored.panel.count
    pub reports : List (Option SlotReport)
    pub end : ended reports
    pub history : List RecordedMoment
    pub run : IsServerRun (LeavesOneOf (d.honest from) (d.honest to) recovers (d.state to)) (Endures (d.honest from) recovers base (d.state from) (d.state to) history) base slots stored reports

  -- it was whole
  abbrev pub RunsWhole : Condensed → (from to : D) → (count : ℕ) → Type 0
  RunsWhole base from to count = ServesRun base from to IsWhole count

  -- the device was opened, with the plant that the run begins with
  pub record IsOpened (device : D) : Type 0 where
    pub opened : D
    pub base : Condensed
    pub is : IsOpenedAs d recovers base device opened

  -- it was opened, and left so
  abbrev pub IsLeftOpened : (device back : D) → Type 0
  IsLeftOpened device back = (o : IsOpened device) × (back ≡ o.opened)

  -- it was opened, and a whole run led to the other. At its end `count` actions are stored
  abbrev pub HasServed : (device back : D) → (count : ℕ) → Type 0
  HasServed device back count = (o : IsOpened device) × RunsWhole o.base o.opened back count

module _ {D : Type 0} (d : Disk.Ghosts D) (recovers : List ℕ → Condensed → Type 0) (spent : DeviceState → Type 0) where
  -- it stopped for this cause. If a step of the store failed, the device failed, or it is at the last epoch. If none failed,
  -- something that was sent is unanswered
  pub record RunsUpTo (base : Condensed) (from to : D) (why : StopCause) : Type 0 where
    pub count : ℕ
    pub run : ServesRun d recovers base from to (λ reports. why ≢ cause.Store → ¬ (IsWhole reports)) count
    pub failed : why ≡ cause.Store → d.honest to → ¬ (spent (d.state to)) → ∥ HasFailed (d.failures from) (d.failures to) ∥₁

  -- what a server has done with an open device, by its result: a whole run, a run that stopped for a cause, or nothing at all
  abbrev pub RunsBy : Condensed → (from to : D) → Option StopCause → Result ℕ ServeFault → Type 0
  RunsBy base from to why (Ok count) = RunsWhole d recovers base from to count
  RunsBy base from to why (Err Storage) = (cause : StopCause) × (why ≡ Some cause) × RunsUpTo base from to cause
  RunsBy base from to why (Err Write) = (to ≡ from) ⊎ ((count : ℕ) × RunsWhole d recovers base from to count)
  RunsBy base from to why (Err (Open fault)) = ⊥
  RunsBy base from to why (Err other) = to ≡ from

  -- what became of a server's device, by its result
  abbrev pub ServeEnds : (device back : D) → Option StopCause → Result ℕ ServeFault → Type 0
  ServeEnds device back why (Err (Open fault)) = IsGivenBack d recovers fault device back
  ServeEnds device back why result = (o : IsOpened d recovers device) × RunsBy o.base o.opened back why result
