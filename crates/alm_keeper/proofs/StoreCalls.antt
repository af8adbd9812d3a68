-- Which calls a store makes of its device, and the last epoch.
use Rattle.std.proofs.Common.{◌≡◌, ◌≢◌, ◌⊎◌, inl, inr, ℕ, ◌+◌, ◌-◌, ◌^◌, ◌≤◌, List, ◌∷◌, Result, Ok, Err, refl, ap, subst, arith}
use Rattle.std.specs.Prelude.{IsErr}
use Rattle.std.proofs.Math.Logic.{∥∥₁_map}
use Rattle.alm_disk.specs.Device.{DeviceState, AreBytes}
use Rattle.alm_disk.specs.Failures.{HasFailed}
use Rattle.alm_disk.specs.declared.call.Call.{Call}
use Rattle.alm_disk.specs.declared.call.Call.TheVariants.{Sync}
use Rattle.alm_disk.specs.declared.disk_fault.DiskFault.{DiskFault}
use Rattle.alm_disk.specs.declared.disk.Disk
use Rattle.alm_model.specs.Plant.{Condensed}
use Rattle.alm_checkpoint.specs.declared.layout.Layout.{Layout}
use Rattle.alm_checkpoint.specs.declared.half.Half.{Half}
use Rattle.alm_checkpoint.specs.Standing.{Stands}
use Rattle.alm_checkpoint.proofs.CutOf.{stands_cut}
use Rattle.alm_store.specs.Calls.{IsChange, OneCall, CallDone, CallFailed, MakesOne, CountsFailures, AreDone, OpensBy, SyncsAndEndsIn, IsRefusedBy}
use Rattle.alm_store.specs.declared.open_fault.OpenFault.{OpenFault}
use Rattle.alm_store.specs.declared.open_fault.OpenFault.TheVariants as fault
use Rattle.alm_store.specs.declared.progress.Progress.{Progress}
use Rattle.alm_store.specs.declared.progress.Progress.TheVariants.{More, Done, Failed}
use Rattle.alm_keeper.specs.declared.stage.Stage.{Stage}
use Rattle.alm_keeper.specs.declared.stage.Stage.TheVariants.{Idle, Close, CloseSync, Body, BodySync, Gate, TurnSync, Retire, GateSync, Stopped}
use Rattle.alm_keeper.specs.declared.stage.Work.{Work}
use Rattle.alm_keeper.specs.declared.stage.Work.TheVariants.{Commit, Checkpoint}
use Rattle.alm_keeper.specs.AsStore.{IsLastEpoch}
use Rattle.alm_keeper.specs.Calls.{reads_of}
use Rattle.alm_keeper.specs.Keeper.{KeeperView, IsStoredIn, next, next_by, begun_by, after_by, call_by, call_of, payload_of, CallsOnce, Progresses}
use Rattle.alm_keeper.specs.Opening.{CountsAs}

-- ---- one call

change_by : {D : Type 0} (k : KeeperView D) (s : Stage) (w : Work) → IsChange (call_by s w k)
change_by k Idle w = tt
change_by k Close w = tt
change_by k CloseSync w = tt
change_by k Body Commit = tt
change_by k Body Checkpoint = tt
change_by k BodySync w = tt
change_by k Gate w = tt
change_by k TurnSync w = tt
change_by k Retire w = tt
change_by k GateSync w = tt
change_by k Stopped w = tt

module _ {D : Type 0} (d : Disk.Ghosts D) (old : KeeperView D) (to : D) where
  abbrev serves : D → Call → Result Unit DiskFault → D → Type 0
  serves = d.serves

  one_call : (r : Result Unit DiskFault) → serves old.disk (call_of old) r to → OneCall serves r old.disk to
  one_call r served = record { call = call_of old; is_change = change_by old old.stage old.work; served = served }

  call_done : (result : Progress) → result ≢ Failed → CallsOnce d (call_of old) (payload_of old) result old.disk to → CallDone serves old.disk to
  call_done result not c = by_result c.result c.served c.fault.1
    where
      by_result : (r : Result Unit DiskFault) → serves old.disk (call_of old) r to → (IsErr r → result ≡ Failed) → CallDone serves old.disk to
      by_result (Ok tt) served failed = ∣ one_call (Ok tt) served ∣₁
      by_result (Err f) served failed = absurd (not (failed refl))

  call_failed : (result : Progress) → result ≡ Failed → CallsOnce d (call_of old) (payload_of old) result old.disk to → CallFailed serves old.disk to
  call_failed result is c = by_result c.result c.served c.fault.0
    where
      by_result : (r : Result Unit DiskFault) → serves old.disk (call_of old) r to → (result ≡ Failed → IsErr r) → CallFailed serves old.disk to
      by_result (Ok x) served failed = absurd (cc (failed is))
      by_result (Err f) served failed = ∣ (f, one_call (Err f) served) ∣₁

  pub makes_one : (result : Progress) → CallsOnce d (call_of old) (payload_of old) result old.disk to → MakesOne serves result old.disk to
  makes_one More c = call_done More (λ e. absurd cc) c
  makes_one Done c = call_done Done (λ e. absurd cc) c
  makes_one Failed c = call_failed Failed refl c

-- what is returned of a call's failures
pub counts_failures : (result : Progress) (before now : ℕ) → before ≤ now → (result ≢ Failed → now ≡ before) → (result ≡ Failed → HasFailed before now) → CountsFailures result before now
counts_failures More before now more same failed = same (λ e. absurd cc)
counts_failures Done before now more same failed = same (λ e. absurd cc)
counts_failures Failed before now more same failed = (more, failed refl)

-- ---- an opening

pub opens_by : {D : Type 0} (serves : D → Call → Result Unit DiskFault → D → Type 0) (disk to : D) (layout : Layout) (half : Half) → AreDone serves (Sync ∷ reads_of layout half) disk to → OpensBy serves disk to
opens_by serves disk to layout half made = record { reads = reads_of layout half; are_reads = (tt, (tt, (tt, (tt, (tt, tt))))); done = made }

pub refused_by : {D : Type 0} (fault : OpenFault) (serves : D → Call → Result Unit DiskFault → D → Type 0) (disk to : D) (layout : Layout) (half : Half) → SyncsAndEndsIn fault serves (reads_of layout half) disk to → IsRefusedBy fault serves disk to
refused_by fault serves disk to layout half made = record { reads = reads_of layout half; are_reads = (tt, (tt, (tt, (tt, (tt, tt))))); made = made }

pub disk_failed : (f : OpenFault) (before now : ℕ) → CountsAs f before now → f ≡ fault.Disk → HasFailed before now
disk_failed fault.Disk before now counts is = counts
disk_failed fault.Unformatted before now counts is = absurd cc
disk_failed (fault.Damaged half at) before now counts is = absurd cc
disk_failed fault.OutOfMemory before now counts is = absurd cc

-- ---- the last epoch

-- an epoch never falls
epoch_begun : {D : Type 0} (k : KeeperView D) (w : Work) → k.stored.epoch ≤ (begun_by w k).epoch
epoch_begun k Commit = omega arith
epoch_begun k Checkpoint = omega arith

epoch_next : {D : Type 0} (k : KeeperView D) (s : Stage) (w : Work) → k.stored.epoch ≤ (next_by s k.stored (begun_by w k)).epoch
epoch_next k Idle w = omega arith
epoch_next k Close w = epoch_begun k w
epoch_next k CloseSync w = epoch_begun k w
epoch_next k Body w = epoch_begun k w
epoch_next k BodySync w = epoch_begun k w
epoch_next k Gate w = epoch_begun k w
epoch_next k TurnSync w = epoch_begun k w
epoch_next k Retire w = epoch_begun k w
epoch_next k GateSync w = epoch_begun k w
epoch_next k Stopped w = epoch_begun k w

epoch_after : {D : Type 0} (k : KeeperView D) (s : Stage) (w : Work) → k.stored.epoch ≤ (after_by s w k).stored.epoch
epoch_after k Idle w = omega arith
epoch_after k Close w = omega arith
epoch_after k CloseSync w = omega arith
epoch_after k Body Commit = omega arith
epoch_after k Body Checkpoint = omega arith
epoch_after k BodySync w = omega arith
epoch_after k Gate Commit = omega arith
epoch_after k Gate Checkpoint = omega arith
epoch_after k TurnSync w = omega arith
epoch_after k Retire w = omega arith
epoch_after k GateSync Commit = omega arith
epoch_after k GateSync Checkpoint = omega arith
epoch_after k Stopped w = omega arith

pub stays_exhausted : {D : Type 0} (old new : KeeperView D) (result : Progress) → Progresses result old new → 2 ^ 64 ≤ old.stored.epoch + 1 → 2 ^ 64 ≤ new.stored.epoch + 1
stays_exhausted old new More goes is = omega (arith, is, epoch_after old old.stage old.work, ap (λ (k : KeeperView _). k.stored.epoch) goes.1)
stays_exhausted old new Done goes is = omega (arith, is, epoch_after old old.stage old.work, ap (λ (k : KeeperView _). k.stored.epoch) goes.1)
stays_exhausted old new Failed goes is = omega (arith, is, ap (λ (k : KeeperView _). k.stored.epoch) goes)

-- bytes that encode a plant in that epoch or a later one are at the last one
last_epoch : (bytes : List ℕ) (epoch : ℕ) (plant : Condensed) → AreBytes bytes → 2 ^ 64 ≤ epoch + 1 → Stands bytes epoch plant → Stands bytes (2 ^ 64 - 1) plant
last_epoch bytes epoch plant are least s =
    let c = stands_cut bytes epoch plant s are in
    let last : epoch ≡ 2 ^ 64 - 1 = omega (arith, least, c.of_epoch, c.stores.epoch) in
    subst (λ (n : ℕ). Stands bytes n plant) last s

pub exhausted_spent : {D : Type 0} (k : KeeperView D) (state : DeviceState) → AreBytes state.bytes → 2 ^ 64 ≤ k.stored.epoch + 1 → ∥ IsStoredIn k.stored state.bytes ⊎ IsStoredIn (next k) state.bytes ∥₁ → IsLastEpoch state
exhausted_spent k state are least either = ∥∥₁_map either by_plant
  where
    by_plant : IsStoredIn k.stored state.bytes ⊎ IsStoredIn (next k) state.bytes → (plant : Condensed) × Stands state.bytes (2 ^ 64 - 1) plant
    by_plant (inl s) = (k.stored.plant, last_epoch state.bytes k.stored.epoch k.stored.plant are least s)
    by_plant (inr s) = ((next k).plant, last_epoch state.bytes (next k).epoch (next k).plant are (omega (arith, least, epoch_next k k.stage k.work)) s)
