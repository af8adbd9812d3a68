-- Calls of a device: what they do to its bytes, and which calls the device itself says they were.
use Rattle.std.specs.Prelude.{◌≡◌, ◌⊎◌, ◌≤◌, ℕ, List, [], ◌∷◌, Result, Ok, Err}
use Rattle.alm_disk.specs.Device.{DeviceState, Writes, Syncs}
use Rattle.alm_disk.specs.declared.call.Call.{Call}
use Rattle.alm_disk.specs.declared.call.Call.TheVariants.{Read, Sync}
use Rattle.alm_disk.specs.declared.disk_fault.DiskFault.{DiskFault}
use Rattle.alm_disk.specs.Failures.{HasFailed}
use Rattle.alm_store.specs.declared.open_fault.OpenFault.{OpenFault}
use Rattle.alm_store.specs.declared.open_fault.OpenFault.TheVariants.{Disk}
use Rattle.alm_store.specs.declared.progress.Progress.{Progress}
use Rattle.alm_store.specs.declared.progress.Progress.TheVariants.{Failed}

-- one write
pub record IsWrite (old new : DeviceState) : Type 0 where
  pub at : ℕ
  pub bytes : List ℕ
  pub result : Result Unit DiskFault
  pub writes : Writes at bytes result old new

-- one sync
pub record IsSync (old new : DeviceState) : Type 0 where
  pub result : Result Unit DiskFault
  pub syncs : Syncs result old new

-- one write or one sync, which was done or failed
abbrev pub IsCall : DeviceState → DeviceState → Type 0
IsCall old new = ∥ IsWrite old new ⊎ IsSync old new ∥₁

-- ---- by what the device says of its calls

-- a call that changes: a write or a sync
abbrev pub IsChange : Call → Type 0
IsChange (Read at n) = ⊥
IsChange call = Unit {0}

-- one write or one sync changed this device so, and had this result
pub record OneCall {D : Type 0} (serves : D → Call → Result Unit DiskFault → D → Type 0) (result : Result Unit DiskFault) (old new : D) : Type 0 where
  pub call : Call
  pub is_change : IsChange call
  pub served : serves old call result new

-- it was done
abbrev pub CallDone : {D : Type 0} → (D → Call → Result Unit DiskFault → D → Type 0) → D → D → Type 0
CallDone serves old new = ∥ OneCall serves (Ok tt) old new ∥₁

-- it failed
abbrev pub CallFailed : {D : Type 0} → (D → Call → Result Unit DiskFault → D → Type 0) → D → D → Type 0
CallFailed serves old new = ∥ ((fault : DiskFault) × OneCall serves (Err fault) old new) ∥₁

-- one was made, which failed if the result says so
abbrev pub MakesOne : {D : Type 0} → (D → Call → Result Unit DiskFault → D → Type 0) → Progress → D → D → Type 0
MakesOne serves Failed old new = CallFailed serves old new
MakesOne serves result old new = CallDone serves old new

-- and what it makes of the count of failures
abbrev pub CountsFailures : Progress → (before now : ℕ) → Type 0
CountsFailures Failed before now = (before ≤ now) × HasFailed before now
CountsFailures result before now = now ≡ before

-- these calls were made of a device, one after the other, and no others; each was done
abbrev pub AreDone : {D : Type 0} → (D → Call → Result Unit DiskFault → D → Type 0) → List Call → D → D → Type 0
AreDone serves [] old new = new ≡ old
AreDone {D} serves (call ∷ calls) old new = (between : D) × serves old call (Ok tt) between × AreDone serves calls between new

-- a prefix of these calls was done, and no others were made
abbrev pub SomeAreDone : {D : Type 0} → (D → Call → Result Unit DiskFault → D → Type 0) → List Call → D → D → Type 0
SomeAreDone serves [] old new = new ≡ old
SomeAreDone {D} serves (call ∷ calls) old new = (new ≡ old) ⊎ ((between : D) × serves old call (Ok tt) between × SomeAreDone serves calls between new)

-- a prefix was done, the next one failed, and no others were made
abbrev pub OneFails : {D : Type 0} → (D → Call → Result Unit DiskFault → D → Type 0) → List Call → D → D → Type 0
OneFails serves [] old new = ⊥
OneFails {D} serves (call ∷ calls) old new = ((fault : DiskFault) × serves old call (Err fault) new) ⊎ ((between : D) × serves old call (Ok tt) between × OneFails serves calls between new)

-- what was made of them if this fault is the result: up to the call that failed, if the fault is the device's
abbrev pub EndIn : {D : Type 0} → OpenFault → (D → Call → Result Unit DiskFault → D → Type 0) → List Call → D → D → Type 0
EndIn Disk serves calls old new = OneFails serves calls old new
EndIn fault serves calls old new = SomeAreDone serves calls old new

-- the sync failed, or it was done and these reads end in this fault
abbrev pub SyncsAndEndsIn : {D : Type 0} → OpenFault → (D → Call → Result Unit DiskFault → D → Type 0) → List Call → D → D → Type 0
SyncsAndEndsIn {D} fault serves reads old new =
    ((fault ≡ Disk) × ((why : DiskFault) × serves old Sync (Err why) new)) ⊎ ((synced : D) × serves old Sync (Ok tt) synced × EndIn fault serves reads synced new)

abbrev pub IsRead : Call → Type 0
IsRead (Read at n) = Unit {0}
IsRead call = ⊥

abbrev pub AreReads : List Call → Type 0
AreReads [] = Unit {0}
AreReads (call ∷ calls) = IsRead call × AreReads calls

-- a sync, and reads after it
pub record OpensBy {D : Type 0} (serves : D → Call → Result Unit DiskFault → D → Type 0) (old new : D) : Type 0 where
  pub reads : List Call
  pub are_reads : AreReads reads
  pub done : AreDone serves (Sync ∷ reads) old new

-- an opening that was refused: a sync, and reads after it up to its fault
pub record IsRefusedBy {D : Type 0} (fault : OpenFault) (serves : D → Call → Result Unit DiskFault → D → Type 0) (old new : D) : Type 0 where
  pub reads : List Call
  pub are_reads : AreReads reads
  pub made : SyncsAndEndsIn fault serves reads old new
