-- Calls of a device: one that was made, and those that it may be made to fail.
use Rattle.std.specs.Prelude.{◌≡◌, ◌≤◌, ◌+◌, ℕ, Bool, true, false, ◌||◌, Result}
use Rattle.alm_disk.specs.Device.{DeviceState, is_within}
use Rattle.alm_disk.specs.declared.call.Call.{Call}
use Rattle.alm_disk.specs.declared.call.Call.TheVariants.{Read, Write, Sync}
use Rattle.alm_disk.specs.declared.disk_fault.DiskFault.{DiskFault}

-- exactly one call was made of the device, with this result: `serves` is what the device says of a call
abbrev pub IsOneCall : {D : Type 0} → (D → Call → Result Unit DiskFault → D → Type 0) → Result Unit DiskFault → D → D → Type 0
IsOneCall serves result old new = (call : Call) × serves old call result new

-- its range is inside a device of this size
abbrev pub IsInside : Call → ℕ → Type 0
IsInside (Read at n) size = at + n ≤ size
IsInside (Write at n) size = at + n ≤ size
IsInside Sync size = Unit {0}

-- it writes at this place
abbrev pub is_written_by : Call → ℕ → Bool
is_written_by (Read at n) place = false
is_written_by (Write at n) place = is_within at n place
is_written_by Sync place = false

-- whether something has failed after this call failed
abbrev pub faulted_by : Call → Bool → Bool
faulted_by (Read at n) before = before
faulted_by (Write at n) before = true
faulted_by Sync before = true

-- the call failed and wrote nothing
pub record Fails (call : Call) (old new : DeviceState) : Type 0 where
  pub bytes : new.bytes ≡ old.bytes
  pub pending : (place : ℕ) → new.pending place ≡ (is_written_by call place || old.pending place)
  pub faulted : new.faulted ≡ faulted_by call old.faulted
