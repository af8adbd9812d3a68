-- A device in memory: what it reads as, what it has noted, and what it says of a call beyond the model.
use Rattle.std.specs.Prelude.{◌≡◌, ◌<◌, ℕ, List, [], ◌∷◌, ◌++◌, length, Result, OnOk, OnErr}
use Rattle.alm_disk.specs.Calls.{Fails}
use Rattle.alm_disk.specs.Cells.{is_marked}
use Rattle.alm_disk.specs.Device.{DeviceState}
use Rattle.alm_disk.specs.declared.call.Call.{Call}
use Rattle.alm_disk.specs.declared.call.Call.TheVariants.{Sync}
use Rattle.alm_disk.specs.declared.mem_disk.MemDisk.{MemDisk}

-- what it reads as, what is pending, and whether something has failed
abbrev pub state_of : MemDisk → DeviceState
state_of disk = record {
  bytes = disk.bytes.items;
  pending = λ (place : ℕ). is_marked disk.pending.items place;
  faulted = disk.faulted;
}

-- the calls that were done, in their order
abbrev pub calls_of : MemDisk → List Call
calls_of disk = disk.calls.items

-- how many calls its record has room for
abbrev pub record_room : MemDisk → ℕ
record_room disk = disk.room

-- a call that failed is not noted, and wrote nothing
pub record GivesUp (call : Call) (old new : MemDisk) : Type 0 where
  pub room : record_room new ≡ record_room old
  pub calls : calls_of new ≡ calls_of old
  pub fails : Fails call (state_of old) (state_of new)

-- a call for which the record has room is done and noted, and a sync leaves what reads; any other fails
pub record MemServes {E : Type 0} (call : Call) (result : Result Unit E) (old new : MemDisk) : Type 0 where
  pub room : record_room new ≡ record_room old
  pub done : OnOk result ((length (calls_of old) < record_room old) × (calls_of new ≡ calls_of old ++ call ∷ []))
  pub settled : OnOk result (call ≡ Sync → (state_of new).bytes ≡ (state_of old).bytes)
  pub failed : OnErr result ((length (calls_of old) ≡ record_room old) × GivesUp call old new)
