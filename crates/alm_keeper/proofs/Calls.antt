-- One call of a device.
use Rattle.std.proofs.Common.{◌⊎◌, inl, inr, ℕ, List, Result}
use Rattle.alm_disk.specs.Device.{DeviceState, Writes, Syncs}
use Rattle.alm_disk.specs.declared.disk_fault.DiskFault.{DiskFault}
use Rattle.alm_store.specs.Calls.{IsWrite, IsSync}

pub written : {old new : DeviceState} (at : ℕ) (bytes : List ℕ) (result : Result Unit DiskFault) → Writes at bytes result old new → ∥ IsWrite old new ⊎ IsSync old new ∥₁
written at bytes result w = ∣ inl (record { at = at; bytes = bytes; result = result; writes = w }) ∣₁

pub synced : {old new : DeviceState} (result : Result Unit DiskFault) → Syncs result old new → ∥ IsWrite old new ⊎ IsSync old new ∥₁
synced result s = ∣ inr (record { result = result; syncs = s }) ∣₁
