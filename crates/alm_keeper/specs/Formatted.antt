-- What a formatting leaves of a device: one that encodes the plant, or, with its fault, the one that is returned.
use Rattle.std.specs.Prelude.{◌≡◌, ◌≢◌, ◌↔◌, ℕ, false, length, Result}
use Rattle.alm_model.specs.Plant.{Condensed}
use Rattle.alm_disk.specs.Device.{DeviceState}
use Rattle.alm_disk.specs.Failures.{HasFailed}
use Rattle.alm_disk.specs.Settled.{IsSettled}
use Rattle.alm_disk.specs.declared.call.Call.{Call}
use Rattle.alm_disk.specs.declared.disk_fault.DiskFault.{DiskFault}
use Rattle.alm_codec.specs.declared.version.Version.{Version}
use Rattle.alm_checkpoint.specs.Headers.{segment_fits}
use Rattle.alm_checkpoint.specs.declared.layout.Layout.{Layout}
use Rattle.alm_keeper.specs.Formatting.{IsLongestFor, IsNewDevice, IsOfVersion, LeavesOf}
use Rattle.alm_keeper.specs.Moments.{Formats, IsLedBy, FailsIn}
use Rattle.alm_keeper.specs.declared.format_fault.FormatFault.{FormatFault}
use Rattle.alm_keeper.specs.declared.format_fault.FormatFault.TheVariants.{TooSmall, Disk}

-- it is as honest as it was, and as long
pub record IsSameDevice {Dev : Type 0} (is_honest : Dev → Type 0) (size_of : Dev → ℕ) (before after : Dev) : Type 0 where
  pub honest : is_honest before ↔ is_honest after
  pub size : size_of after ≡ size_of before

-- it was formatted by ten calls: it reads as one that encodes the plant in epoch 1, in this version, and that is all that a crash
-- leaves
pub record IsFormatted {Dev : Type 0} (serves : Dev → Call → Result Unit DiskFault → Dev → Type 0) (state : Dev → DeviceState) (is_honest : Dev → Type 0) (size_of : Dev → ℕ) (of : Version) (plant : Condensed) (before after : Dev) : Type 0 where
  pub same : IsSameDevice is_honest size_of before after
  pub settled : is_honest before → IsSettled (state after) (state after).bytes
  pub stands : is_honest before → IsNewDevice (size_of before) plant (state after).bytes
  pub version : is_honest before → IsOfVersion of (state after).bytes
  -- what a crash leaves at any moment of each call, if no call had failed before
  pub moments : Formats IsLedBy serves state (is_honest before × ((state before).faulted ≡ false)) (size_of before) plant before after

-- it was not: why, which calls were made, and what a crash leaves
pub record IsLeftBy {Dev : Type 0} (fault : FormatFault) (serves : Dev → Call → Result Unit DiskFault → Dev → Type 0) (state : Dev → DeviceState) (is_honest : Dev → Type 0) (size_of failures : Dev → ℕ) (plant : Condensed) (before after : Dev) : Type 0 where
  pub same : IsSameDevice is_honest size_of before after
  pub too_small : fault ≡ TooSmall → (n : ℕ) → segment_fits (size_of before) (length plant.panel.rows) (length plant.floods) n ≡ false
  pub fits : fault ≢ TooSmall → (l : Layout) × IsLongestFor (size_of before) plant l
  pub unchanged : fault ≢ Disk → after ≡ before
  pub failed : fault ≡ Disk → HasFailed (failures before) (failures after)
  pub moments : fault ≡ Disk → Formats FailsIn serves state (is_honest before × ((state before).faulted ≡ false)) (size_of before) plant before after
  pub leaves : is_honest before × ((state before).faulted ≡ false) → LeavesOf (size_of before) plant (state before) (state after)
