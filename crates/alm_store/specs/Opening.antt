-- Opening a store: what was opened, and why one wasn't.
use Rattle.std.specs.Prelude.{◌≡◌, ◌≤◌, ℕ, List, false}
use Rattle.alm_disk.specs.Device.{DeviceState, IsImage}
use Rattle.alm_disk.specs.Failures.{HasFailed}
use Rattle.alm_disk.specs.declared.disk.Disk as device
use Rattle.alm_model.specs.Plant.{Condensed}
use Rattle.alm_store.specs.Calls.{OpensBy, IsRefusedBy}
use Rattle.alm_store.specs.declared.open_fault.OpenFault.{OpenFault}
use Rattle.alm_store.specs.declared.open_fault.OpenFault.TheVariants.{Unformatted, Damaged, Disk, OutOfMemory}

-- an image of the device encodes no plant
pub record IsFaulty (recovers : List ℕ → Condensed → Type 0) (state : DeviceState) : Type 0 where
  pub image : List ℕ
  pub is_image : IsImage state image
  pub faulty : (plant : Condensed) → ¬ (recovers image plant)

-- the cause of a fault: the bytes, or the device, with its counts of failures before and after
abbrev pub HasCause : (List ℕ → Condensed → Type 0) → DeviceState → OpenFault → ℕ → ℕ → Type 0
HasCause recovers state Unformatted before now = ∥ IsFaulty recovers state ∥₁
HasCause recovers state (Damaged half at) before now = ∥ IsFaulty recovers state ∥₁
HasCause recovers state Disk before now = HasFailed before now
HasCause recovers state OutOfMemory before now = Unit {0}

module _ {D : Type 0} (d : device.Ghosts D) (recovers : List ℕ → Condensed → Type 0) where
  -- opening made one device of another: by a sync and reads, and no other call. It reads as one of the images before, with nothing
  -- pending. That encodes the plant, if the device keeps to the model afterwards, and then it did so before
  pub record IsOpenedAs (plant : Condensed) (old new : D) : Type 0 where
    pub made : OpensBy d.serves old new
    pub honest : d.honest new → d.honest old
    pub image : d.honest old → IsImage (d.state old) (d.state new).bytes
    pub settled : d.honest old → (place : ℕ) → (d.state new).pending place ≡ false
    pub encodes : d.honest new → recovers (d.state new).bytes plant
    pub counted : d.failures old ≤ d.failures new

  -- opening returned the device with a fault: it made these calls up to it, and no new image, and the fault has its cause.
  -- Whatever the device does, its own fault is returned only if it failed
  pub record IsGivenBack (fault : OpenFault) (old new : D) : Type 0 where
    pub made : IsRefusedBy fault d.serves old new
    pub honest : d.honest new → d.honest old
    pub no_new_image : d.honest old → (image : List ℕ) → IsImage (d.state new) image → IsImage (d.state old) image
    pub failed : fault ≡ Disk → HasFailed (d.failures old) (d.failures new)
    pub cause : d.honest new → HasCause recovers (d.state old) fault (d.failures old) (d.failures new)
