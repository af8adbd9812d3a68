-- What the half that stands holds.
use Rattle.std.specs.Prelude.{◌≡◌, ◌⊎◌, ℕ, ◌-◌, List, Some, Ok, Err}
use Rattle.alm_model.specs.Plant.{Condensed}
use Rattle.alm_codec.specs.declared.version.Version.{Version}
use Rattle.alm_segment.specs.Folding.{stored_in}
use Rattle.alm_checkpoint.specs.declared.layout.Layout.{Layout}
use Rattle.alm_checkpoint.specs.declared.half.Half.{Half}
use Rattle.alm_checkpoint.specs.declared.device_fault.DeviceFault.{DeviceFault}
use Rattle.alm_checkpoint.specs.declared.device_fault.DeviceFault.TheVariants.{Damaged}
use Rattle.alm_checkpoint.specs.declared.restore_fault.RestoreFault.{RestoreFault}
use Rattle.alm_checkpoint.specs.declared.restore_fault.RestoreFault.TheVariants as restore
use Rattle.alm_checkpoint.specs.Layouts.{half_number}
use Rattle.alm_checkpoint.specs.Opening.{Opened}
use Rattle.alm_checkpoint.specs.Standing.{Spells, Stands, HasFault, gate_place, end_of, image_damage}

-- it holds a plant, and its first closed gate is at a place
pub record Holds (o : Opened) (plant : Condensed) (gate : ℕ) : Type 0 where
  pub base : Condensed
  pub spells : Spells o base
  pub left : ℕ
  pub folds : stored_in o.head.version o.head.epoch base o.segment ≡ Ok (plant, left)
  pub gate_is : gate ≡ end_of o - left

-- its image is damaged
pub record HasImageDamage (o : Opened) (fault : DeviceFault) : Type 0 where
  pub at : ℕ
  pub damage : image_damage o ≡ Some at
  pub is : fault ≡ Damaged (half_number o.half) at

-- .. or a frame, or an action isn't admitted there
pub record HasFrameDamage (o : Opened) (fault : DeviceFault) : Type 0 where
  pub base : Condensed
  pub spells : Spells o base
  pub left : ℕ
  pub folds : stored_in o.head.version o.head.epoch base o.segment ≡ Err left
  pub is : fault ≡ Damaged (half_number o.half) (end_of o - left)

-- why it could not be restored; out of memory says nothing
abbrev pub IsUnrestored : Opened → RestoreFault → Type 0
IsUnrestored o restore.OutOfMemory = Unit {0}
IsUnrestored o (restore.Damaged fault) = HasImageDamage o fault ⊎ HasFrameDamage o fault

-- why a device could not be opened; out of memory says nothing
abbrev pub IsRefused : List ℕ → RestoreFault → Type 0
IsRefused device restore.OutOfMemory = Unit {0}
IsRefused device (restore.Damaged fault) = HasFault device fault

-- a device encodes a plant in an epoch, in a half of a version whose first closed gate is at a place
pub record StandsIn (device : List ℕ) (l : Layout) (h : Half) (version : Version) (epoch : ℕ) (plant : Condensed) (gate : ℕ) : Type 0 where
  pub stands : Stands device epoch plant
  pub of_layout : stands.opened.layout ≡ l
  pub of_half : stands.opened.half ≡ h
  pub of_version : stands.opened.head.version ≡ version
  pub gate_is : gate ≡ gate_place stands
