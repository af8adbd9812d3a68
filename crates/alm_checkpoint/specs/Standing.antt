-- What the bytes of a device encode, or their first fault.
use Rattle.std.specs.Prelude.{◌≡◌, ◌⊎◌, ℕ, ◌+◌, ◌-◌, List, Option, Some, Ok, Err, option_map, ◌==◌, if◌then◌else◌}
use Rattle.alm_model.specs.Plant.{Condensed}
use Rattle.alm_codec.specs.Image.{IsImageText, IsOf}
use Rattle.alm_codec.specs.ImageFields.{damage_in}
use Rattle.alm_segment.specs.Folding.{stored_in}
use Rattle.alm_checkpoint.specs.declared.device_fault.DeviceFault.{DeviceFault}
use Rattle.alm_checkpoint.specs.declared.device_fault.DeviceFault.TheVariants.{Damaged}
use Rattle.alm_checkpoint.specs.Layouts.{half_at, half_len, image_at, image_sum_at, half_number}
use Rattle.alm_checkpoint.specs.Headers.{image_sum}
use Rattle.alm_checkpoint.specs.Opening.{Opened, opened_in}

-- the end of the half that stands
abbrev pub end_of : Opened → ℕ
end_of o = half_at o.layout o.half + half_len o.layout

-- the image of the half that stands is that of a plant, and has the checksum that the head says
pub record Spells (o : Opened) (plant : Condensed) : Type 0 where
  pub sum : o.head.sum ≡ image_sum o.head.version o.image
  pub sizes : IsOf o.layout.rows o.layout.areas o.head.count plant
  pub image : IsImageText plant o.image

-- The bytes encode a plant in an epoch. The half that stands has that epoch: it is the one with an open gate, and if both gates
-- are open, the one with the greater epoch. Its image is that of a plant, and the frames after the image, up to the first closed
-- gate, make of it this plant. The count is the plant's.
pub record Stands (device : List ℕ) (epoch : ℕ) (plant : Condensed) : Type 0 where
  pub opened : Opened
  pub opens : opened_in device ≡ Ok opened
  pub in_epoch : opened.head.epoch ≡ epoch
  pub base : Condensed
  pub spells : Spells opened base
  -- how many bytes of the segment are left at its first closed gate
  pub left : ℕ
  pub folds : stored_in opened.head.version epoch base opened.segment ≡ Ok (plant, left)

-- the place of the first closed gate
abbrev pub gate_place : {device : List ℕ} {epoch : ℕ} {plant : Condensed} → Stands device epoch plant → ℕ
gate_place s = end_of s.opened - s.left

-- where the image is damaged: at its checksum, or else at its first damaged field
abbrev pub image_damage : Opened → Option ℕ
image_damage o =
    if o.head.sum == image_sum o.head.version o.image
    then option_map (λ at. image_at o.layout o.half + at) (damage_in o.layout.rows o.layout.areas o.head.count o.image)
    else Some (image_sum_at o.layout o.half)

-- the half that stands has a damaged image
pub record HasImageFault (device : List ℕ) (fault : DeviceFault) : Type 0 where
  pub opened : Opened
  pub opens : opened_in device ≡ Ok opened
  pub at : ℕ
  pub damage : image_damage opened ≡ Some at
  pub is : fault ≡ Damaged (half_number opened.half) at

-- .. or a damaged frame, or one with an action that isn't admitted there
pub record FrameFault (device : List ℕ) (fault : DeviceFault) : Type 0 where
  pub opened : Opened
  pub opens : opened_in device ≡ Ok opened
  pub base : Condensed
  pub spells : Spells opened base
  pub left : ℕ
  pub folds : stored_in opened.head.version opened.head.epoch base opened.segment ≡ Err left
  pub is : fault ≡ Damaged (half_number opened.half) (end_of opened - left)

-- the first fault of the bytes
abbrev pub HasFault : List ℕ → DeviceFault → Type 0
HasFault device fault = (opened_in device ≡ Err fault) ⊎ HasImageFault device fault ⊎ FrameFault device fault

-- the bytes encode a plant in an epoch, or have a fault
abbrev pub Meaning : List ℕ → Type 0
Meaning device = ((epoch : ℕ) × (plant : Condensed) × Stands device epoch plant) ⊎ ((fault : DeviceFault) × HasFault device fault)
