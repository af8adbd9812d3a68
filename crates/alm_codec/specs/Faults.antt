-- How the reading of an image ends.
use Rattle.std.specs.Prelude.{◌≡◌, ℕ, Option, Some, None, Result, Ok, Err}
use Rattle.alm_model.specs.declared.plant_parts.PlantParts.{PlantParts}
use Rattle.alm_model.specs.Plant.{Condensed}
use Rattle.alm_model.specs.Parts.{plant_of}
use Rattle.alm_codec.specs.declared.image_fault.ImageFault.{ImageFault}
use Rattle.alm_codec.specs.declared.image_fault.ImageFault.TheVariants.{OutOfMemory, Damaged}

-- the first damaged field, none if a plant was read; out of memory says nothing
abbrev pub IsDamagedAt : Result PlantParts ImageFault → Option ℕ → Type 0
IsDamagedAt (Ok parts) place = place ≡ None
IsDamagedAt (Err OutOfMemory) place = Unit {0}
IsDamagedAt (Err (Damaged d)) place = place ≡ Some d.at

-- a plant was read, unless memory ran out
abbrev pub IsReadAs : Result PlantParts ImageFault → Condensed → Type 0
IsReadAs (Ok parts) q = plant_of parts ≡ q
IsReadAs (Err OutOfMemory) q = Unit {0}
IsReadAs (Err (Damaged d)) q = ⊥
