use Rattle.std.proofs.Common.{length, refl}
use Rattle.alm_disk.proofs.Images.{any_image}
use Rattle.alm_disk.proofs.laws.any_image.Goals as goal

pub returns : goal.returns
returns c = λ result old new bytes front range left back settled long writes fits are_bytes. any_image result old new (length front) bytes front range left back settled writes refl long fits are_bytes
