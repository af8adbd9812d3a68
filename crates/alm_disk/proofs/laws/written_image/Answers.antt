use Rattle.std.proofs.Common.{length, refl}
use Rattle.alm_disk.proofs.Images.{written_image}
use Rattle.alm_disk.proofs.laws.written_image.Goals as goal

pub returns : goal.returns
returns c = λ result old new bytes front range back image settled long writes left. written_image result old new (length front) bytes front range back image settled writes refl long left
