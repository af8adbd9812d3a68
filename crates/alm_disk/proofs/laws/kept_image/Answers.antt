use Rattle.alm_disk.proofs.Images.{kept_image}
use Rattle.alm_disk.proofs.laws.kept_image.Goals as goal

pub returns : goal.returns
returns c = kept_image
