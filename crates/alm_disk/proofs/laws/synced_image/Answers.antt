use Rattle.alm_disk.proofs.Images.{synced_image}
use Rattle.alm_disk.proofs.laws.synced_image.Goals as goal

pub returns : goal.returns
returns c = synced_image
