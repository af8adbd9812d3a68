use Rattle.alm_codec.proofs.SameImage.{no_image_begins}
use Rattle.alm_codec.proofs.laws.no_image_begins_another.Goals as goal

pub returns : goal.returns
returns c = no_image_begins
