use Rattle.alm_codec.proofs.Spelled.{image_length}
use Rattle.alm_codec.proofs.laws.image_has_its_length.Goals as goal

pub returns : goal.returns
returns c = image_length
