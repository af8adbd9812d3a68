use Rattle.alm_codec.proofs.Total.{image_there, image_sound}
use Rattle.alm_codec.proofs.laws.undamaged_is_an_image.Goals as goal

pub returns : goal.returns
returns c = record { some = image_there; none = image_sound }
