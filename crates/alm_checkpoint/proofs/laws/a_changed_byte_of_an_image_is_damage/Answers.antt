use Rattle.alm_checkpoint.proofs.ChangedHead.{damaged_image}
use Rattle.alm_checkpoint.proofs.laws.a_changed_byte_of_an_image_is_damage.Goals as goal

pub returns : goal.returns
returns c = damaged_image
