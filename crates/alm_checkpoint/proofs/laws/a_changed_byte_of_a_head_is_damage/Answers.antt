use Rattle.alm_checkpoint.proofs.ChangedHead.{changed_head}
use Rattle.alm_checkpoint.proofs.laws.a_changed_byte_of_a_head_is_damage.Goals as goal

pub returns : goal.returns
returns c = changed_head
