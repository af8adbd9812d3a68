use Rattle.alm_codec.proofs.ChangedByte.{changed_byte}
use Rattle.alm_codec.proofs.laws.a_changed_byte_is_damage.Goals as goal

pub returns : goal.returns
returns c = λ epoch count byte changed gate list front back rest frame text not fits. changed_byte epoch count list front back rest byte changed gate frame text fits not
