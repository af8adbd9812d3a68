use Rattle.alm_session.proofs.Short.{short}
use Rattle.alm_session.proofs.laws.replies_have_room.Goals as goal

pub returns : goal.returns
returns c = λ q id query rules actions small. short q id rules actions small query
