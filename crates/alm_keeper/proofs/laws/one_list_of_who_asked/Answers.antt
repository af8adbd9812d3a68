use Rattle.alm_keeper.proofs.Saying.{says_once}
use Rattle.alm_keeper.proofs.laws.one_list_of_who_asked.Goals as goal

pub returns : goal.returns
returns c = λ bytes before after s t. says_once before after bytes s t
