use Rattle.alm_keeper.proofs.Trail.{commit_says}
use Rattle.alm_keeper.proofs.laws.a_commit_says_who_asked.Goals as goal

pub returns : goal.returns
returns c = λ bytes before asked s frame admitted takes. commit_says bytes before asked s frame admitted takes
