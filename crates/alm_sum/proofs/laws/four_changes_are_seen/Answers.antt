use Rattle.alm_sum.proofs.Changes.{few_changes}
use Rattle.alm_sum.proofs.laws.four_changes_are_seen.Goals as goal

pub returns : goal.returns
returns c = λ front old new back in_front behind p q long few e. few_changes front old new back in_front behind p q long few e
