use Rattle.alm_model.proofs.Whole.{counted-new}
use Rattle.alm_model.proofs.laws.measures.measures_are_counted.Goals as goal

pub returns : goal.returns
returns c = counted-new
