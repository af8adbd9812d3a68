use Rattle.alm_laws.proofs.Plants.{acknowledged-by}
use Rattle.alm_laws.proofs.plant.nobody_acknowledges_for_the_operator.Goals as goal

pub returns : goal.returns
returns c = acknowledged-by
