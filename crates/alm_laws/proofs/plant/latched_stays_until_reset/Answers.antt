use Rattle.alm_laws.proofs.Plants.{reset-by}
use Rattle.alm_laws.proofs.plant.latched_stays_until_reset.Goals as goal

pub returns : goal.returns
returns c = reset-by
