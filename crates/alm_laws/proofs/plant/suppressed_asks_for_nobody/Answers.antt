use Rattle.alm_laws.proofs.Stamping.{suppressed-listed}
use Rattle.alm_laws.proofs.plant.suppressed_asks_for_nobody.Goals as goal

pub returns : goal.returns
returns c = suppressed-listed
