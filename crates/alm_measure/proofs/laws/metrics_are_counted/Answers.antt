use Rattle.alm_measure.proofs.Plants.{counted-run}
use Rattle.alm_measure.proofs.laws.metrics_are_counted.Goals as goal

pub returns : goal.returns
returns c = counted-run
