use Rattle.alm_laws.proofs.Stamping.{run-counts}
use Rattle.alm_laws.proofs.stamps.stamps_are_counted.Goals as goal

pub returns : goal.returns
returns c = run-counts
