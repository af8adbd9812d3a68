use Rattle.alm_laws.proofs.Asking.{time-by}
use Rattle.alm_laws.proofs.askers.only_the_clock_moves_time.Goals as goal

pub returns : goal.returns
returns c = time-by
