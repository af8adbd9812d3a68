use Rattle.alm_laws.proofs.Clocked.{time-told}
use Rattle.alm_laws.proofs.clock.the_time_is_as_told.Goals as goal

pub returns : goal.returns
returns c = time-told
