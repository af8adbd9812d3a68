use Rattle.alm_laws.proofs.Moved.{latching-ends}
use Rattle.alm_laws.proofs.plant.a_latching_alarm_ends_only_by_reset.Goals as goal

pub returns : goal.returns
returns c = latching-ends
