use Rattle.alm_laws.proofs.AlarmLaws.{acknowledged-only}
use Rattle.alm_laws.proofs.alarm.nobody_acknowledges_for_the_operator.Goals as goal

pub returns : goal.returns
returns c = acknowledged-only
