use Rattle.alm_laws.proofs.AlarmLaws.{suppressed-left}
use Rattle.alm_laws.proofs.alarm.suppressed_asks_for_nobody.Goals as goal

pub returns-clause-set : goal.returns-clause-set
returns-clause-set c = suppressed-left
