use Rattle.alm_laws.proofs.AlarmLaws.{latched-until}
use Rattle.alm_laws.proofs.alarm.latched_stays_until_reset.Goals as goal

pub returns : goal.returns
returns c = latched-until
