use Rattle.alm_laws.proofs.Measuring.{stale-so}
use Rattle.alm_laws.proofs.lists.a_stale_alarm_is_listed.Goals as goal

pub returns : goal.returns
returns c = stale-so
