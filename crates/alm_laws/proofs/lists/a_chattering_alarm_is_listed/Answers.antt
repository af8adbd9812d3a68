use Rattle.alm_laws.proofs.Measuring.{chatter-so}
use Rattle.alm_laws.proofs.lists.a_chattering_alarm_is_listed.Goals as goal

pub returns : goal.returns
returns c = chatter-so
