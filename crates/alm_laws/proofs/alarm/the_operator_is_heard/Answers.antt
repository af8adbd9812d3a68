use Rattle.alm_laws.proofs.AlarmLaws.{acknowledge-taken, resets-taken, acknowledge-done, reset-done}
use Rattle.alm_laws.proofs.alarm.the_operator_is_heard.Goals as goal

pub returns : goal.returns
returns c = record { acknowledge = acknowledge-taken; reset = resets-taken; acknowledged = acknowledge-done; ended = reset-done }
