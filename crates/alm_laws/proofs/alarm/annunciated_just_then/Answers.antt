use Rattle.alm_laws.proofs.AlarmLaws.{annunciated-then, annunciated-waits}
use Rattle.alm_laws.proofs.alarm.annunciated_just_then.Goals as goal

pub returns : goal.returns
returns c = record { then = annunciated-then; waits = λ now stamp action a s takes. annunciated-waits now stamp action a s }
