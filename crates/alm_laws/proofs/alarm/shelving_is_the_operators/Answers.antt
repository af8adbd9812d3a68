use Rattle.alm_laws.proofs.AlarmLaws.{shelving-ends, shelving-begins}
use Rattle.alm_laws.proofs.alarm.shelving_is_the_operators.Goals as goal

pub returns : goal.returns
returns c = record { ends = shelving-ends; begins = λ now stamp action a s takes. shelving-begins now stamp action a s }
