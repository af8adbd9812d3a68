use Rattle.std.proofs.Common.{refl}
use Rattle.alm_laws.proofs.Clocked.{priority-set, setpoint-set}
use Rattle.alm_laws.proofs.clock.priority_and_setpoint_are_as_asked.Goals as goal

pub returns : goal.returns
returns c = record { priority = priority-set; setpoint = setpoint-set; rows_priority = λ q i n. refl; rows_setpoint = λ q i v. refl }
