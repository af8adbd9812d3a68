use Rattle.alm_serve.proofs.Turned.{kept}
use Rattle.alm_serve.proofs.slot_port.SlotPort.attend.Goals as goal

pub returns-then-are_over-clause-attends : goal.returns-then-are_over-clause-attends
returns-then-are_over-clause-attends g c = kept _ _ _ _
