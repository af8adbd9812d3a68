use Rattle.alm_types.proofs.Changed.{setpoint_is}
use Rattle.alm_types.proofs.attr.Attr.with_setpoint.Goals as goal

pub returns : goal.returns
returns c = setpoint_is _ _ _ _ _ _ _ _ _
