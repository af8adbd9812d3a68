use Rattle.alm_types.proofs.Changed.{priority_is}
use Rattle.alm_types.proofs.attr.Attr.with_priority.Goals as goal

pub returns : goal.returns
returns c = priority_is _ _ _ _ _ _ _ _ _
