use Rattle.alm_checkpoint.proofs.OtherGates.{stores_gates}
use Rattle.alm_checkpoint.proofs.laws.other_gates.Goals as goal

pub returns : goal.returns
returns c = stores_gates
