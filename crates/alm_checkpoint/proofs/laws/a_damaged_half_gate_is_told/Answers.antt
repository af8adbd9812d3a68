use Rattle.alm_checkpoint.proofs.NoHalf.{told_gate}
use Rattle.alm_checkpoint.proofs.laws.a_damaged_half_gate_is_told.Goals as goal

pub returns : goal.returns
returns c = told_gate
