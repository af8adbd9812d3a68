use Rattle.alm_checkpoint.proofs.Spellings.{no_head_begins}
use Rattle.alm_checkpoint.proofs.laws.no_head_begins_another.Goals as goal

pub returns : goal.returns
returns c = no_head_begins
