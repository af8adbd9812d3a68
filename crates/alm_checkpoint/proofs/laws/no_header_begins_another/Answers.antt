use Rattle.alm_checkpoint.proofs.Spellings.{no_header_begins}
use Rattle.alm_checkpoint.proofs.laws.no_header_begins_another.Goals as goal

pub returns : goal.returns
returns c = no_header_begins
