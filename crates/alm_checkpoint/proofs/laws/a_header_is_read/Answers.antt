use Rattle.alm_checkpoint.proofs.Spellings.{header_again}
use Rattle.alm_checkpoint.proofs.laws.a_header_is_read.Goals as goal

pub returns : goal.returns
returns c = header_again
