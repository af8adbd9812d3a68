use Rattle.alm_laws.proofs.Taken.{row-taken, accepted-so}
use Rattle.alm_laws.proofs.table.taken_just_then.Goals as goal

pub returns : goal.returns
returns c = record { row = row-taken; request = accepted-so }
