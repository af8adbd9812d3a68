use Rattle.alm_keeper.proofs.Phases.{advances}
use Rattle.alm_keeper.proofs.laws.each_call_keeps_what_is_under_way.Goals as goal

pub returns : goal.returns
returns c = λ work a n result old new gate kept call. advances result work a n old new gate kept call
