use Rattle.alm_keeper.proofs.Trail.{closed_says, same_gate, one_closed}
use Rattle.alm_keeper.proofs.laws.a_closed_gate_is_not_found.Goals as goal

pub returns-clause-says : goal.returns-clause-says
returns-clause-says c = λ bytes before asked s frame admitted takes gate closed. closed_says bytes before asked s frame admitted takes gate closed

pub returns-clause-same : goal.returns-clause-same
returns-clause-same c = λ bytes before asked s frame admitted takes version. same_gate bytes before asked s frame admitted takes 90 (one_closed s.cut.version s.gate version s.closed)
