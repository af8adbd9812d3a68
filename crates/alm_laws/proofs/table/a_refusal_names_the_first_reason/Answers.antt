use Rattle.alm_laws.proofs.Refused.{first-reason}
use Rattle.alm_laws.proofs.table.a_refusal_names_the_first_reason.Goals as goal

pub returns : goal.returns
returns c = first-reason
