use Rattle.std.proofs.Common.{refl}
use Rattle.alm_laws.proofs.Refused.{each-numbered}
use Rattle.alm_laws.proofs.table.refusals_are_numbered.Goals as goal

pub returns : goal.returns
returns c = record { numbers = refl; all = each-numbered }
