use Rattle.std.proofs.Common.{refl}
use Rattle.alm_laws.proofs.Measuring.{console-so}
use Rattle.alm_laws.proofs.askers.each_slot_has_its_role.Goals as goal

pub returns : goal.returns
returns c = record { consoles = console-so; feed = refl; clock = refl }
