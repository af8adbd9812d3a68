use Rattle.alm_laws.proofs.Plants.{asked-by}
use Rattle.alm_laws.proofs.askers.each_action_has_its_asker.Goals as goal

pub returns : goal.returns
returns c = asked-by
