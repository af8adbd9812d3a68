use Rattle.alm_laws.proofs.Clocked.{each-counted}
use Rattle.alm_laws.proofs.clock.each_action_is_counted.Goals as goal

pub returns : goal.returns
returns c = each-counted
