use Rattle.alm_laws.proofs.Chronic.{chronological}
use Rattle.alm_laws.proofs.lists.lists_are_chronological.Goals as goal

pub returns : goal.returns
returns c = chronological
