use Rattle.alm_laws.proofs.Moved.{flagged-so}
use Rattle.alm_laws.proofs.plant.flags_are_as_asked.Goals as goal

pub returns : goal.returns
returns c = flagged-so
