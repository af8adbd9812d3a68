use Rattle.alm_measure.proofs.Plants.{annunciated-along, chattering-along}
use Rattle.alm_measure.proofs.laws.metrics_go_along.Goals as goal

pub returns-clause-annunciated : goal.returns-clause-annunciated
returns-clause-annunciated c = annunciated-along

pub returns-clause-chattering : goal.returns-clause-chattering
returns-clause-chattering c = chattering-along
