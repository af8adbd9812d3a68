use Rattle.alm_laws.proofs.OnePlant.{plant-left}
use Rattle.alm_laws.proofs.plant.the_laws_leave_one_plant.Goals as goal

pub returns : goal.returns
returns c = plant-left
