use Rattle.std.proofs.Common.{refl}
use Rattle.alm_laws.proofs.Begun.{begun-rows, begun-floods}
use Rattle.alm_laws.proofs.plant.a_new_plant_is_at_rest.Goals as goal

pub returns : goal.returns
returns c = record { alarms = begun-rows; floods = begun-floods; moment = λ t. refl; count = λ t. refl; attributes = λ t. refl }
