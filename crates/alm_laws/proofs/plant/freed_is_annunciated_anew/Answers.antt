use Rattle.alm_laws.proofs.Plants.{freed-anew, annunciated-only, others-stay}
use Rattle.alm_laws.proofs.plant.freed_is_annunciated_anew.Goals as goal

pub returns : goal.returns
returns c = record { freed = freed-anew; only = annunciated-only; others = others-stay }
