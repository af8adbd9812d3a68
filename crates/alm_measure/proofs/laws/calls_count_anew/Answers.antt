use Rattle.alm_measure.proofs.Plants.{advanced-anew, annunciated-anew, settled-anew}
use Rattle.alm_measure.proofs.laws.calls_count_anew.Goals as goal

pub returns : goal.returns
returns c = record { annunciated = annunciated-anew; advanced = advanced-anew; settled = settled-anew }
