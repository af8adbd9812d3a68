use Rattle.alm_laws.proofs.Plants.{shelving-ends-by, clock-ends}
use Rattle.alm_laws.proofs.plant.shelvings_end_by_unshelve_or_clock.Goals as goal

pub returns : goal.returns
returns c = record { only = shelving-ends-by; due = clock-ends }
