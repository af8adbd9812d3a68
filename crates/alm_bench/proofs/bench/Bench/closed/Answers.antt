use Rattle.std.proofs.Common.{refl}
use Rattle.alm_keeper.specs.AsStore.{StandsFor}
use Rattle.alm_keeper.specs.StoreLaws.{keeps_rules, stands_for_one}
use Rattle.alm_pipeline.specs.World.{first}
use Rattle.alm_pipeline.proofs.Paced.{none_few}
use Rattle.alm_bench.proofs.Reopened.{first_is}
use Rattle.alm_bench.proofs.bench.Bench.closed.Goals as goal

pub returns-clause-stands : goal.returns-clause-stands
returns-clause-stands g c = λ honest plant all. (refl, honest, λ image is. first_is StandsFor stands_for_one keeps_rules plant image is.bytes (all image is))

pub returns-clause-paced : goal.returns-clause-paced
returns-clause-paced g c = λ plant. none_few (first plant)
