use Rattle.alm_keeper.specs.AsStore.{StandsFor, IsLastEpoch}
use Rattle.alm_pipeline.specs.World.{first, closed_world}
use Rattle.alm_bench.proofs.Order.{shut_order}
use Rattle.alm_bench.proofs.Told.{told_is_recovered}
use Rattle.alm_bench.proofs.laws.what_was_told_is_recovered.Goals as goal

pub returns : goal.returns
returns c = λ plant d last steps behind trace rest step event told same run tells image q is r. told_is_recovered StandsFor IsLastEpoch (closed_world (first plant)) d last steps behind trace rest step event told (shut_order (first plant)) same run tells image q is r
