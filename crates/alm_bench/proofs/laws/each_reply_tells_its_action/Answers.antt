use Rattle.alm_keeper.specs.AsStore.{StandsFor, IsLastEpoch}
use Rattle.alm_pipeline.specs.World.{first, closed_world}
use Rattle.alm_bench.proofs.Order.{shut_order}
use Rattle.alm_bench.proofs.Told.{each_release_tells}
use Rattle.alm_bench.proofs.laws.each_reply_tells_its_action.Goals as goal

pub returns : goal.returns
returns c = λ plant d last steps behind trace rest slot same run. each_release_tells StandsFor IsLastEpoch (closed_world (first plant)) d last steps behind trace rest slot (shut_order (first plant)) same run
