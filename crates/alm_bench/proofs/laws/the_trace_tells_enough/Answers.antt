use Rattle.std.proofs.Common.{refl}
use Rattle.alm_keeper.specs.AsStore.{StandsFor, IsLastEpoch}
use Rattle.alm_pipeline.specs.World.{first, closed_world}
use Rattle.alm_bench.proofs.Traces.{safe_by_trace}
use Rattle.alm_bench.proofs.laws.the_trace_tells_enough.Goals as goal

pub returns : goal.returns
returns c = λ plant d last steps trace run image is. safe_by_trace StandsFor IsLastEpoch (closed_world (first plant)) d last steps trace run (λ slot. refl) image is
