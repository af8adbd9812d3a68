use Rattle.std.proofs.Common.{refl}
use Rattle.alm_keeper.specs.AsStore.{StandsFor, IsLastEpoch}
use Rattle.alm_pipeline.specs.World.{first, closed_world}
use Rattle.alm_bench.proofs.Traces.{look_reaches}
use Rattle.alm_bench.proofs.laws.looks_never_go_back.Goals as goal

pub returns : goal.returns
returns c = λ plant d last steps behind trace rest slot query count same run.
    look_reaches StandsFor IsLastEpoch (closed_world (first plant)) d last steps behind trace rest slot query count same run refl (λ k. refl)
