use Rattle.std.proofs.Common.{◌++◌}
use Rattle.alm_keeper.specs.AsStore.{StandsFor, IsLastEpoch}
use Rattle.alm_pipeline.specs.World.{closed_world, first}
use Rattle.alm_pipeline.specs.Pace.{most_more}
use Rattle.alm_progress.specs.Progress.{steps_of}
use Rattle.alm_progress.proofs.Fair.{fair_life}
use Rattle.alm_bench.proofs.Answering.{run_answers}
use Rattle.alm_bench.proofs.laws.fair_rounds_answer_all.Goals as goal

pub returns : goal.returns
returns c = λ slots pace plant d last steps rounds trace rest same run paces are sound most.
    let answers = run_answers StandsFor IsLastEpoch (closed_world (first plant)) d last (steps ++ steps_of rounds) (trace ++ rest) run in
    fair_life slots most_more plant steps rounds trace rest pace same answers paces are sound most
