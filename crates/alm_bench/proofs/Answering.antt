-- The answers of a run.
use Rattle.std.proofs.Common.{ℕ, List, [], ◌∷◌}
use Rattle.alm_disk.specs.Device.{DeviceState}
use Rattle.alm_model.specs.Plant.{Condensed}
use Rattle.alm_pipeline.specs.declared.step.Step.{Step}
use Rattle.alm_pipeline.specs.declared.step_event.StepEvent.{StepEvent}
use Rattle.alm_pipeline.specs.World.{World, after_step}
use Rattle.alm_pipeline.specs.Headline.{Sight, IsRun}
use Rattle.alm_progress.specs.Progress.{AnswersAll}

module _ (recovers : List ℕ → Condensed → Type 0) (spent : DeviceState → Type 0) where
  pub run_answers : (w : World) (d last : Sight) (steps : List Step) (trace : List StepEvent) → IsRun recovers spent w d steps trace last → AnswersAll w steps trace
  run_answers w d last [] [] run = tt
  run_answers w d last (step ∷ steps) (event ∷ trace) run = (run.1.1, run_answers (after_step w step event) run.1.0 last steps trace run.1.3)
  run_answers w d last [] (event ∷ trace) run = absurd run
  run_answers w d last (step ∷ steps) [] run = absurd run
