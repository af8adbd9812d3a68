-- A run continues by one step.
use Rattle.std.proofs.Common.{◌≡◌, ℕ, List, [], ◌∷◌, ◌++◌, refl, sym, subst}
use Rattle.alm_disk.specs.Device.{DeviceState}
use Rattle.alm_model.specs.Plant.{Condensed}
use Rattle.alm_pipeline.specs.declared.step.Step.{Step}
use Rattle.alm_pipeline.specs.declared.step_event.StepEvent.{StepEvent}
use Rattle.alm_pipeline.specs.World.{World, Answers, after_step}
use Rattle.alm_pipeline.specs.Headline.{Sight, Headline, Moves, IsRun, after_steps}

module _ (recovers : List ℕ → Condensed → Type 0) (spent : DeviceState → Type 0) where
  pub run_more : (w : World) (d m d' : Sight) (steps : List Step) (trace : List StepEvent) (s : Step) (e : StepEvent) → IsRun recovers spent w d steps trace m
      → Answers (after_steps w steps trace) s e → Moves recovers spent (after_steps w steps trace) s e m d' → Headline recovers spent (after_step (after_steps w steps trace) s e) d'.state
      → IsRun recovers spent w d (steps ++ s ∷ []) (trace ++ e ∷ []) d'
  run_more w d m d' [] [] s e run answers moves headline =
      (run.0, (d', answers, subst (λ x. Moves recovers spent w s e x d') run.1 moves, (headline, refl)))
  run_more w d m d' (x ∷ steps) (y ∷ trace) s e run answers moves headline =
      (run.0, (run.1.0, run.1.1, run.1.2, run_more (after_step w x y) run.1.0 m d' steps trace s e run.1.3 answers moves headline))
  run_more w d m d' [] (y ∷ trace) s e run answers moves headline = absurd run
  run_more w d m d' (x ∷ steps) [] s e run answers moves headline = absurd run

  pub after_more : (w : World) (d m : Sight) (steps : List Step) (trace : List StepEvent) (s : Step) (e : StepEvent) → IsRun recovers spent w d steps trace m
      → after_steps w (steps ++ s ∷ []) (trace ++ e ∷ []) ≡ after_step (after_steps w steps trace) s e
  after_more w d m [] [] s e run = refl
  after_more w d m (x ∷ steps) (y ∷ trace) s e run = after_more (after_step w x y) run.1.0 m steps trace s e run.1.3
  after_more w d m [] (y ∷ trace) s e run = absurd run
  after_more w d m (x ∷ steps) [] s e run = absurd run

  -- the headline holds at the end of a run
  pub at_end : (w : World) (d m : Sight) (steps : List Step) (trace : List StepEvent) → IsRun recovers spent w d steps trace m → Headline recovers spent (after_steps w steps trace) m.state
  at_end w d m [] [] run = subst (λ (x : Sight). Headline recovers spent w x.state) (sym run.1) run.0
  at_end w d m (x ∷ steps) (y ∷ trace) run = at_end (after_step w x y) run.1.0 m steps trace run.1.3
  at_end w d m [] (y ∷ trace) run = absurd run
  at_end w d m (x ∷ steps) [] run = absurd run
