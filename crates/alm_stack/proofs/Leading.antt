-- Steps that lead from one world to another.
use Rattle.std.proofs.Common.{◌≡◌, ◌+◌, ◌∙◌, ◌++◌, ◌∷◌, [], ℕ, zero, suc, List, refl, ap, subst, arith}
use Rattle.alm_disk.specs.Device.{DeviceState}
use Rattle.alm_model.specs.Plant.{Condensed}
use Rattle.alm_pipeline.specs.declared.step.Step.{Step}
use Rattle.alm_pipeline.specs.declared.step.Step.TheVariants.{Call}
use Rattle.alm_pipeline.specs.declared.step_event.StepEvent.{StepEvent}
use Rattle.alm_pipeline.specs.declared.step_event.StepEvent.TheVariants.{More}
use Rattle.alm_pipeline.specs.World.{World, after_step}
use Rattle.alm_pipeline.specs.Headline.{Sight, Headline, IsRun, after_steps}
use Rattle.alm_stack.specs.Exchanges.{IsTrace, Leads, calls, went_on}

module _ (recovers : List ℕ → Condensed → Type 0) (spent : DeviceState → Type 0) (honest : Type 0) where
  -- one way after another
  pub leads_then : (w : World) (d : Sight) (steps : List Step) (trace : List StepEvent) (w' : World) (d' : Sight) (steps' : List Step) (trace' : List StepEvent) (w'' : World) (d'' : Sight)
      → Leads recovers spent honest w d steps trace w' d' → Leads recovers spent honest w' d' steps' trace' w'' d'' → Leads recovers spent honest w d (steps ++ steps') (trace ++ trace') w'' d''
  leads_then w d [] [] w' d' steps' trace' w'' d'' l m =
      subst (λ (x : World). Leads recovers spent honest x d steps' trace' w'' d'') l.0 (subst (λ (y : Sight). Leads recovers spent honest w' y steps' trace' w'' d'') l.1 m)
  leads_then w d (s ∷ steps) (e ∷ trace) w' d' steps' trace' w'' d'' l m =
      (l.0, l.1, l.2, leads_then (after_step w s e) l.0 steps trace w' d' steps' trace' w'' d'' l.3 m)
  leads_then w d [] (e ∷ trace) w' d' steps' trace' w'' d'' l m = absurd l
  leads_then w d (s ∷ steps) [] w' d' steps' trace' w'' d'' l m = absurd l

  pub leads_trace : (w : World) (d : Sight) (steps : List Step) (trace : List StepEvent) (w' : World) (d' : Sight) → Leads recovers spent honest w d steps trace w' d' → IsTrace w steps trace
  leads_trace w d [] [] w' d' l = tt
  leads_trace w d (s ∷ steps) (e ∷ trace) w' d' l = (l.1, leads_trace (after_step w s e) l.0 steps trace w' d' l.3)
  leads_trace w d [] (e ∷ trace) w' d' l = absurd l
  leads_trace w d (s ∷ steps) [] w' d' l = absurd l

  pub leads_after : (w : World) (d : Sight) (steps : List Step) (trace : List StepEvent) (w' : World) (d' : Sight) → Leads recovers spent honest w d steps trace w' d' → w' ≡ after_steps w steps trace
  leads_after w d [] [] w' d' l = l.0
  leads_after w d (s ∷ steps) (e ∷ trace) w' d' l = leads_after (after_step w s e) l.0 steps trace w' d' l.3
  leads_after w d [] (e ∷ trace) w' d' l = absurd l
  leads_after w d (s ∷ steps) [] w' d' l = absurd l

  -- with an honest device, and if the headline holds at its end, it is a run
  pub leads_run : (w : World) (d : Sight) (steps : List Step) (trace : List StepEvent) (w' : World) (d' : Sight) → honest → Headline recovers spent w' d'.state
      → Leads recovers spent honest w d steps trace w' d' → IsRun recovers spent w d steps trace d'
  leads_run w d [] [] w' d' is headline l =
      (subst (λ (x : World). Headline recovers spent x d.state) l.0 (subst (λ (y : Sight). Headline recovers spent w' y.state) l.1 headline), l.1)
  leads_run w d (s ∷ steps) (e ∷ trace) w' d' is headline l =
      let both = l.2 is in
      (both.0, (l.0, l.1, both.1, leads_run (after_step w s e) l.0 steps trace w' d' is headline l.3))
  leads_run w d [] (e ∷ trace) w' d' is headline l = absurd l
  leads_run w d (s ∷ steps) [] w' d' is headline l = absurd l

-- a premise that implies another
pub leads_if : (recovers : List ℕ → Condensed → Type 0) (spent : DeviceState → Type 0) (honest honest' : Type 0) → (honest → honest') → (w : World) (d : Sight) (steps : List Step) (trace : List StepEvent) (w' : World) (d' : Sight)
    → Leads recovers spent honest' w d steps trace w' d' → Leads recovers spent honest w d steps trace w' d'
leads_if recovers spent honest honest' f w d [] [] w' d' l = l
leads_if recovers spent honest honest' f w d (s ∷ steps) (e ∷ trace) w' d' l = (l.0, l.1, (λ h. l.2 (f h)), leads_if recovers spent honest honest' f (after_step w s e) l.0 steps trace w' d' l.3)
leads_if recovers spent honest honest' f w d [] (e ∷ trace) w' d' l = absurd l
leads_if recovers spent honest honest' f w d (s ∷ steps) [] w' d' l = absurd l

calls_longer : (n : ℕ) → calls n ++ Call ∷ [] ≡ calls (suc n)
calls_longer zero = refl
calls_longer (suc n) = ap (λ (l : List Step). Call ∷ l) (calls_longer n)

went_longer : (n : ℕ) → went_on n ++ More ∷ [] ≡ went_on (suc n)
went_longer zero = refl
went_longer (suc n) = ap (λ (l : List StepEvent). More ∷ l) (went_longer n)

pub calls_more : (n : ℕ) → calls n ++ Call ∷ [] ≡ calls (n + 1)
calls_more n = let same : suc n ≡ n + 1 = omega arith in calls_longer n ∙ ap calls same

pub went_more : (n : ℕ) → went_on n ++ More ∷ [] ≡ went_on (n + 1)
went_more n = let same : suc n ≡ n + 1 = omega arith in went_longer n ∙ ap went_on same
