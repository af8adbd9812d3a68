-- The calls of a request's commit meet the pace.
use Rattle.std.proofs.Common.{◌<◌, ◌++◌, ◌∷◌, [], ℕ, zero, suc, List, Ok, refl, sym, subst, arith}
use Rattle.alm_types.specs.declared.want.Want.{Want}
use Rattle.alm_types.specs.declared.verdict.Verdict.{Verdict}
use Rattle.alm_desk.specs.declared.judged_request.JudgedRequest.{JudgedRequest}
use Rattle.alm_pipeline.specs.declared.step.Step.{Step}
use Rattle.alm_pipeline.specs.declared.step.Step.TheVariants.{Send, Call}
use Rattle.alm_pipeline.specs.declared.step_event.StepEvent.{StepEvent}
use Rattle.alm_pipeline.specs.declared.step_event.StepEvent.TheVariants.{Busy, Committed, Failed}
use Rattle.alm_pipeline.specs.World.{World}
use Rattle.alm_pipeline.specs.Pace.{PacesAll, most_more}
use Rattle.alm_stack.specs.Exchanges.{ComesTo, answer_events, answer_steps, calls, commit_calls, hand_in_events, hand_in_steps, went_on}

-- calls that return More, as many as are left
calls_paced : (w : World) (n : ℕ) (rest : List Step) (then' : List StepEvent) (last : ℕ) → PacesAll most_more w 0 rest then' last → PacesAll most_more w n (calls n ++ rest) (went_on n ++ then') last
calls_paced w zero rest then' last paces = paces
calls_paced w (suc n) rest then' last paces = (n, (λ _. omega arith), calls_paced w n rest then' last paces)

-- a batch is fetched, and its commit goes on n times
handed_paced : (w : World) (slot : ℕ) (want : Want) (serial : ℕ) (v : Verdict) (n : ℕ) (rest : List Step) (then' : List StepEvent) (last : ℕ) → n < commit_calls → ((x : World) → PacesAll most_more x 0 rest then' last)
    → PacesAll most_more w 0 (hand_in_steps slot want ++ (calls n ++ rest)) (hand_in_events serial v ++ (went_on n ++ then')) last
handed_paced w slot want serial v n rest then' last less paces = (0, omega arith, (0, omega arith, (0, omega arith, (n, omega (arith, less), calls_paced _ n rest then' last (paces _)))))

-- it wasn't sent
pub busy_paced : (w : World) (slot : ℕ) (want : Want) → (last : ℕ) × PacesAll most_more w 0 (Send slot want ∷ []) (Busy ∷ []) last
busy_paced w slot want = (0, (0, omega arith, refl))

-- a call failed
pub failed_paced : (w : World) (slot : ℕ) (want : Want) (serial : ℕ) (v : Verdict) (n : ℕ) → n < commit_calls
    → (last : ℕ) × PacesAll most_more w 0 (hand_in_steps slot want ++ (calls n ++ (Call ∷ []))) (hand_in_events serial v ++ (went_on n ++ (Failed ∷ []))) last
failed_paced w slot want serial v n less = (0, handed_paced w slot want serial v n (Call ∷ []) (Failed ∷ []) 0 less (λ x. (0, omega arith, refl)))

-- it was answered
pub done_paced : (w : World) (slot : ℕ) (want : Want) (j : JudgedRequest) (steps : List Step) (trace : List StepEvent) → ComesTo slot want (Ok j) steps trace → (last : ℕ) × PacesAll most_more w 0 steps trace last
done_paced w slot want j steps trace comes =
    let n = comes.0 in
    let serial = comes.1 in
    let steps' = hand_in_steps slot want ++ (calls n ++ (Call ∷ answer_steps slot)) in
    let trace' = hand_in_events serial j.verdict ++ (went_on n ++ (Committed ∷ answer_events slot serial j.verdict j.number)) in
    let paces : PacesAll most_more w 0 steps' trace' 0 = handed_paced w slot want serial j.verdict n (Call ∷ answer_steps slot) (Committed ∷ answer_events slot serial j.verdict j.number) 0 comes.2
    (λ x. (0, omega arith, (0, omega arith, (0, omega arith, (0, omega arith, (0, omega arith, refl)))))) in
    (0, subst (λ (l : List Step). PacesAll most_more w 0 l trace 0) (sym comes.3) (subst (λ (t : List StepEvent). PacesAll most_more w 0 steps' t 0) (sym comes.4) paces))
