-- A run of steps of theirs in which no call fails, and whose commits end, is one that the laws speak of.
use Rattle.std.proofs.Common.{◌≡◌, ◌≢◌, ◌≤◌, ◌++◌, inl, inr, ℕ, List, [], ◌∷◌, length, refl, sym, subst, arith}
use Rattle.std.proofs.lemmas.List.Elements.{All-head, All-tail}
use Rattle.alm_pipeline.specs.declared.step.Step.{Step}
use Rattle.alm_pipeline.specs.declared.step_event.StepEvent.{StepEvent}
use Rattle.alm_pipeline.specs.declared.step.Step.TheVariants.{Send, Take, Seal, Fetch, Call, Publish, Release, GiveBack, Receive, Look, Crash, Reopen}
use Rattle.alm_pipeline.specs.declared.step_event.StepEvent.TheVariants.{Sent, Took, Sealed, Fetched, More, Committed, Failed, Published, Released, GaveBack, Received, Looked, Crashed, Opened}
use Rattle.alm_model.specs.Plant.{Condensed}
use Rattle.alm_pipeline.specs.World.{World, IsHeld, after_step, closed_world, first}
use Rattle.alm_pipeline.specs.Headline.{after_steps}
use Rattle.alm_pipeline.specs.Pace.{Paces, PacesAll}
use Rattle.alm_pipeline.proofs.Paced.{still_stage, stored_free}
use Rattle.alm_progress.specs.Progress.{AllServe, AnswersAll, AreReceived, AreRounds, Drives, DrivesRounds, LosesNothing, NoneFails, left_to_do, steps_of}
use Rattle.alm_progress.proofs.Kept.{all_kept, shut_kept}
use Rattle.alm_progress.proofs.Less.{stage_most}
use Rattle.alm_progress.proofs.Rounds.{fairly, held_or_not, stage_same, stays}

abbrev IsSound : StepEvent → Type 0
IsSound event = event ≢ Failed

-- ---- a run after another

answers_apart : (w : World) (steps then' : List Step) (trace rest : List StepEvent) → length steps ≡ length trace → AnswersAll w (steps ++ then') (trace ++ rest) → AnswersAll w steps trace × AnswersAll (after_steps w steps trace) then' rest
answers_apart w [] then' [] rest same answers = (tt, answers)
answers_apart w [] then' (event ∷ trace) rest same answers = absurd (omega (arith, same))
answers_apart w (step ∷ steps) then' [] rest same answers = absurd (omega (arith, same))
answers_apart w (step ∷ steps) then' (event ∷ trace) rest same answers =
    let a = answers_apart (after_step w step event) steps then' trace rest (omega (arith, same)) answers.1 in
    ((answers.0, a.0), a.1)

after_apart : (w : World) (steps then' : List Step) (trace rest : List StepEvent) → length steps ≡ length trace → after_steps w (steps ++ then') (trace ++ rest) ≡ after_steps (after_steps w steps trace) then' rest
after_apart w [] then' [] rest same = refl
after_apart w [] then' (event ∷ trace) rest same = absurd (omega (arith, same))
after_apart w (step ∷ steps) then' [] rest same = absurd (omega (arith, same))
after_apart w (step ∷ steps) then' (event ∷ trace) rest same = after_apart (after_step w step event) steps then' trace rest (omega (arith, same))

module _ (calls : ℕ) where
  paces_apart : (w : World) (more : ℕ) (steps then' : List Step) (trace rest : List StepEvent) (last : ℕ) → length steps ≡ length trace → PacesAll calls w more (steps ++ then') (trace ++ rest) last
      → (next : ℕ) × PacesAll calls w more steps trace next × PacesAll calls (after_steps w steps trace) next then' rest last
  paces_apart w more [] then' [] rest last same paces = (more, refl, paces)
  paces_apart w more [] then' (event ∷ trace) rest last same paces = absurd (omega (arith, same))
  paces_apart w more (step ∷ steps) then' [] rest last same paces = absurd (omega (arith, same))
  paces_apart w more (step ∷ steps) then' (event ∷ trace) rest last same paces =
      let a = paces_apart (after_step w step event) paces.0 steps then' trace rest last (omega (arith, same)) paces.2 in
      (a.0, (paces.0, paces.1, a.1), a.2)

  -- while a batch is held no more of its calls are left than of any batch's
  held_few : (w : World) (step : Step) (event : StepEvent) (more next : ℕ) → Paces calls w step event more next → (IsHeld w.stage → more ≤ calls) → IsHeld (after_step w step event).stage → next ≤ calls
  held_few w Fetch Fetched more next paces few held = paces
  held_few w Call More more next paces few held = omega (arith, paces held, few held)
  held_few w Call Committed more next paces few held = absurd (stored_free w w.stage refl held)
  held_few w Call Failed more next paces few held = absurd held
  held_few w Publish Published more next paces few held = omega (arith, paces, few (subst IsHeld (still_stage w Publish Published tt held) held))
  held_few w Release (Released slot) more next paces few held = omega (arith, paces, few (subst IsHeld (still_stage w Release (Released slot) tt held) held))
  held_few w GiveBack GaveBack more next paces few held = absurd held
  held_few w (Crash bytes) Crashed more next paces few held = absurd held
  held_few w Reopen (Opened n) more next paces few held = absurd held
  held_few w (Send slot a) (Sent serial) more next paces few held = omega (arith, paces, few held)
  held_few w (Take slot) (Took v) more next paces few held = omega (arith, paces, few held)
  held_few w Seal Sealed more next paces few held = omega (arith, paces, few held)
  held_few w (Receive slot) (Received serial verdict number) more next paces few held = omega (arith, paces, few held)
  held_few w (Look slot query) (Looked count) more next paces few held = omega (arith, paces, few held)
  held_few w step event more next paces few held = omega (arith, paces, few held)

  held_still_few : (w : World) (more : ℕ) (steps : List Step) (trace : List StepEvent) (last : ℕ) → PacesAll calls w more steps trace last → (IsHeld w.stage → more ≤ calls) → IsHeld (after_steps w steps trace).stage → last ≤ calls
  held_still_few w more [] [] last paces few held = omega (arith, paces, few held)
  held_still_few w more [] (event ∷ trace) last paces few held = absurd paces
  held_still_few w more (step ∷ steps) [] last paces few held = absurd paces
  held_still_few w more (step ∷ steps) (event ∷ trace) last paces few held =
      held_still_few (after_step w step event) paces.0 steps trace last paces.2 (held_few w step event more paces.0 paces.1 few) held

-- ---- what is driven

module _ (slots calls : ℕ) where
  pub goes_driven : (w : World) (more : ℕ) (steps : List Step) (trace : List StepEvent) (last : ℕ) → AllServe slots calls steps → AnswersAll w steps trace → NoneFails trace → PacesAll calls w more steps trace last
      → Drives slots calls w more steps trace (after_steps w steps trace) last
  goes_driven w more [] [] last serve answers sound paces = (refl, paces)
  goes_driven w more [] (event ∷ trace) last serve answers sound paces = absurd answers
  goes_driven w more (step ∷ steps) [] last serve answers sound paces = absurd answers
  goes_driven w more (step ∷ steps) (event ∷ trace) last serve answers sound paces = (
    serve.0,
    answers.0,
    All-head IsSound event trace sound,
    (paces.0, paces.1, goes_driven (after_step w step event) paces.0 steps trace last serve.1 answers.1 (All-tail IsSound event trace sound) paces.2),
  )

  -- what is driven one after the other
  driven_apart : (w : World) (more : ℕ) (steps rest : List Step) (trace : List StepEvent) (end : World) (last : ℕ) → Drives slots calls w more (steps ++ rest) trace end last
      → (first then' : List StepEvent) × (between : World) × (next : ℕ) × Drives slots calls w more steps first between next × Drives slots calls between next rest then' end last
  driven_apart w more [] rest trace end last d = ([], trace, w, more, (refl, refl), d)
  driven_apart w more (step ∷ steps) rest [] end last d = absurd d
  driven_apart w more (step ∷ steps) rest (event ∷ trace) end last d =
      let r = driven_apart (after_step w step event) d.3.0 steps rest trace end last d.3.2 in
      (event ∷ r.0, r.1, r.2, r.3, (d.0, d.1, d.2, (d.3.0, d.3.1, r.4)), r.5)

  driven_rounds : (w : World) (more : ℕ) (rounds : List (List Step)) (trace : List StepEvent) (end : World) (last : ℕ) → AreRounds slots calls rounds → Drives slots calls w more (steps_of rounds) trace end last → DrivesRounds slots calls w more rounds end last
  driven_rounds w more [] [] end last are d = d
  driven_rounds w more [] (event ∷ trace) end last are d = absurd d
  driven_rounds w more (round ∷ rounds) trace end last are d =
      let a = driven_apart w more round (steps_of rounds) trace end last d in
      (are.0, (a.0, a.2, a.3, a.4, driven_rounds a.2 a.3 rounds a.1 end last are.2 a.5))

  rounds_serve : (rounds : List (List Step)) → AreRounds slots calls rounds → AllServe slots calls (steps_of rounds)
  rounds_serve [] are = tt
  rounds_serve (round ∷ rounds) are = serve_both round (steps_of rounds) are.1 (rounds_serve rounds are.2)
    where
      serve_both : (steps rest : List Step) → AllServe slots calls steps → AllServe slots calls rest → AllServe slots calls (steps ++ rest)
      serve_both [] rest serve then' = then'
      serve_both (step ∷ steps) rest serve then' = (serve.0, serve_both steps rest serve.1 then')

  pub fair_run : (w : World) (more : ℕ) (rounds : List (List Step)) (trace : List StepEvent) (last : ℕ) → LosesNothing w → AreRounds slots calls rounds → left_to_do slots calls w more ≤ length rounds
      → AnswersAll w (steps_of rounds) trace → NoneFails trace → PacesAll calls w more (steps_of rounds) trace last → AreReceived slots calls w (after_steps w (steps_of rounds) trace)
  fair_run w more rounds trace last l are most answers sound paces =
      let end = after_steps w (steps_of rounds) trace in
      fairly slots calls w more rounds end last l most (driven_rounds w more rounds trace end last are (goes_driven w more (steps_of rounds) trace last (rounds_serve rounds are) answers sound paces))

  -- no more is left than if each call of a held batch's commit were left
  most_left : (w : World) (more : ℕ) → (IsHeld w.stage → more ≤ calls) → left_to_do slots calls w more ≤ left_to_do slots calls w calls
  most_left w more few = elim (held_or_not w.stage) [
    | inl held ↦ stays slots calls w calls more (stage_most slots calls w.stage calls more (few held))
    | inr idle ↦ stays slots calls w calls more (stage_same slots calls w.stage calls more idle)
  ]

  pub fair_life : (plant : Condensed) (steps : List Step) (rounds : List (List Step)) (trace rest : List StepEvent) (last : ℕ) → length steps ≡ length trace → AnswersAll (closed_world (first plant)) (steps ++ steps_of rounds) (trace ++ rest)
      → PacesAll calls (closed_world (first plant)) 0 (steps ++ steps_of rounds) (trace ++ rest) last → AreRounds slots calls rounds → NoneFails rest
      → left_to_do slots calls (after_steps (closed_world (first plant)) steps trace) calls ≤ length rounds
      → AreReceived slots calls (after_steps (closed_world (first plant)) steps trace) (after_steps (closed_world (first plant)) (steps ++ steps_of rounds) (trace ++ rest))
  fair_life plant steps rounds trace rest last same answers paces are sound most =
      let begin' = closed_world (first plant) in
      let w = after_steps begin' steps trace in
      let a = answers_apart begin' steps (steps_of rounds) trace rest same answers in
      let p = paces_apart calls begin' 0 steps (steps_of rounds) trace rest last same paces in
      let few = most_left w p.0 (held_still_few calls begin' 0 steps trace p.0 p.1 (λ held. absurd held)) in
      subst (AreReceived slots calls w) (sym (after_apart begin' steps (steps_of rounds) trace rest same))
      (fair_run w p.0 rounds rest last (all_kept begin' steps trace a.0 (shut_kept (first plant))) are (omega (arith, few, most)) a.1 sound p.2)
