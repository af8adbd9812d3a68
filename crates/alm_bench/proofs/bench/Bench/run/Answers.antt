use Rattle.alm_keeper.specs.AsStore.{StandsFor, IsLastEpoch}
use Rattle.std.proofs.Common.{rules, refl, ◌≡◌, ◌+◌, ◌∙◌, ◌++◌, ◌∷◌, [], ℕ, List, take, length, ap, sym, subst, arith, length-append}
use Rattle.std.proofs.lemmas.List.{take_more, take_all}
use Rattle.alm_pipeline.specs.declared.step.Step.{Step}
use Rattle.alm_pipeline.specs.declared.step_event.StepEvent.{StepEvent}
use Rattle.alm_pipeline.specs.World.{World}
use Rattle.alm_pipeline.specs.Headline.{IsRun, after_steps}
use Rattle.alm_pipeline.specs.Pace.{PacesAll, most_more}
use Rattle.alm_progress.specs.Progress.{AnswersAll, AreReceived}
use Rattle.alm_progress.proofs.Fair.{fair_run}
use Rattle.alm_bench.specs.Stands.{MatchesBench, IsPaced, bench_sight}
use Rattle.alm_pipeline.proofs.Runs.{run_more, after_more}
use Rattle.alm_pipeline.proofs.Paced.{paces_more}
use Rattle.alm_bench.proofs.Answering.{run_answers}
use Rattle.alm_bench.proofs.bench.Bench.run.Goals as goal

pub loop-step-preserved : goal.loop-step-preserved
loop-step-preserved g c =
    let ss = c.args.steps.now in
    let i = c.loop-step.step-index in
    let s = c.step-item.result in
    let e = c.step-event.result in
    let tr = c.loop-step.trace.items in
    let inv = c.loop-step.invariant in
    let items = c.push_reserved.ensures.items in
    let first = bench_sight c.args.self.now in
    let last = bench_sight c.loop-step.self in
    let more : take (i + 1) ss ≡ take i ss ++ s ∷ [] = take_more ss i s c.loop-step-test.true ∙ ap (λ (x : Step). take i ss ++ x ∷ []) (sym c.step-item.is) in
    record {
      count = omega (arith, ap length items, length-append tr (e ∷ []), inv.count);
      room = c.push_reserved.ensures.capacity ∙ inv.room;
      honest = λ h. inv.honest (c.step-event.ensures.honest h);
      run = λ honest w m.
          let at = after_steps w (take i ss) tr in
          let was = c.step-event.ensures.honest honest in
          let step = c.step-event.ensures.steps honest at (inv.stands was w m) in
          subst (λ (l : List Step). IsRun StandsFor IsLastEpoch w first l c.push_reserved.new.self.items (bench_sight c.step-event.new.self)) (sym more)
          (subst (λ (t : List StepEvent). IsRun StandsFor IsLastEpoch w first (take i ss ++ s ∷ []) t (bench_sight c.step-event.new.self)) (sym items)
          (run_more StandsFor IsLastEpoch w first last (bench_sight c.step-event.new.self) (take i ss) tr s e (inv.run was w m)
          step.answer step.moves step.headline));
      stands = λ honest w m.
          let was = c.step-event.ensures.honest honest in
          subst (λ (v : World). MatchesBench v c.step-event.new.self)
          (sym (after_more StandsFor IsLastEpoch w first last (take i ss) tr s e (inv.run was w m)) ∙ (ap (after_steps w (take i ss ++ s ∷ [])) (sym items) ∙ ap (λ (l : List Step). after_steps w l c.push_reserved.new.self.items) (sym more)))
          (c.step-event.ensures.steps honest (after_steps w (take i ss) tr) (inv.stands was w m)).stands;
      paces = λ honest w pace m held.
          let was = c.step-event.ensures.honest honest in
          let at = after_steps w (take i ss) tr in
          let before = inv.paces was w pace m held in
          let next = (c.step-event.ensures.steps honest at (inv.stands was w m)).paces before.0 before.2 in
          let steps : take i ss ++ s ∷ [] ≡ take (i + 1) ss = sym more in
          let trace : tr ++ e ∷ [] ≡ c.push_reserved.new.self.items = sym items in (
            next.0,
            subst (λ (l : List Step). PacesAll most_more w pace l c.push_reserved.new.self.items next.0) steps
                (subst (λ (t : List StepEvent). PacesAll most_more w pace (take i ss ++ s ∷ []) t next.0) trace (paces_more most_more w pace before.0 next.0 (take i ss) tr s e before.1 next.1)),
            subst (λ (v : World). IsPaced next.0 v c.step-event.new.self)
                (sym (after_more StandsFor IsLastEpoch w first last (take i ss) tr s e (inv.run was w m)) ∙ (ap (after_steps w (take i ss ++ s ∷ [])) trace ∙ ap (λ (l : List Step). after_steps w l c.push_reserved.new.self.items) steps))
                next.2,
          );
      there = λ h. c.step-event.ensures.there (inv.there h);
    }

pub loop-step-init : goal.loop-step-init
loop-step-init g c =
    let here = bench_sight c.args.self.now in
    record {
      count = search rules;
      room = search rules;
      honest = λ h. h;
      run = λ _ w m. subst (λ (t : List StepEvent). IsRun StandsFor IsLastEpoch w here [] t here) (sym c.in_ok-trace.ensures.items) (c.images.ensures.headline w m, refl);
      stands = λ _ w m. m;
      paces = λ _ w pace m e. (pace, subst (λ (t : List StepEvent). PacesAll most_more w pace [] t pace) (sym c.in_ok-trace.ensures.items) refl, e);
      there = λ h. h;
    }

pub returns-clause-run : goal.returns-clause-run
returns-clause-run g c = λ honest w m.
    let trace = c.loop-step.trace.items in
    let old = c.args.self.now in
    let new = c.loop-step.self in
    let all : take c.loop-step.step-index c.args.steps.now ≡ c.args.steps.now = take_all c.loop-step.step-index c.args.steps.now (omega (arith, c.loop-step-test.false)) in
    let run : IsRun StandsFor IsLastEpoch w (bench_sight old) c.args.steps.now trace (bench_sight new) = subst (λ (l : List Step). IsRun StandsFor IsLastEpoch w (bench_sight old) l trace (bench_sight new)) all (c.loop-step.invariant.run honest w m) in
    let paces : (pace : ℕ) → IsPaced pace w old → (last : ℕ) × PacesAll most_more w pace c.args.steps.now trace last × IsPaced last (after_steps w c.args.steps.now trace) new = λ pace e.
    let paced = c.loop-step.invariant.paces honest w pace m e in (
      paced.0,
      subst (λ (l : List Step). PacesAll most_more w pace l trace paced.0) all paced.1,
      subst (λ (l : List Step). IsPaced paced.0 (after_steps w l trace) new) all paced.2,
    ) in
    record {
      run = run;
      stands = subst (λ (l : List Step). MatchesBench (after_steps w l trace) new) all (c.loop-step.invariant.stands honest w m);
      paces = paces;
      answered = λ slots pace rounds e l are most steps sound.
          let answers = run_answers StandsFor IsLastEpoch w (bench_sight old) (bench_sight new) c.args.steps.now trace run in
          let paced = paces pace e in
          subst (λ (ss : List Step). AreReceived slots most_more w (after_steps w ss trace)) (sym steps)
          (fair_run slots most_more w pace rounds trace paced.0 l are most (subst (λ (ss : List Step). AnswersAll w ss trace) steps answers) sound (subst (λ (ss : List Step). PacesAll most_more w pace ss trace paced.0) steps paced.1));
    }
