use Rattle.std.proofs.Common.{◌∙◌, refl, ap, sym, subst}
use Rattle.alm_types.specs.declared.answer.Answer.{Answer}
use Rattle.alm_keeper.specs.AsStore.{StandsFor, IsLastEpoch}
use Rattle.alm_pipeline.specs.World.{World, after_step}
use Rattle.alm_bench.specs.Stands.{IsSetup}
use Rattle.alm_pipeline.specs.declared.step_event.StepEvent.TheVariants.{Skipped}
use Rattle.alm_bench.proofs.Carried.{carried, honest_as, paced_as, same_count, skips_paced, steps_as, still, there, inner_skips, inner_stays, after_skipped}
use Rattle.alm_bench.proofs.bench.Bench.go.Goals as goal

pub go-event-requires : goal.go-event-requires
go-event-requires g c = c.requires

pub returns-in-Open-clause-answer : goal.returns-in-Open-clause-answer
returns-in-Open-clause-answer g c = λ w m. c.go-event.ensures.answer w (still w _ _ (sym c.in-Open.ensures.setup) m).0

pub returns-in-Open-clause-stands : goal.returns-in-Open-clause-stands
returns-in-Open-clause-stands g c = λ w m.
    let is = still w _ _ (sym c.in-Open.ensures.setup) m in
    still (after_step w c.args.step.now c.go-event.result) _ _ (sym c.put.ensures.setup) (c.go-event.ensures.fits w is.0, c.go-event.ensures.honest.0 is.1)

pub returns-in-Open-clause-moves : goal.returns-in-Open-clause-moves
returns-in-Open-clause-moves g c = λ w m.
    let is = still w _ _ (sym c.in-Open.ensures.setup) m in
    let refused = λ (a : Answer). a.refused in
    carried w c.args.step.now c.go-event.result _ _ _ _ _ _ _ _ (ap refused c.in-Open.ensures.answer) (ap refused (sym c.put.ensures.answer)) c.in-Open.ensures.setup (sym c.put.ensures.setup) (c.go-event.ensures.moves w is.0)

pub returns-in-Shut-clause-answer : goal.returns-in-Shut-clause-answer
returns-in-Shut-clause-answer g c = λ w m. inner_skips w c.args.step.now c.requires (still w _ _ (sym c.in-Shut.ensures.setup) m).0

pub returns-in-Shut-clause-stands : goal.returns-in-Shut-clause-stands
returns-in-Shut-clause-stands g c = λ w m.
    subst (λ (v : World). IsSetup v c.put-in-Shut.new.self.setup) (sym (after_skipped w c.args.step.now)) (still w _ _ (sym c.put-in-Shut.ensures.setup) (still w _ _ (sym c.in-Shut.ensures.setup) m))

pub returns-in-Shut-clause-moves : goal.returns-in-Shut-clause-moves
returns-in-Shut-clause-moves g c = λ w m.
    let n = c.args.self.now.answer.refused in
    let shut = still w _ _ (sym c.in-Shut.ensures.setup) m in
    carried w c.args.step.now Skipped n n n _ _ _ _ _ refl (same_count c.args.self.now.answer _ _ c.put-in-Shut.ensures.answer c.in-Shut.ensures.answer) c.in-Shut.ensures.setup (sym c.put-in-Shut.ensures.setup)
    (inner_stays StandsFor IsLastEpoch w c.args.step.now _ c.requires shut.0)

pub returns-in-Gone : goal.returns-in-Gone
returns-in-Gone g c = record {
  honest = λ h. absurd (c.take.ensures.gone h);
  answer = λ w m. absurd (still w _ _ (sym c.in-Gone.ensures.setup) m);
  stands = λ w m. absurd (still w _ _ (sym c.in-Gone.ensures.setup) m);
  moves = λ w m. absurd (still w _ _ (sym c.in-Gone.ensures.setup) m);
  paces = λ w more m e. absurd (still w _ _ (sym c.in-Gone.ensures.setup) m);
  there = λ h. absurd (there _ _ (sym c.in-Gone.ensures.setup) h);
}

pub returns-in-Open-clause-there : goal.returns-in-Open-clause-there
returns-in-Open-clause-there g c = λ h. there _ _ (sym c.put.ensures.setup) tt

pub returns-in-Shut-clause-there : goal.returns-in-Shut-clause-there
returns-in-Shut-clause-there g c = λ h. there _ _ (sym c.put-in-Shut.ensures.setup) tt

pub returns-in-Open-clause-paces : goal.returns-in-Open-clause-paces
returns-in-Open-clause-paces g c = λ w more m e.
    let setup = sym c.in-Open.ensures.setup in
    steps_as w c.args.step.now c.go-event.result more _ _ (sym c.put.ensures.setup) (c.go-event.ensures.paces w more (still w _ _ setup m).0 (paced_as more w _ _ setup e))

pub returns-in-Shut-clause-paces : goal.returns-in-Shut-clause-paces
returns-in-Shut-clause-paces g c = λ w more m e. skips_paced w c.args.step.now more _ _ (sym c.in-Shut.ensures.setup ∙ sym c.put-in-Shut.ensures.setup) e

pub returns-in-Open-clause-honest : goal.returns-in-Open-clause-honest
returns-in-Open-clause-honest g c = λ h. honest_as _ _ c.in-Open.ensures.setup (c.go-event.ensures.honest.1 (honest_as _ _ c.put.ensures.setup h))

pub returns-in-Shut-clause-honest : goal.returns-in-Shut-clause-honest
returns-in-Shut-clause-honest g c = λ h. honest_as _ _ c.in-Shut.ensures.setup (honest_as _ _ c.put-in-Shut.ensures.setup h)
