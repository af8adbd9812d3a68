use Rattle.std.proofs.Common.{◌∙◌, sym, refl, subst}
use Rattle.alm_pipeline.specs.World.{after_step, closed_world}
use Rattle.alm_disk.specs.Failures.{HasFailed}
use Rattle.alm_pipeline.specs.Headline.{device_alone}
use Rattle.alm_pipeline.specs.Matches.{sight_in}
use Rattle.alm_bench.specs.Stands.{is_sure}
use Rattle.alm_bench.specs.declared.setup.Setup as T
use Rattle.alm_bench.specs.declared.setup.Setup.TheVariants.{Open}
use Rattle.alm_pipeline.specs.declared.step.Step.TheVariants as S
use Rattle.alm_pipeline.specs.declared.step_event.StepEvent.TheVariants as E
use Rattle.alm_bench.proofs.Carried.{carried, failed_alike, failed_between, honest_as, paced_as, same_count, skips_paced, steps_as, still, there, shut_not_open}
use Rattle.alm_bench.proofs.bench.Bench.call.Goals as goal

pub returns-in-More-clause-answer : goal.returns-in-More-clause-answer
returns-in-More-clause-answer g c = λ w m. c.in-More.ensures.answer w (still w _ _ (sym c.in-Open.ensures.setup) m).0

pub returns-in-More-clause-stands : goal.returns-in-More-clause-stands
returns-in-More-clause-stands g c = λ w m. let is = still w _ _ (sym c.in-Open.ensures.setup) m in still (after_step w S.Call E.More) _ _ (sym c.put.ensures.setup) (c.in-More.ensures.fits w is.0, c.in-More.ensures.honest.0 is.1)

pub returns-in-More-clause-moves : goal.returns-in-More-clause-moves
returns-in-More-clause-moves g c = λ w m.
    let n = c.args.self.now.answer.refused in
    let is = still w _ _ (sym c.in-Open.ensures.setup) m in
    carried w S.Call E.More n n n _ _ _ _ _ refl (same_count c.args.self.now.answer _ _ c.put.ensures.answer c.in-Open.ensures.answer) c.in-Open.ensures.setup (sym c.put.ensures.setup) (c.in-More.ensures.moves is.1 w is.0 n)

pub returns-in-Committed-clause-answer : goal.returns-in-Committed-clause-answer
returns-in-Committed-clause-answer g c = λ w m. c.in-Committed.ensures.answer w (still w _ _ (sym c.in-Open.ensures.setup) m).0

pub returns-in-Committed-clause-stands : goal.returns-in-Committed-clause-stands
returns-in-Committed-clause-stands g c = λ w m. let is = still w _ _ (sym c.in-Open.ensures.setup) m in still (after_step w S.Call E.Committed) _ _ (sym c.put-in-Committed.ensures.setup) (c.in-Committed.ensures.fits w is.0, c.in-Committed.ensures.honest.0 is.1)

pub returns-in-Committed-clause-moves : goal.returns-in-Committed-clause-moves
returns-in-Committed-clause-moves g c = λ w m.
    let n = c.args.self.now.answer.refused in
    let is = still w _ _ (sym c.in-Open.ensures.setup) m in
    carried w S.Call E.Committed n n n _ _ _ _ _ refl (same_count c.args.self.now.answer _ _ c.put-in-Committed.ensures.answer c.in-Open.ensures.answer) c.in-Open.ensures.setup (sym c.put-in-Committed.ensures.setup) (c.in-Committed.ensures.moves is.1 w is.0 n)

pub returns-in-Nothing-clause-answer : goal.returns-in-Nothing-clause-answer
returns-in-Nothing-clause-answer g c = λ w m. c.in-Nothing.ensures.answer w (still w _ _ (sym c.in-Open.ensures.setup) m).0

pub returns-in-Nothing-clause-stands : goal.returns-in-Nothing-clause-stands
returns-in-Nothing-clause-stands g c = λ w m. let is = still w _ _ (sym c.in-Open.ensures.setup) m in still (after_step w S.Call E.Skipped) _ _ (sym c.put-in-Nothing.ensures.setup) (c.in-Nothing.ensures.fits w is.0, c.in-Nothing.ensures.honest.0 is.1)

pub returns-in-Nothing-clause-moves : goal.returns-in-Nothing-clause-moves
returns-in-Nothing-clause-moves g c = λ w m.
    let n = c.args.self.now.answer.refused in
    let is = still w _ _ (sym c.in-Open.ensures.setup) m in
    carried w S.Call E.Skipped n n n _ _ _ _ _ refl (same_count c.args.self.now.answer _ _ c.put-in-Nothing.ensures.answer c.in-Open.ensures.answer) c.in-Open.ensures.setup (sym c.put-in-Nothing.ensures.setup) (c.in-Nothing.ensures.moves is.1 w is.0 n)

pub returns-in-Failed-clause-answer : goal.returns-in-Failed-clause-answer
returns-in-Failed-clause-answer g c = λ w m. c.in-Failed.ensures.answer w (still w _ _ (sym c.in-Open.ensures.setup) m).0

pub returns-in-Failed-clause-stands : goal.returns-in-Failed-clause-stands
returns-in-Failed-clause-stands g c = λ w m.
    let is = still w _ _ (sym c.in-Open.ensures.setup) m in
    let fits = c.in-Failed.ensures.fits w is.0 in
    let honest = c.in-Failed.ensures.honest.0 is.1 in
    let disk = c.into_device-disk.ensures in
    still (closed_world w) _ _ (sym c.put-in-Failed.ensures.setup) (refl, disk.honest.0 honest, disk.headline honest w fits)

pub returns-in-Failed-clause-moves : goal.returns-in-Failed-clause-moves
returns-in-Failed-clause-moves g c = λ w m.
    let n = c.args.self.now.answer.refused in
    let is = still w _ _ (sym c.in-Open.ensures.setup) m in
    let disk = c.into_device-disk in
    let from = sight_in n c.in-Open.pipeline in
    let left = device_alone (g.D.Disk.state disk.result) (g.D.Disk.failures disk.result) n in
    carried w S.Call E.Failed n n n _ _ _ _ _ refl (same_count c.args.self.now.answer _ _ c.put-in-Failed.ensures.answer c.in-Open.ensures.answer) c.in-Open.ensures.setup (sym c.put-in-Failed.ensures.setup)
    (failed_alike w from (sight_in n c.call.new.self) left (sym disk.ensures.device) (sym disk.ensures.failures) refl (c.in-Failed.ensures.moves is.1 w is.0 n))

pub returns-in-Failed-clause-sure : goal.returns-in-Failed-clause-sure
returns-in-Failed-clause-sure g c = λ _ surely w m.
    let is = still w _ _ (sym c.in-Open.ensures.setup) m in
    let disk = c.into_device-disk.ensures in
    let was : is_sure (Open c.in-Open.pipeline) = subst (λ (s : T.Setup _ _ _ _). is_sure s) (sym c.in-Open.ensures.setup) surely in
    failed_between c.args.self.now.answer.refused c.put-in-Failed.new.self.answer.refused _ _ _ _ c.in-Open.ensures.setup (sym c.put-in-Failed.ensures.setup) (subst (HasFailed (sight_in 0 c.in-Open.pipeline).failures) (sym disk.failures) (c.in-Failed.ensures.sure refl was w is.0))

pub returns-in-Shut-clause-answer : goal.returns-in-Shut-clause-answer
returns-in-Shut-clause-answer g c = λ w m possible. shut_not_open w.closed (still w _ _ (sym c.in-Shut.ensures.setup) m).0 possible.0

pub returns-in-Shut-clause-stands : goal.returns-in-Shut-clause-stands
returns-in-Shut-clause-stands g c = λ w m. still w _ _ (sym c.put-in-Shut.ensures.setup) (still w _ _ (sym c.in-Shut.ensures.setup) m)

pub returns-in-Shut-clause-moves : goal.returns-in-Shut-clause-moves
returns-in-Shut-clause-moves g c = λ w m.
    let n = c.args.self.now.answer.refused in
    carried w S.Call E.Skipped n n n _ _ _ _ _ refl (same_count c.args.self.now.answer _ _ c.put-in-Shut.ensures.answer c.in-Shut.ensures.answer) c.in-Shut.ensures.setup (sym c.put-in-Shut.ensures.setup) ((λ may. shut_not_open w.closed (still w _ _ (sym c.in-Shut.ensures.setup) m).0 may.0), refl)

pub returns-in-Gone : goal.returns-in-Gone
returns-in-Gone g c = record {
  honest = λ h. absurd (c.take.ensures.gone h);
  answer = λ w m. absurd (still w _ _ (sym c.in-Gone.ensures.setup) m);
  stands = λ w m. absurd (still w _ _ (sym c.in-Gone.ensures.setup) m);
  moves = λ w m. absurd (still w _ _ (sym c.in-Gone.ensures.setup) m);
  sure = λ _ _ w m. absurd (still w _ _ (sym c.in-Gone.ensures.setup) m);
  paces = λ w more m e. absurd (still w _ _ (sym c.in-Gone.ensures.setup) m);
  there = λ h. absurd (there _ _ (sym c.in-Gone.ensures.setup) h);
}

pub returns-in-More-clause-there : goal.returns-in-More-clause-there
returns-in-More-clause-there g c = λ h. there _ _ (sym c.put.ensures.setup) tt

pub returns-in-Committed-clause-there : goal.returns-in-Committed-clause-there
returns-in-Committed-clause-there g c = λ h. there _ _ (sym c.put-in-Committed.ensures.setup) tt

pub returns-in-Nothing-clause-there : goal.returns-in-Nothing-clause-there
returns-in-Nothing-clause-there g c = λ h. there _ _ (sym c.put-in-Nothing.ensures.setup) tt

pub returns-in-Failed-clause-there : goal.returns-in-Failed-clause-there
returns-in-Failed-clause-there g c = λ h. there _ _ (sym c.put-in-Failed.ensures.setup) tt

pub returns-in-Shut-clause-there : goal.returns-in-Shut-clause-there
returns-in-Shut-clause-there g c = λ h. there _ _ (sym c.put-in-Shut.ensures.setup) tt

pub returns-in-More-clause-paces : goal.returns-in-More-clause-paces
returns-in-More-clause-paces g c = λ w more m e.
    let setup = sym c.in-Open.ensures.setup in
    steps_as w S.Call E.More more _ _ (sym c.put.ensures.setup) (c.in-More.ensures.paces w more (still w _ _ setup m).0 (paced_as more w _ _ setup e))

pub returns-in-Committed-clause-paces : goal.returns-in-Committed-clause-paces
returns-in-Committed-clause-paces g c = λ w more m e.
    let setup = sym c.in-Open.ensures.setup in
    steps_as w S.Call E.Committed more _ _ (sym c.put-in-Committed.ensures.setup) (c.in-Committed.ensures.paces w more (still w _ _ setup m).0 (paced_as more w _ _ setup e))

pub returns-in-Nothing-clause-paces : goal.returns-in-Nothing-clause-paces
returns-in-Nothing-clause-paces g c = λ w more m e.
    let setup = sym c.in-Open.ensures.setup in
    steps_as w S.Call E.Skipped more _ _ (sym c.put-in-Nothing.ensures.setup) (c.in-Nothing.ensures.paces w more (still w _ _ setup m).0 (paced_as more w _ _ setup e))

pub returns-in-Failed-clause-paces : goal.returns-in-Failed-clause-paces
returns-in-Failed-clause-paces g c = λ w more m e.
    let setup = sym c.in-Open.ensures.setup in
    let paces = c.in-Failed.ensures.paces w more (still w _ _ setup m).0 (paced_as more w _ _ setup e) in
    steps_as w S.Call E.Failed more _ _ (sym c.put-in-Failed.ensures.setup) (paces.0, paces.1, paces.2.few)

pub returns-in-Shut-clause-paces : goal.returns-in-Shut-clause-paces
returns-in-Shut-clause-paces g c = λ w more m e. skips_paced w S.Call more _ _ (sym c.in-Shut.ensures.setup ∙ sym c.put-in-Shut.ensures.setup) e

pub returns-in-More-clause-honest : goal.returns-in-More-clause-honest
returns-in-More-clause-honest g c = λ h. honest_as _ _ c.in-Open.ensures.setup (c.in-More.ensures.honest.1 (honest_as _ _ c.put.ensures.setup h))

pub returns-in-Committed-clause-honest : goal.returns-in-Committed-clause-honest
returns-in-Committed-clause-honest g c = λ h. honest_as _ _ c.in-Open.ensures.setup (c.in-Committed.ensures.honest.1 (honest_as _ _ c.put-in-Committed.ensures.setup h))

pub returns-in-Nothing-clause-honest : goal.returns-in-Nothing-clause-honest
returns-in-Nothing-clause-honest g c = λ h. honest_as _ _ c.in-Open.ensures.setup (c.in-Nothing.ensures.honest.1 (honest_as _ _ c.put-in-Nothing.ensures.setup h))

pub returns-in-Failed-clause-honest : goal.returns-in-Failed-clause-honest
returns-in-Failed-clause-honest g c = λ h. honest_as _ _ c.in-Open.ensures.setup (c.in-Failed.ensures.honest.1 (c.into_device-disk.ensures.honest.1 (honest_as _ _ c.put-in-Failed.ensures.setup h)))

pub returns-in-Shut-clause-honest : goal.returns-in-Shut-clause-honest
returns-in-Shut-clause-honest g c = λ h. honest_as _ _ c.in-Shut.ensures.setup (honest_as _ _ c.put-in-Shut.ensures.setup h)
