use Rattle.std.proofs.Common.{◌≡◌, ◌<◌, ◌≤◌, ◌+◌, ◌-◌, ◌++◌, ◌∷◌, [], ◌∙◌, List, ℕ, length, refl, sym, ap, subst, arith}
use Rattle.alm_model.specs.Judging.{accepted_of}
use Rattle.alm_flush.specs.HeldBatch.{to_commit}
use Rattle.alm_pipeline.specs.declared.step.Step.{Step}
use Rattle.alm_pipeline.specs.declared.step.Step.TheVariants as S
use Rattle.alm_pipeline.specs.declared.step_event.StepEvent.{StepEvent}
use Rattle.alm_pipeline.specs.declared.step_event.StepEvent.TheVariants as E
use Rattle.alm_pipeline.specs.World.{BatchStage, IsHeld, entries_at, after_step, closed_world}
use Rattle.alm_pipeline.specs.Matches.{CommitsIn}
use Rattle.alm_stack.specs.Exchanges.{Leads, calls, went_on, sight_of}
use Rattle.alm_stack.proofs.Leading.{leads_then, calls_more, went_more}
use Rattle.alm_pipeline.proofs.Paced.{at_first, never_in_none}
use Rattle.alm_stack.proofs.Rests.{fails_since, held_commits}
use Rattle.alm_stack.proofs.exchange.commit.Goals as goal

pub loop-step-init : goal.loop-step-init
loop-step-init g c = record {
  honest = ((λ h. h), (λ h. h));
  count = omega arith;
  going = λ w entries o at few.
      let p = c.args.pipeline.now in
      let st = p.flusher.store in
      let left = subst (λ k. (g.K.Store.state k).left ≤ 320) c.keeper.ensures.keeper c.images.ensures.few in
      let many = held_commits p.flusher.held entries o.trying (o.fits.batches.held ∙ at) in (
        o,
        at_first (g.K.Store.state st).phase (g.K.Store.state st).left (g.K.Store.takes st (to_commit p.flusher.held)) (g.K.Store.will_take st (to_commit p.flusher.held)) (length (to_commit p.flusher.held)) o.going left (omega (arith, ap length many, few)),
        (refl, refl),
      );
}

pub loop-step-preserved : goal.loop-step-preserved
loop-step-preserved g c =
    let s = g.K.Store in
    let old = c.args.pipeline.now in
    let p = c.loop-step.pipeline in
    let q = c.call.new.self in
    let k = c.loop-step._step in
    let inv = c.loop-step.invariant in
    let made = c.in-More.ensures in
    record {
      honest = ((λ h. made.honest.0 (inv.honest.0 h)), (λ h. inv.honest.1 (made.honest.1 h)));
      count = omega (arith, inv.count, made.count);
      going = λ w entries o at few.
          let was = inv.going w entries o at few in
          let now = was.0 in
          let a = made.answer w now in
          let many = held_commits p.flusher.held entries now.trying (now.fits.batches.held ∙ at) in
          let some : 0 < length (accepted_of entries) = subst (λ (x : BatchStage). 0 < length (accepted_of (entries_at x))) at (a.1 (subst IsHeld (sym at) tt)) in
          let left : 647 - k ≡ (647 - (k + 1)) + 1 = omega (arith, c.loop-step-test.true) in
          let way = leads_then s.recovers s.spent (g.K.Device.Disk.honest (s.disk old.flusher.store)) w (sight_of old) (calls k) (went_on k) w (sight_of p) (S.Call ∷ []) (E.More ∷ []) w (sight_of q) was.2
          (sight_of q, a, (λ h. (c.images-in-loop-step.ensures.headline (inv.honest.0 h) w now.fits, made.moves (inv.honest.0 h) w now 0)), (refl, refl)) in (
            made.fits w now,
            made.ends (647 - (k + 1)) refl (subst (λ l. 0 < length l) (sym many) some) (subst (λ (n : ℕ). CommitsIn n p) left was.1),
            subst (λ (l : List Step). Leads s.recovers s.spent (g.K.Device.Disk.honest (s.disk old.flusher.store)) w (sight_of old) l (went_on (k + 1)) w (sight_of q)) (calls_more k)
                (subst (λ (t : List StepEvent). Leads s.recovers s.spent (g.K.Device.Disk.honest (s.disk old.flusher.store)) w (sight_of old) (calls k ++ S.Call ∷ []) t w (sight_of q)) (went_more k) way),
          );
    }

pub returns-in-Committed-clause-done : goal.returns-in-Committed-clause-done
returns-in-Committed-clause-done g c = λ _ w entries o at few.
    let s = g.K.Store in
    let old = c.args.pipeline.now in
    let p = c.loop-step.pipeline in
    let q = c.call.new.self in
    let k = c.loop-step._step in
    let inv = c.loop-step.invariant in
    let was = inv.going w entries o at few in
    let now = was.0 in
    let made = c.in-Committed.ensures in (
      made.fits w now,
      (
        k,
        omega (arith, c.loop-step-test.true),
        leads_then s.recovers s.spent (g.K.Device.Disk.honest (s.disk old.flusher.store)) w (sight_of old) (calls k) (went_on k) w (sight_of p) (S.Call ∷ []) (E.Committed ∷ []) (after_step w S.Call E.Committed) (sight_of q) was.2
            (sight_of q, made.answer w now, (λ h. (c.images-in-loop-step.ensures.headline (inv.honest.0 h) w now.fits, made.moves (inv.honest.0 h) w now 0)), (refl, refl)),
      ),
    )

pub returns-in-Failed-clause-failed : goal.returns-in-Failed-clause-failed
returns-in-Failed-clause-failed g c = λ _ w entries o at few.
    let s = g.K.Store in
    let old = c.args.pipeline.now in
    let p = c.loop-step.pipeline in
    let q = c.call.new.self in
    let k = c.loop-step._step in
    let inv = c.loop-step.invariant in
    let was = inv.going w entries o at few in
    let now = was.0 in
    let made = c.in-Failed.ensures in (
      made.fits w now,
      (
        k,
        omega (arith, c.loop-step-test.true),
        leads_then s.recovers s.spent (g.K.Device.Disk.honest (s.disk old.flusher.store)) w (sight_of old) (calls k) (went_on k) w (sight_of p) (S.Call ∷ []) (E.Failed ∷ []) (closed_world w) (sight_of q) was.2
            (sight_of q, made.answer w now, (λ h. (c.images-in-loop-step.ensures.headline (inv.honest.0 h) w now.fits, made.moves (inv.honest.0 h) w now 0)), (refl, refl)),
      ),
    )

pub returns-in-Failed-clause-cause : goal.returns-in-Failed-clause-cause
returns-in-Failed-clause-cause g c = λ _ w entries o at few unspent.
    let inv = c.loop-step.invariant in
    let made = c.in-Failed.ensures in
    let was = inv.going w entries o at few in
    fails_since (g.K.Device.Disk.failures (g.K.Store.disk c.args.pipeline.now.flusher.store)) (g.K.Device.Disk.failures (g.K.Store.disk c.loop-step.pipeline.flusher.store)) (g.K.Device.Disk.failures (g.K.Store.disk c.call.new.self.flusher.store)) inv.count made.count
    (made.late refl unspent w was.0)

pub returns-in-Nothing-clause-failed : goal.returns-in-Nothing-clause-failed
returns-in-Nothing-clause-failed g c = λ _ w entries o at few.
    let was = c.loop-step.invariant.going w entries o at few in
    absurd (c.in-Nothing.ensures.answer w was.0 (was.0.opened, subst IsHeld (sym at) tt))

pub returns-in-Nothing-clause-cause : goal.returns-in-Nothing-clause-cause
returns-in-Nothing-clause-cause g c = λ _ w entries o at few unspent.
    let was = c.loop-step.invariant.going w entries o at few in
    absurd (c.in-Nothing.ensures.answer w was.0 (was.0.opened, subst IsHeld (sym at) tt))

pub returns-clause-failed : goal.returns-clause-failed
returns-clause-failed g c = λ _ w entries o at few.
    let p = c.loop-step.pipeline in
    let was = c.loop-step.invariant.going w entries o at few in
    let none : 647 - c.loop-step._step ≡ 0 = omega (arith, c.loop-step-test.false) in
    absurd (never_in_none _ _ _ _ _ (subst (λ (n : ℕ). CommitsIn n p) none was.1))

pub returns-clause-cause : goal.returns-clause-cause
returns-clause-cause g c = λ _ w entries o at few unspent.
    let p = c.loop-step.pipeline in
    let was = c.loop-step.invariant.going w entries o at few in
    let none : 647 - c.loop-step._step ≡ 0 = omega (arith, c.loop-step-test.false) in
    absurd (never_in_none _ _ _ _ _ (subst (λ (n : ℕ). CommitsIn n p) none was.1))
