use Rattle.std.proofs.Common.{◌≡◌, ◌+◌, ◌∙◌, ◌++◌, ◌∷◌, [], inl, inr, List, ℕ, Ok, length, refl, sym, ap, subst, arith, append_assoc}
use Rattle.std.proofs.lemmas.List.{append-nil}
use Rattle.alm_model.specs.Plant.{Condensed}
use Rattle.alm_model.specs.Step.{run}
use Rattle.alm_model.specs.Judging.{after_verdict, verdict_of, when_accepted}
use Rattle.alm_disk.specs.Failures.{HasFailed}
use Rattle.alm_desk.specs.Answers.{request}
use Rattle.alm_desk.specs.declared.judged_request.JudgedRequest.{JudgedRequest}
use Rattle.alm_pipeline.specs.declared.step.Step.{Step}
use Rattle.alm_pipeline.specs.declared.step.Step.TheVariants as S
use Rattle.alm_pipeline.specs.declared.step_event.StepEvent.{StepEvent}
use Rattle.alm_pipeline.specs.declared.step_event.StepEvent.TheVariants as E
use Rattle.alm_pipeline.specs.World.{World, live, closed_world}
use Rattle.alm_stack.specs.Exchanges.{ComesTo, Rests, answer_events, answer_steps, calls, entry_at, hand_in_events, handed_in, hand_in_steps, sight_of, stored_world, went_on}
use Rattle.alm_stack.proofs.Leading.{leads_after, leads_if, leads_run, leads_then, leads_trace}
use Rattle.alm_stack.proofs.Pace.{busy_paced, done_paced, failed_paced}
use Rattle.alm_stack.proofs.Rests.{held_waits, none_waits, stored_as}
use Rattle.alm_stack.proofs.Verdicts.{after_is, few_entry, judged_is, live_after}
use Rattle.alm_stack.proofs.exchange.exchange.Goals as goal

pub returns-then-not-hand_in-clause-left : goal.returns-then-not-hand_in-clause-left
returns-then-not-hand_in-clause-left g c = λ w m.
    let q = c.hand_in.new.pipeline in
    let spent = c.if-not-hand_in.ensures.spent refl w m in
    (stored_as w q spent.1.fits ∙ ap (run w.base) m.1.stored, inl (none_waits q.flusher.held (spent.1.fits.batches.held ∙ m.1.stage)))

pub returns-then-not-hand_in-clause-cause : goal.returns-then-not-hand_in-clause-cause
returns-then-not-hand_in-clause-cause g c = λ w m unspent few.
    let spent = c.if-not-hand_in.ensures.spent refl w m in
    absurd (omega (arith, spent.0, few))

pub returns-then-not-hand_in-clause-run : goal.returns-then-not-hand_in-clause-run
returns-then-not-hand_in-clause-run g c = λ w m.
    let s = g.K.Store in
    let p = c.args.pipeline.now in
    let q = c.hand_in.new.pipeline in
    let spent = c.if-not-hand_in.ensures.spent refl w m in
    let steps = S.Send c.args.slot c.args.want ∷ [] in
    let trace = E.Busy ∷ [] in
    let honest = g.K.Device.Disk.honest (s.disk p.flusher.store) in
    record {
      steps = steps;
      trace = trace;
      comes = inl (refl, refl);
      answers = leads_trace s.recovers s.spent honest w (sight_of p) steps trace w (sight_of q) spent.2;
      run = λ h. leads_run s.recovers s.spent honest w (sight_of p) steps trace w (sight_of q) h (c.images.ensures.headline (c.if-not-hand_in.ensures.honest.0 h) w spent.1.fits) spent.2;
      paced = busy_paced w c.args.slot c.args.want;
      rests = tt;
    }

pub returns-then-not-commit-clause-left : goal.returns-then-not-commit-clause-left
returns-then-not-commit-clause-left g c = λ w m.
    let slot = c.args.slot in
    let want = c.args.want in
    let q = c.commit.new.pipeline in
    let hi = c.if-not-hand_in.ensures.handed refl w m in
    let v = hi.1 in
    let y = handed_in w slot want v in
    let entries = entry_at w slot want v ∷ [] in
    let f = c.if-not-commit.ensures.failed refl y entries hi.4 refl (few_entry v) in
    (stored_as y q f.0, inr (held_waits q.flusher.held entries f.0.batches.held ∙ (append-nil (when_accepted v) ∙ ap when_accepted hi.2)))

pub returns-then-not-commit-clause-cause : goal.returns-then-not-commit-clause-cause
returns-then-not-commit-clause-cause g c = λ w m unspent _.
    let slot = c.args.slot in
    let want = c.args.want in
    let hi = c.if-not-hand_in.ensures.handed refl w m in
    let v = hi.1 in
    let failed = c.if-not-commit.ensures.cause refl (handed_in w slot want v) (entry_at w slot want v ∷ []) hi.4 refl (few_entry v) unspent in
    subst (λ (n : ℕ). HasFailed n (g.K.Device.Disk.failures (g.K.Store.disk c.commit.new.pipeline.flusher.store))) c.hand_in.ensures.failures failed

pub returns-then-not-commit-clause-run : goal.returns-then-not-commit-clause-run
returns-then-not-commit-clause-run g c = λ w m.
    let s = g.K.Store in
    let slot = c.args.slot in
    let want = c.args.want in
    let p = c.args.pipeline.now in
    let mid = c.hand_in.new.pipeline in
    let q = c.commit.new.pipeline in
    let hi = c.if-not-hand_in.ensures.handed refl w m in
    let v = hi.1 in
    let y = handed_in w slot want v in
    let f = c.if-not-commit.ensures.failed refl y (entry_at w slot want v ∷ []) hi.4 refl (few_entry v) in
    let n = f.1.0 in
    let honest = g.K.Device.Disk.honest (s.disk p.flusher.store) in
    let still = c.hand_in.ensures.honest.0 in
    let steps' = calls n ++ S.Call ∷ [] in
    let trace' = went_on n ++ E.Failed ∷ [] in
    let steps = hand_in_steps slot want ++ steps' in
    let trace = hand_in_events hi.0 v ++ trace' in
    let way = leads_then s.recovers s.spent honest w (sight_of p) (hand_in_steps slot want) (hand_in_events hi.0 v) y (sight_of mid) steps' trace' (closed_world y) (sight_of q) hi.5
    (leads_if s.recovers s.spent honest (g.K.Device.Disk.honest (s.disk mid.flusher.store)) still y (sight_of mid) steps' trace' (closed_world y) (sight_of q) f.1.2) in
    record {
      steps = steps;
      trace = trace;
      comes = inr (n, hi.0, v, f.1.1, refl, refl);
      answers = leads_trace s.recovers s.spent honest w (sight_of p) steps trace (closed_world y) (sight_of q) way;
      run = λ h. leads_run s.recovers s.spent honest w (sight_of p) steps trace (closed_world y) (sight_of q) h (c.images-then-not-commit.ensures.headline (c.commit.ensures.honest.0 (still h)) y f.0) way;
      paced = failed_paced w slot want hi.0 v n f.1.1;
      rests = tt;
    }

pub returns-in-Some-clause-judged : goal.returns-in-Some-clause-judged
returns-in-Some-clause-judged g c = λ w m.
    let slot = c.args.slot in
    let want = c.args.want in
    let asked = request slot want in
    let hi = c.if-not-hand_in.ensures.handed refl w m in
    let v = hi.1 in
    let done = c.if-not-commit.ensures.done refl (handed_in w slot want v) (entry_at w slot want v ∷ []) hi.4 refl (few_entry v) in
    let out = c.in-Some.ensures.answered w want v m.1 done.0 in
    let q = live w in
    let after : live out.1 ≡ after_verdict q (verdict_of q asked) = out.3 ∙ (live_after w slot want v ∙ ap (after_verdict q) hi.2) in
    let told : JudgedRequest = record { verdict = verdict_of q asked; number = (after_verdict q (verdict_of q asked)).panel.count } in
    let verdict = out.0 ∙ hi.2 in
    let number = out.4 ∙ ap (λ (x : Condensed). x.panel.count) after in
    let says : c.in-Some.judged ≡ told = λ i. record { verdict = verdict i; number = number i } in
    (says ∙ judged_is q asked, out.1, out.2, after ∙ after_is q asked)

pub returns-in-Some-clause-run : goal.returns-in-Some-clause-run
returns-in-Some-clause-run g c = λ w m.
    let s = g.K.Store in
    let slot = c.args.slot in
    let want = c.args.want in
    let p = c.args.pipeline.now in
    let mid = c.hand_in.new.pipeline in
    let held = c.commit.new.pipeline in
    let q = c.hand_out.new.pipeline in
    let hi = c.if-not-hand_in.ensures.handed refl w m in
    let v = hi.1 in
    let y = handed_in w slot want v in
    let z = stored_world w slot want v in
    let done = c.if-not-commit.ensures.done refl y (entry_at w slot want v ∷ []) hi.4 refl (few_entry v) in
    let n = done.1.0 in
    let j = c.in-Some.judged in
    let out = c.in-Some.ensures.answered w want v m.1 done.0 in
    let honest = g.K.Device.Disk.honest (s.disk p.flusher.store) in
    let one = c.hand_in.ensures.honest.0 in
    let two = λ (h : honest). c.commit.ensures.honest.0 (one h) in
    let serial = length (w.sent slot) + 1 in
    let steps2 = calls n ++ S.Call ∷ [] in
    let trace2 = went_on n ++ E.Committed ∷ [] in
    let trace3 = answer_events slot serial v j.number in
    let behind = leads_then s.recovers s.spent honest y (sight_of mid) steps2 trace2 z (sight_of held) (answer_steps slot) trace3 out.1 (sight_of q)
    (leads_if s.recovers s.spent honest (g.K.Device.Disk.honest (s.disk mid.flusher.store)) one y (sight_of mid) steps2 trace2 z (sight_of held) done.1.2)
    (leads_if s.recovers s.spent honest (g.K.Device.Disk.honest (s.disk held.flusher.store)) two z (sight_of held) (answer_steps slot) trace3 out.1 (sight_of q) out.5) in
    let steps = hand_in_steps slot want ++ (steps2 ++ answer_steps slot) in
    let trace = hand_in_events hi.0 v ++ (trace2 ++ trace3) in
    let way = leads_then s.recovers s.spent honest w (sight_of p) (hand_in_steps slot want) (hand_in_events hi.0 v) y (sight_of mid) (steps2 ++ answer_steps slot) (trace2 ++ trace3) out.1 (sight_of q) hi.5 behind in
    let comes : ComesTo slot want (Ok j) steps trace = (
      n,
      serial,
      done.1.1,
      ap (λ (l : List Step). hand_in_steps slot want ++ l) (append_assoc (calls n) (S.Call ∷ []) (answer_steps slot)),
      (λ i. hand_in_events (hi.3 i) (sym out.0 i) ++ (trace2 ++ answer_events slot serial (sym out.0 i) j.number)) ∙ ap (λ (l : List StepEvent). hand_in_events serial j.verdict ++ l) (append_assoc (went_on n) (E.Committed ∷ []) (answer_events slot serial j.verdict j.number)),
    ) in
    record {
      steps = steps;
      trace = trace;
      comes = comes;
      answers = leads_trace s.recovers s.spent honest w (sight_of p) steps trace out.1 (sight_of q) way;
      run = λ h. leads_run s.recovers s.spent honest w (sight_of p) steps trace out.1 (sight_of q) h (c.images-in-Some.ensures.headline (subst (λ k. g.K.Device.Disk.honest (s.disk k)) (sym c.hand_out.ensures.store) (two h)) out.1 out.2.0.fits) way;
      paced = done_paced w slot want j steps trace comes;
      rests = subst (λ (x : World). Rests x q) (leads_after s.recovers s.spent honest w (sight_of p) steps trace out.1 (sight_of q) way) out.2;
    }

pub returns-in-None-clause-left : goal.returns-in-None-clause-left
returns-in-None-clause-left g c = λ w m.
    let slot = c.args.slot in
    let want = c.args.want in
    let hi = c.if-not-hand_in.ensures.handed refl w m in
    let v = hi.1 in
    let done = c.if-not-commit.ensures.done refl (handed_in w slot want v) (entry_at w slot want v ∷ []) hi.4 refl (few_entry v) in
    absurd (c.in-None.ensures.sure refl w want v m.1 done.0)

pub returns-in-None-clause-cause : goal.returns-in-None-clause-cause
returns-in-None-clause-cause g c = λ w m unspent few.
    let slot = c.args.slot in
    let want = c.args.want in
    let hi = c.if-not-hand_in.ensures.handed refl w m in
    let v = hi.1 in
    let done = c.if-not-commit.ensures.done refl (handed_in w slot want v) (entry_at w slot want v ∷ []) hi.4 refl (few_entry v) in
    absurd (c.in-None.ensures.sure refl w want v m.1 done.0)

pub returns-in-None-clause-run : goal.returns-in-None-clause-run
returns-in-None-clause-run g c = λ w m.
    let slot = c.args.slot in
    let want = c.args.want in
    let hi = c.if-not-hand_in.ensures.handed refl w m in
    let v = hi.1 in
    let done = c.if-not-commit.ensures.done refl (handed_in w slot want v) (entry_at w slot want v ∷ []) hi.4 refl (few_entry v) in
    absurd (c.in-None.ensures.sure refl w want v m.1 done.0)
