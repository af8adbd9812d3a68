use Rattle.std.proofs.Common.{◌≡◌, ◌∙◌, ◌+◌, ◌++◌, ◌∷◌, [], List, take, drop, drop-cons, add-one, suc, arith, ap, sym, subst}
use Rattle.std.proofs.lemmas.Grind.{common_steps}
use Rattle.std.proofs.lemmas.List.{take_more}
use Rattle.alm_types.specs.declared.action.Action.{Action}
use Rattle.alm_model.specs.Accept.{refusal}
use Rattle.alm_model.specs.Rules.{AreAdmitted, AllAdmitted}
use Rattle.alm_model.specs.Step.{run, step}
use Rattle.alm_model.proofs.Runs.{run_append, admitted_join}
use Rattle.alm_model.proofs.Whole.{counted-new}
use Rattle.alm_model.proofs.run.apply_all.Goals as goal

pub loop-action-preserved : goal.loop-action-preserved
loop-action-preserved g c =
    let q = g.P.Alarms.plant c.args.plant.now in
    let xs : List Action = c.args.actions.now in
    let k = c.loop-action.action-index in
    let a = c.action-item.result in
    let more : take (k + 1) xs ≡ take k xs ++ a ∷ [] = take_more xs k a c.loop-action-test.true ∙ ap (λ x. take k xs ++ x ∷ []) (sym c.action-item.is) in
    let rest : drop k xs ≡ a ∷ drop (suc k) xs = drop-cons xs k a c.loop-action-test.true ∙ ap (λ x. x ∷ drop (suc k) xs) (sym c.action-item.is) in
    let here = subst (AllAdmitted (g.P.Alarms.plant c.loop-action.plant)) rest c.loop-action.invariant.rest in
    record {
      done = rw more (admitted_join q (take k xs) (a ∷ []) c.loop-action.invariant.done (c.apply.ensures.timely, ap (λ p. refusal p.panel a) (sym c.loop-action.invariant.run) ∙ here.0, tt));
      run = rw more (c.apply.ensures.plant ∙ ap (λ p. step p a) c.loop-action.invariant.run ∙ sym (run_append q (take k xs) (a ∷ [])));
      rest = subst (λ p. AllAdmitted p (drop (k + 1) xs)) (sym c.apply.ensures.plant) (subst (λ n. AllAdmitted (step (g.P.Alarms.plant c.loop-action.plant) a) (drop n xs)) (sym (add-one k)) here.1);
    }

pub returns : goal.returns
returns g c =
    let all : take c.loop-action.action-index c.args.actions.now ≡ c.args.actions.now = grind (arith, common_steps) in
    let fold : g.P.Alarms.plant c.loop-action.plant ≡ run (g.P.Alarms.plant c.args.plant.now) c.args.actions.now = c.loop-action.invariant.run ∙ ap (run (g.P.Alarms.plant c.args.plant.now)) all in
    let done : AreAdmitted (g.P.Alarms.plant c.args.plant.now) c.args.actions.now = subst (AreAdmitted (g.P.Alarms.plant c.args.plant.now)) all c.loop-action.invariant.done in
    record {
      fold = fold;
      counted = λ t table new. rw (fold, new) (counted-new t c.args.actions.now table (subst (λ p. AreAdmitted p c.args.actions.now) new done));
    }
