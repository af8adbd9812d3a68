use Rattle.std.proofs.Common.{◌≡◌, ◌∙◌, ◌+◌, ◌++◌, ◌∷◌, [], List, take, drop, drop-cons, add-one, suc, ap, sym, subst}
use Rattle.std.proofs.lemmas.List.{take_more}
use Rattle.alm_types.specs.declared.logged_action.LoggedAction.{LoggedAction}
use Rattle.alm_model.specs.Plant.{Condensed}
use Rattle.alm_model.specs.Rules.{AllAdmitted}
use Rattle.alm_model.specs.Step.{run, step}
use Rattle.alm_model.proofs.Runs.{run_append}
use Rattle.alm_model.proofs.Legal.{actions_append}
use Rattle.alm_types.specs.declared.event.Event.{Event}
use Rattle.alm_events.specs.Events.{told_event}
use Rattle.alm_model.specs.Judging.{logged_actions}
use Rattle.alm_events.proofs.Recalling.{events_next}
use Rattle.alm_events.proofs.applying.apply_logged.Goals as goal

pub loop-logged_action-preserved : goal.loop-logged_action-preserved
loop-logged_action-preserved g c =
    let q = g.P.Alarms.plant c.args.plant.now in
    let xs : List LoggedAction = c.args.logged.now in
    let k = c.loop-logged_action.logged_action-index in
    let r = c.logged_action-item.result in
    let more : take (k + 1) xs ≡ take k xs ++ r ∷ [] = take_more xs k r c.loop-logged_action-test.true ∙ ap (λ x. take k xs ++ x ∷ []) (sym c.logged_action-item.is) in
    let rest : drop k xs ≡ r ∷ drop (suc k) xs = drop-cons xs k r c.loop-logged_action-test.true ∙ ap (λ x. x ∷ drop (suc k) xs) (sym c.logged_action-item.is) in
    let here : AllAdmitted (g.P.Alarms.plant c.loop-logged_action.plant) (r.action ∷ logged_actions (drop (suc k) xs)) = subst (λ (l : List LoggedAction). AllAdmitted (g.P.Alarms.plant c.loop-logged_action.plant) (logged_actions l)) rest c.loop-logged_action.invariant.rest in
    let plant : g.P.Alarms.plant c.apply.new.self ≡ step (run q (logged_actions (take k xs))) r.action = c.apply.ensures.plant ∙ ap (λ p. step p r.action) c.loop-logged_action.invariant.run in
    let is : record { moment = c.now-moment.result; slot = r.slot; action = r.action } ≡ told_event (step (run q (logged_actions (take k xs))) r.action) r =
    ap {A = _} {B = Event} (λ m. record { moment = m; slot = r.slot; action = r.action }) (c.now-moment.ensures ∙ ap (λ (p : Condensed). p.panel.now) plant) in
    record {
      run = plant ∙ (sym (run_append q (logged_actions (take k xs)) (r.action ∷ [])) ∙ ap (run q) (sym (ap logged_actions more ∙ actions_append (take k xs) (r ∷ []))));
      told = λ events kept. c.push.ensures ∙ events_next q events c.loop-logged_action.recent (take k xs) (take (k + 1) xs) r _ (c.loop-logged_action.invariant.told events kept) more is;
      rest = subst (λ p. AllAdmitted p (logged_actions (drop (k + 1) xs))) (sym c.apply.ensures.plant) (subst (λ n. AllAdmitted (step (g.P.Alarms.plant c.loop-logged_action.plant) r.action) (logged_actions (drop n xs))) (sym (add-one k)) here.1);
    }
