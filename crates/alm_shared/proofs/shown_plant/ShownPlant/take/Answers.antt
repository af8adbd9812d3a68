use Rattle.std.proofs.Common.{sym, ◌∙◌, ap, ◌≡◌, ◌++◌}
use Rattle.alm_model.specs.Step.{run}
use Rattle.alm_model.specs.Judging.{logged_actions}
use Rattle.alm_model.proofs.Legal.{actions_append}
use Rattle.alm_model.proofs.Runs.{run_append}
use Rattle.alm_events.specs.Events.{events_from, last, most_kept}
use Rattle.alm_events.proofs.Recalling.{events_append}
use Rattle.alm_shared.proofs.shown_plant.ShownPlant.take.Goals as goal

pub invariant_of-self : goal.invariant_of-self
invariant_of-self g c =
    let old = c.args.self.now in
    let base = g.J.RunId.base in
    let prefix = old.told.prefix in
    let more = c.args.actions.now in
    let fact : g.P.Alarms.plant c.apply_logged.new.plant ≡ run base (logged_actions c.args.told.prefix) =
    c.apply_logged.ensures.fold ∙ (ap (λ p. run p (logged_actions more)) old.is_fold
    ∙ (sym (run_append base (logged_actions prefix) (logged_actions more)) ∙ ap (run base) (sym (actions_append prefix more) ∙ ap logged_actions (sym c.requires.next)))) in
    let told : c.apply_logged.new.recent ≡ last most_kept (events_from base c.args.told.prefix) =
    c.apply_logged.ensures.told (events_from base prefix) old.remembers ∙ ap (last most_kept)
    (ap (λ p. events_from base prefix ++ events_from p more) old.is_fold ∙ (sym (events_append base prefix more) ∙ ap (events_from base) (sym c.requires.next))) in
    record { is_fold = fact; remembers = told }
