use Rattle.std.proofs.Common.{◌≡◌, ◌++◌, List, take, drop}
use Rattle.alm_model.specs.Rules.{AllAdmitted}
use Rattle.alm_model.specs.Step.{run}
use Rattle.alm_types.specs.declared.event.Event.{Event}
use Rattle.alm_events.specs.Events.{most_kept, last, events_from}
use Rattle.alm_model.specs.Judging.{logged_actions}
use Rattle.alm_events.proofs.applying.apply_logged.Given as goal

abbrev pub invariant-loop-logged_action : goal.invariant-loop-logged_action
invariant-loop-logged_action g l = record {
  run : g.P.Alarms.plant l.plant ≡ run (g.P.Alarms.plant l.fn.plant) (logged_actions (take l.logged_action-index l.logged));
  told : (events : List Event) → l.fn.recent ≡ last most_kept events → l.recent ≡ last most_kept (events ++ events_from (g.P.Alarms.plant l.fn.plant) (take l.logged_action-index l.logged));
  rest : AllAdmitted (g.P.Alarms.plant l.plant) (logged_actions (drop l.logged_action-index l.logged));
}
