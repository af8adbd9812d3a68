use Rattle.std.proofs.Common.{◌≡◌, take, drop}
use Rattle.alm_model.specs.Rules.{AreAdmitted, AllAdmitted}
use Rattle.alm_model.specs.Step.{run}
use Rattle.alm_model.proofs.run.apply_all.Given as goal

-- what was done so far was admitted, and the rest is
abbrev pub invariant-loop-action : goal.invariant-loop-action
invariant-loop-action g l = record {
  done : AreAdmitted (g.P.Alarms.plant l.fn.plant) (take l.action-index l.actions);
  run : g.P.Alarms.plant l.plant ≡ run (g.P.Alarms.plant l.fn.plant) (take l.action-index l.actions);
  rest : AllAdmitted (g.P.Alarms.plant l.plant) (drop l.action-index l.actions);
}
