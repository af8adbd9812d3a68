use Rattle.std.proofs.Common.{◌≡◌, drop}
use Rattle.alm_model.specs.Rules.{AllAdmitted}
use Rattle.alm_model.specs.Step.{run}
use Rattle.alm_codec.specs.Frames.{asked_actions}
use Rattle.alm_keeper.proofs.trying.apply_asked.Given as goal

abbrev pub invariant-loop-one : goal.invariant-loop-one
invariant-loop-one l = record {
  run : run l.plant (asked_actions (drop l.one-index l.asked)) ≡ run l.fn.plant (asked_actions l.asked);
  rest : AllAdmitted l.plant (asked_actions (drop l.one-index l.asked));
}
