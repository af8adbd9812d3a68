use Rattle.std.proofs.Common.{◌≡◌, ◌++◌, take}
use Rattle.alm_model.specs.Judging.{accepted_of, logged_of}
use Rattle.alm_board.specs.Logs.{actions_of, logged_in}
use Rattle.alm_board.proofs.plain_board.PlainBoardPublishUnitUnit.publish.Given as goal

abbrev pub invariant-loop-entry : goal.invariant-loop-entry
invariant-loop-entry g l = record {
  base : g.P.Alarms.plant l.self.base.value ≡ g.P.Alarms.plant l.fn.self.base.value;
  list : actions_of l.self.log ≡ actions_of l.fn.self.log ++ accepted_of (take l.entry-index l.entry-items);
  logged : logged_in l.self.log ≡ logged_in l.fn.self.log ++ logged_of (take l.entry-index l.entry-items);
}
