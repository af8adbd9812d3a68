use Rattle.std.proofs.Common.{arith, ap, length}
use Rattle.alm_model.proofs.Runs.{run_count}
use Rattle.alm_board.specs.Logs.{actions_of}
use Rattle.alm_board.proofs.plain_board.PlainBoardBoard.tell.Goals as goal

pub overflow_sub-result : goal.overflow_sub-result
overflow_sub-result g c =
    let board = c.args.self.now in
    omega (arith, c.count.ensures, ap (λ q. q.panel.count) board.is_fold, run_count (g.P.Alarms.plant board.base.value) (actions_of board.log), board.count)

pub invariant_of-result : goal.invariant_of-result
invariant_of-result g c =
    let board = c.args.self.now in
    record { counted = omega (arith, c.count.ensures, ap (λ q. q.panel.count) board.is_fold, run_count (g.P.Alarms.plant board.base.value) (actions_of board.log), board.count, ap (λ l. length (actions_of l)) c.of.ensures) }
