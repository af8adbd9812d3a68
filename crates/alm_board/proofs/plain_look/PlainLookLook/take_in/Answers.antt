use Rattle.std.proofs.Common.{arith}
use Rattle.alm_board.specs.Logs.{actions_of}
use Rattle.alm_board.proofs.PrefixOfLaws.{prefix_of_shorter}
use Rattle.alm_board.proofs.plain_look.PlainLookLook.take_in.Goals as goal

pub returns-then-self-len-clause-later : goal.returns-then-self-len-clause-later
returns-then-self-len-clause-later g c =
    let look = c.args.self.now in
    prefix_of_shorter (actions_of look.seen.list.value) (actions_of c.args.told.list.value) (actions_of look.board.now.log) look.of_the_board c.requires (omega (arith, look.seen.counted, c.args.told.counted, c.if-self-len.true))

pub returns-else-self-len-clause-told : goal.returns-else-self-len-clause-told
returns-else-self-len-clause-told g c =
    let look = c.args.self.now in
    prefix_of_shorter (actions_of c.args.told.list.value) (actions_of look.seen.list.value) (actions_of look.board.now.log) c.requires look.of_the_board (omega (arith, look.seen.counted, c.args.told.counted, c.if-self-len.false))
