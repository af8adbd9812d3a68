use Rattle.std.proofs.Common.{◌≡◌, length, take, drop, arith}
use Rattle.std.proofs.lemmas.Grind.{common_steps}
use Rattle.alm_session.proofs.Slices.{given_part}
use Rattle.alm_session_tests.proofs.piece_wire.PieceWireWire.read.Goals as goal

pub returns-clause-input : goal.returns-clause-input
returns-clause-input c =
    let copied : c.copy_from_slice.new.self ≡ take c.min-count.result (drop c.args.self.now.at c.args.self.now.input.items) = grind (arith, common_steps) in
    let len : length c.copy_from_slice.new.self ≡ c.min-count.result = grind (arith, common_steps) in
    (given_part c.args.self.now.input.items c.copy_from_slice.new.self (drop c.min-count.result c.args.into.now) c.args.self.now.at c.min-count.result copied len, tt)
