use Rattle.std.proofs.Common.{arith}
use Rattle.alm_keeper.proofs.Reading.{short_device}
use Rattle.alm_keeper.proofs.opening.read_layout.Goals as goal

pub returns-then-size-clause-layout : goal.returns-then-size-clause-layout
returns-then-size-clause-layout g c = λ b honest settled long. short_device b (omega (arith, long, c.size-size.ensures, c.if-size.true))
