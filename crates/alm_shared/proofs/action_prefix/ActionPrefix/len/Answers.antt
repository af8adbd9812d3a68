use Rattle.std.proofs.Common.{arith}
use Rattle.alm_shared.specs.Growing.{joined_actions}
use Rattle.alm_shared.proofs.Counted.{logged_most}
use Rattle.alm_shared.proofs.action_prefix.ActionPrefix.len.Goals as goal

pub returns-clause-most : goal.returns-clause-most
returns-clause-most g c = omega (arith, c.self.invariant.0, logged_most g.J.RunId.base (joined_actions c.self.inside.seen) c.self.invariant.1)
