use Rattle.std.proofs.Common.{◌<◌, ◌^◌, length, arith, sym, ◌∙◌, ap, None}
use Rattle.alm_links.specs.declared.links.Link.{Link}
use Rattle.alm_links.proofs.Left.{walk-first, left-rest}
use Rattle.alm_links.proofs.list_nodes.ListNodesIterator.next.Goals as goal

pub invariant_of-self : goal.invariant_of-self
invariant_of-self c =
    let i = c.self.inside in
    let lone : Link = record { next = 0; prev = 0; list = None } in
    let more : 0 < i.left = omega (arith, c.if-self-eq0.false) in
    let small = left-rest (λ x. x < length i.links.now) i.links.now i.left i.at lone more c.self.invariant.here c.self.invariant.small in
    let fits = left-rest (λ x. x < 2 ^ 32) i.links.now i.left i.at lone more c.self.invariant.here c.self.invariant.fits in
    record { here = small.0; small = small.1; fits = fits.1 }

pub returns-clause-steps : goal.returns-clause-steps
returns-clause-steps c =
    let i = c.self.inside in
    let lone : Link = record { next = 0; prev = 0; list = None } in
    let more : 0 < i.left = omega (arith, c.if-self-eq0.false) in
    sym c.self.view_is ∙ walk-first i.links.now i.left i.at lone more c.self.invariant.here

pub returns-clause-goes : goal.returns-clause-goes
returns-clause-goes c =
    let fewer = ap length (returns-clause-steps c) in
    record { on = λ f. (tt, tt, omega (arith, fewer)); keeps = tt; rests = λ f. tt }
