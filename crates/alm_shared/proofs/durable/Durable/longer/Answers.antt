use Rattle.std.proofs.Common.{List, sym, subst, arith}
use mathlib.Core.List.{IsPrefix}
use Rattle.alm_types.specs.declared.logged_action.LoggedAction.{LoggedAction}
use Rattle.alm_moments.proofs.Prefixes.{prefix_shorter}
use Rattle.alm_shared.proofs.durable.Durable.longer.Goals as goal

pub returns-else-len-clause-that : goal.returns-else-len-clause-that
returns-else-len-clause-that g c =
    let mine = c.args.self.now.prefix in
    let its = c.args.other.now.prefix in
    subst (λ (l : List LoggedAction). IsPrefix its l) (sym c.again-else-len.ensures.prefix)
    (prefix_shorter its mine c.longer.result c.longer.ensures.that c.longer.ensures.this (omega (arith, c.if-len.false, c.len.ensures.length, c.len-2.ensures.length)))
