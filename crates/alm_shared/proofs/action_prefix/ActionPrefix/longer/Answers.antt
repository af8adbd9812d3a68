use Rattle.std.proofs.Common.{◌≤◌, length, arith, List}
use mathlib.Core.List.{IsPrefix}
use Rattle.alm_types.specs.declared.logged_action.LoggedAction.{LoggedAction}
use Rattle.alm_moments.proofs.Prefixes.{prefix_shorter}
use Rattle.alm_shared.specs.Growing.{joined_actions}
use Rattle.alm_shared.proofs.Prefixes.{prefix_joined}
use Rattle.alm_shared.proofs.action_prefix.ActionPrefix.longer.Goals as goal

-- of two prefixes of one history the one of fewer actions is a prefix of the other
shorter : (v w both : List (List LoggedAction)) → IsPrefix v both → IsPrefix w both → length (joined_actions v) ≤ length (joined_actions w) → IsPrefix (joined_actions v) (joined_actions w)
shorter v w both p q le = prefix_shorter (joined_actions v) (joined_actions w) (joined_actions both) (prefix_joined v both p) (prefix_joined w both q) le

pub returns-then-self-other-clause-this : goal.returns-then-self-other-clause-this
returns-then-self-other-clause-this g c =
    rw (c.again.ensures, ← c.self.view_is, ← c.other.view_is)
    (shorter c.self.inside.seen c.other.inside.seen c.joined.result c.joined.ensures.this c.joined.ensures.that (omega (arith, c.self.invariant.0, c.other.invariant.0)))

pub returns-else-self-other-clause-that : goal.returns-else-self-other-clause-that
returns-else-self-other-clause-that g c =
    rw (c.again-else-self-other.ensures, ← c.self.view_is, ← c.other.view_is)
    (shorter c.other.inside.seen c.self.inside.seen c.joined.result c.joined.ensures.that c.joined.ensures.this (omega (arith, c.self.invariant.0, c.other.invariant.0)))
