use Rattle.std.proofs.Common.{◌≡◌}
use Rattle.alm_model.specs.Keeping.{ages_after}
use Rattle.alm_measure.proofs.ring.Ring.pass.Given as goal

-- the seconds so far have passed
abbrev pub invariant-loop-second : goal.invariant-loop-second
invariant-loop-second l = l.self ≡ ages_after l._second l.fn.self
