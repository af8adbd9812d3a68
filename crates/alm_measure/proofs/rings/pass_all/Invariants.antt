use Rattle.std.proofs.Common.{◌≡◌, map, take, drop, ◌++◌}
use Rattle.alm_model.specs.Keeping.{ages_after}
use Rattle.alm_measure.proofs.rings.pass_all.Given as goal

abbrev pub invariant-loop-ring : goal.invariant-loop-ring
invariant-loop-ring l = l.rings ≡ map (ages_after l.seconds) (take l.ring-index l.fn.rings) ++ drop l.ring-index l.fn.rings
