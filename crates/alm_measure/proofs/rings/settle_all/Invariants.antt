use Rattle.std.proofs.Common.{◌≡◌, map, take, drop, ◌++◌, sum}
use Rattle.alm_model.specs.Step.{settled_floods}
use Rattle.alm_measure.proofs.rings.settle_all.Given as goal

-- what is settled so far, and then the rest settled, is all settled
abbrev pub invariant-loop-area : goal.invariant-loop-area
invariant-loop-area l = take l.area l.floods ++ settled_floods (drop l.area (map sum l.rings)) (drop l.area l.floods) ≡ settled_floods (map sum l.rings) l.fn.floods
