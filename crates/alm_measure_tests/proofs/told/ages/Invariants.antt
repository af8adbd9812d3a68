use Rattle.std.proofs.Common.{◌≤◌, All, sum}
use Rattle.alm_measure_tests.proofs.told.ages.Given as goal

-- each area has few
abbrev pub invariant-loop-area : goal.invariant-loop-area
invariant-loop-area g l = All (λ ages. sum ages ≤ 600000) l.told.items
