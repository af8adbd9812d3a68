use Rattle.std.proofs.Common.{◌≡◌, ◌≤◌, All, length}
use Rattle.alm_measure_tests.proofs.told.ages_of.Given as goal

-- each is small
abbrev pub invariant-loop-age : goal.invariant-loop-age
invariant-loop-age g l = record { small : All (λ n. n ≤ 1000) l.counts; seconds : length l.counts ≡ 600 }
