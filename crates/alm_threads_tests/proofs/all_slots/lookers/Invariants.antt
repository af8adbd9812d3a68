use Rattle.std.specs.Prelude.{◌≡◌, length}
use Rattle.alm_threads_tests.proofs.all_slots.lookers.Given as goal

-- one for each slot so far
abbrev pub invariant-loop-place : goal.invariant-loop-place
invariant-loop-place l = length l.lookers.items ≡ l.place
