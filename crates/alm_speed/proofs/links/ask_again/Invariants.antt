use Rattle.std.proofs.Common.{◌≤◌}
use Rattle.std.specs.Prelude.{vec_capacity}
use Rattle.alm_speed.proofs.links.ask_again.Given as goal

abbrev pub invariant-loop-time : goal.invariant-loop-time
invariant-loop-time l = vec_capacity l.initial.out ≤ vec_capacity l.out
