use Rattle.std.proofs.Common.{◌≤◌}
use Rattle.std.specs.Prelude.{vec_capacity}
use Rattle.alm_speed.proofs.links.ask.Given as goal

abbrev pub invariant-loop-round : goal.invariant-loop-round
invariant-loop-round l = vec_capacity l.initial.out ≤ vec_capacity l.out
