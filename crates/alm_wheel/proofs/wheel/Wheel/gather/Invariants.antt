use Rattle.std.proofs.Common.{◌≡◌}
use Rattle.std.specs.Prelude.{vec_capacity}
use Rattle.alm_wheel.specs.Wheels.{nodes_behind}
use Rattle.alm_wheel.proofs.wheel.Wheel.gather.Given as goal

abbrev pub invariant-loop-turn : goal.invariant-loop-turn
invariant-loop-turn l =
    (l.out.items ≡ nodes_behind l.self-inside.slots.lists l.from l.turn) × (vec_capacity l.out ≡ vec_capacity l.initial.out)
