use Rattle.std.proofs.Common.{◌≡◌, length}
use Rattle.alm_speed.proofs.links.shelved.Given as goal

abbrev pub invariant-loop-turn : goal.invariant-loop-turn
invariant-loop-turn l = length l.wheel.deadlines ≡ l.nodes
