use Rattle.std.specs.Prelude.{ℕ, ◌<◌}
use Rattle.alm_wake.specs.Gatherings.{Awaits}
use Rattle.alm_wake.proofs.gathering.Gathering.awaits_some.Given as goal

abbrev pub invariant-loop-slot : goal.invariant-loop-slot
invariant-loop-slot l = (s : ℕ) → s < l.slot → Awaits l.self s → ⊥
