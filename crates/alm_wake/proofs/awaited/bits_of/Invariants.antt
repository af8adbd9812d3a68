use Rattle.std.proofs.Common.{◌≡◌, ◌↔◌, ℕ, ◌<◌, ◌^◌}
use Rattle.std.specs.Int.{bit_at}
use Rattle.alm_wake.specs.Gatherings.{Awaits}
use Rattle.alm_wake.proofs.awaited.bits_of.Given as goal

abbrev pub invariant-loop-slot : goal.invariant-loop-slot
invariant-loop-slot l = record {
  low : l.bits < 2 ^ l.slot;
  bits : (s : ℕ) → s < l.slot → ((bit_at l.bits s ≡ 1) ↔ Awaits l.gathering s);
}
