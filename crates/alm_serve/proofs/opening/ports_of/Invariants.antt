use Rattle.std.proofs.Common.{◌≡◌, map}
use Rattle.alm_serve.specs.Ports.{AreUnused}
use Rattle.alm_serve.proofs.opening.ports_of.Given as goal

-- of the slots of what is bound up to here
abbrev pub invariant-loop-bound : goal.invariant-loop-bound
invariant-loop-bound g l = record {
  slots : map (λ p. p.slot) l.ports.items ≡ map (λ b. b.slot) l.yielded;
  unused : AreUnused l.ports.items;
}
