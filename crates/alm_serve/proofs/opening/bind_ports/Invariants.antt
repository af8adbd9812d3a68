use Rattle.std.proofs.Common.{◌≡◌, map, take}
use Rattle.alm_serve.proofs.opening.bind_ports.Given as goal

-- the ports of the slots up to here
abbrev pub invariant-loop-slot : goal.invariant-loop-slot
invariant-loop-slot g l = map (λ b. b.slot) l.bounds.items ≡ take l.slot-index l.slots
