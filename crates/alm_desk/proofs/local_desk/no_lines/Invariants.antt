use Rattle.std.proofs.Common.{◌≡◌, [], replicate}
use Rattle.alm_desk.proofs.local_desk.no_lines.Given as goal

abbrev pub invariant-loop-slot : goal.invariant-loop-slot
invariant-loop-slot l = l.decoders.items ≡ replicate l._slot []
