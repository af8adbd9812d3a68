use Rattle.std.proofs.Common.{◌≡◌, take, length}
use Rattle.std.specs.Prelude.{vec_capacity}
use Rattle.alm_measure.proofs.rings.copy_rings.Given as goal

-- the rings so far, in room for all of them
abbrev pub invariant-loop-ring : goal.invariant-loop-ring
invariant-loop-ring l = record {
  items : l.copied.items ≡ take l.ring-index l.rings;
  room : vec_capacity l.copied ≡ length l.rings;
}
