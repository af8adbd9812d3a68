use Rattle.std.proofs.Common.{◌≡◌, replicate}
use Rattle.std.specs.Prelude.{vec_capacity}
use Rattle.alm_measure.proofs.rings.new_rings.Given as goal

-- the rings so far, in room for all of them
abbrev pub invariant-loop-area : goal.invariant-loop-area
invariant-loop-area l = record {
  items : l.rings.items ≡ replicate l._area (replicate 600 0);
  room : vec_capacity l.rings ≡ l.areas;
}
