use Rattle.std.proofs.Common.{◌≡◌, take, length}
use Rattle.std.specs.Prelude.{vec_capacity}
use Rattle.alm_measure.proofs.rings.rings_of.Given as goal

-- the areas so far, in room for all of them
abbrev pub invariant-loop-ages : goal.invariant-loop-ages
invariant-loop-ages l = record {
  items : l.rings.items ≡ take l.ages-index l.areas;
  room : vec_capacity l.rings ≡ length l.areas;
}
