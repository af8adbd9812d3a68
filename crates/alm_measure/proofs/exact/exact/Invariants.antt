use Rattle.std.proofs.Common.{◌≡◌, ◌++◌, length}
use Rattle.std.specs.Prelude.{vec_capacity}
use Rattle.std.specs.Vec.Iter.{into_iter_items}
use Rattle.alm_measure.proofs.exact.exact.Given as goal

-- the items so far, in room for all of them
abbrev pub invariant-loop-item : goal.invariant-loop-item
invariant-loop-item g l = record {
  items : l.moved.items ++ into_iter_items l.item-iterator ≡ l.fn.items.items;
  room : vec_capacity l.moved ≡ length l.fn.items.items;
}
