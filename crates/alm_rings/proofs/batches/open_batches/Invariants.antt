use Rattle.std.proofs.Common.{◌≡◌, ◌+◌, [], replicate}
use Rattle.rtrb.specs.Ring.{IsPair, sent, known_free, producer_capacity}
use Rattle.alm_rings.proofs.batches.open_batches.Given as goal

abbrev pub invariant-loop-made : goal.invariant-loop-made
invariant-loop-made l = record {
  pair : IsPair l.give l.empty;
  room : known_free l.give + l._made ≡ 8;
  filled : sent l.give ≡ replicate l._made (record { first = 1; entries = [] });
  capacity : producer_capacity l.give ≡ 8;
}
