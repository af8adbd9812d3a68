use Rattle.std.proofs.Common.{◌≡◌, ◌++◌, replicate}
use Rattle.std.specs.Prelude.{vec_capacity}
use Rattle.alm_keeper.proofs.filling.fill_to.Given as goal

-- as many zeros so far
abbrev pub invariant-loop-place : goal.invariant-loop-place
invariant-loop-place l = record {
  items : l.buffer.items ≡ l.fn.buffer.items ++ replicate l._place 0;
  room : vec_capacity l.buffer ≡ vec_capacity l.fn.buffer;
}
