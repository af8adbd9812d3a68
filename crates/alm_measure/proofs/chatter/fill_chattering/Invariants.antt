use Rattle.std.proofs.Common.{◌≡◌, ◌≤◌, vec_len, vec_capacity, filter}
use Rattle.std.specs.Prelude.{slice_get}
use Rattle.std.specs.List.{range_with_len}
use Rattle.alm_model.specs.Lists.{is_frequent, moments_in}
use Rattle.alm_measure.proofs.chatter.fill_chattering.Given as goal

-- those below the place
abbrev pub invariant-loop-number : goal.invariant-loop-number
invariant-loop-number l = record {
  list : l.out.items ≡ filter (λ i. is_frequent l.now (moments_in (slice_get l.alarms i))) (range_with_len 0 l.number);
  few : vec_len l.out ≤ l.number;
  room : vec_capacity l.out ≡ vec_capacity l.fn.out;
}
