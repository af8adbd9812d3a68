use Rattle.std.proofs.Common.{◌≡◌, ◌≤◌, ℕ, length, slice_get, Some}
use Rattle.std.specs.Prelude.{vec_capacity}
use Rattle.alm_threads_tests.proofs.all_slots.all_slots.Given as goal

-- the slots so far, in their order
abbrev pub invariant-loop-number : goal.invariant-loop-number
invariant-loop-number l = record {
  count : length l.slots.items ≡ l.number;
  room : 18 ≤ vec_capacity l.slots;
  order : (j s : ℕ) → slice_get l.slots.items j ≡ Some s → s ≡ j;
}
