use Rattle.std.proofs.Common.{◌≡◌, ◌≢◌, ◌<◌, ◌-◌, ◌^◌, ◌⊎◌, ℕ, Some, length, slice_get, slice_index}
use Rattle.alm_types.specs.Sizes.{slot_count}
use Rattle.alm_wake.proofs.bells.Bells.new.Given as goal

abbrev pub invariant-loop-place : goal.invariant-loop-place
invariant-loop-place g l = record {
  long : length l.places ≡ 18;
  places : (s : ℕ) → s < slot_count → (slice_get l.slots (slice_index l.places s) ≡ Some s) ⊎
      ((slice_index l.places s ≡ 2 ^ 64 - 1) × ((k : ℕ) → k < l.place → slice_get l.slots k ≢ Some s));
}
