use Rattle.std.proofs.Common.{◌≡◌, ◌-◌, ℕ, length}
use Rattle.alm_codec.specs.Bounds.{under}
use Rattle.alm_codec.specs.Format.{read_each}
use Rattle.alm_codec.specs.ImageFields.{area, all_ages, areas_in}
use Rattle.alm_codec.proofs.Loops.{with_front}
use Rattle.alm_codec.proofs.area_lists.each_area.Given as goal

abbrev pub invariant-loop : goal.invariant-loop
invariant-loop l = record {
  floods : length l.lists.floods.items ≡ l.counter;
  ages : length l.lists.ages.items ≡ l.counter;
  left : l.lists.left ≡ under l.bound (all_ages (areas_in l.lists.floods.items l.lists.ages.items));
  so_far : with_front (areas_in l.lists.floods.items l.lists.ages.items) (read_each {S = ℕ} (λ _. area l.clock) (λ s _. s) 0 (l.areas - l.counter) l.rest) ≡ read_each {S = ℕ} (λ _. area l.clock) (λ s _. s) 0 l.areas l.bytes;
}
