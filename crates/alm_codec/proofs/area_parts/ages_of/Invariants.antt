use Rattle.std.proofs.Common.{◌≡◌, ◌-◌, ◌+◌, take, length}
use Rattle.alm_codec.specs.Format.{read_each}
use Rattle.alm_codec.specs.ImageFields.{age_field}
use Rattle.alm_codec.proofs.Loops.{with_front}
use Rattle.alm_codec.proofs.area_parts.ages_of.Given as goal

abbrev pub invariant-loop-age : goal.invariant-loop-age
invariant-loop-age l = record {
  all : length l.counts ≡ 600;
  so_far : with_front (take l.age l.counts) (read_each (age_field l.clock) (λ j _. j + 1) l.age (600 - l.age) l.rest) ≡ read_each (age_field l.clock) (λ j _. j + 1) 0 600 l.bytes;
}
