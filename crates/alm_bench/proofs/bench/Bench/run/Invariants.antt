use Rattle.alm_keeper.specs.AsStore.{StandsFor, IsLastEpoch}
use Rattle.std.proofs.Common.{◌≡◌, ℕ, length, take, vec_capacity}
use Rattle.alm_pipeline.specs.World.{World}
use Rattle.alm_pipeline.specs.Headline.{IsRun, after_steps}
use Rattle.alm_pipeline.specs.Pace.{PacesAll, most_more}
use Rattle.alm_bench.specs.Stands.{MatchesBench, IsPaced, bench_sight, HasDevice, IsHonest}
use Rattle.alm_bench.proofs.bench.Bench.run.Given as goal

abbrev pub invariant-loop-step : goal.invariant-loop-step
invariant-loop-step g l = record {
  count : length l.trace.items ≡ l.step-index;
  room : vec_capacity l.trace ≡ length l.steps;
  honest : IsHonest l.self → IsHonest l.fn.self;
  run : IsHonest l.self → (w : World) → MatchesBench w l.fn.self → IsRun StandsFor IsLastEpoch w (bench_sight l.fn.self) (take l.step-index l.steps) l.trace.items (bench_sight l.self);
  stands : IsHonest l.self → (w : World) → MatchesBench w l.fn.self → MatchesBench (after_steps w (take l.step-index l.steps) l.trace.items) l.self;
  paces : IsHonest l.self → (w : World) (more : ℕ) → MatchesBench w l.fn.self → IsPaced more w l.fn.self
      → (last : ℕ) × PacesAll most_more w more (take l.step-index l.steps) l.trace.items last × IsPaced last (after_steps w (take l.step-index l.steps) l.trace.items) l.self;
  there : HasDevice l.fn.self → HasDevice l.self;
}
