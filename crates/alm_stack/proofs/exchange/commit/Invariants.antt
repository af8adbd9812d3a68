use Rattle.std.proofs.Common.{◌≡◌, ◌≤◌, ◌-◌, ◌↔◌, List, length}
use Rattle.alm_types.specs.declared.entry.Entry.{Entry}
use Rattle.alm_model.specs.Judging.{accepted_of}
use Rattle.alm_pipeline.specs.World.{World, Held}
use Rattle.alm_pipeline.specs.Matches.{CommitsIn, MatchesOpenWorld}
use Rattle.alm_stack.specs.Exchanges.{Leads, calls, went_on, sight_of}
use Rattle.alm_stack.proofs.exchange.commit.Given as goal

-- the batch is held, its commit ends in the calls that are left, and those that were made returned More
abbrev pub invariant-loop-step : goal.invariant-loop-step
invariant-loop-step g l = record {
  honest : (g.K.Device.Disk.honest (g.K.Store.disk l.fn.pipeline.flusher.store)) ↔ g.K.Device.Disk.honest (g.K.Store.disk l.pipeline.flusher.store);
  count : (g.K.Device.Disk.failures (g.K.Store.disk l.fn.pipeline.flusher.store)) ≤ g.K.Device.Disk.failures (g.K.Store.disk l.pipeline.flusher.store);
  going : (w : World) (entries : List Entry) → MatchesOpenWorld w l.fn.pipeline → w.stage ≡ Held entries → length (accepted_of entries) ≤ 256
      → MatchesOpenWorld w l.pipeline × CommitsIn (647 - l._step) l.pipeline
      × Leads g.K.Store.recovers g.K.Store.spent (g.K.Device.Disk.honest (g.K.Store.disk l.fn.pipeline.flusher.store)) w (sight_of l.fn.pipeline) (calls l._step) (went_on l._step) w (sight_of l.pipeline);
}
