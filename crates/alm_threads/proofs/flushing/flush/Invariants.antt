use Rattle.std.specs.Prelude.{◌↔◌}
use Rattle.alm_threads.specs.Kept.{KeepsFlusher}
use Rattle.alm_threads.proofs.flushing.flush.Given as goal

abbrev pub invariant-loop : goal.invariant-loop
invariant-loop g l = record {
  kept : KeepsFlusher l.fn.flusher l.flusher;
  honest : (g.K.Device.Disk.honest (g.K.Store.disk l.fn.flusher.flusher.store)) ↔ g.K.Device.Disk.honest (g.K.Store.disk l.flusher.flusher.store);
}
