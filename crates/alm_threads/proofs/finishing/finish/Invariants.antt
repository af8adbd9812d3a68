use Rattle.std.specs.Prelude.{◌≡◌, ◌↔◌}
use Rattle.alm_seq.specs.Sequences.{live_base}
use Rattle.alm_threads.specs.Kept.{KeepsEnds, KeepsFlusher}
use Rattle.alm_threads.proofs.finishing.finish.Given as goal

abbrev pub invariant-loop : goal.invariant-loop
invariant-loop g l = record {
  ends : KeepsEnds l.fn.consoles l.consoles l.fn.sequencer.inboxes.items l.sequencer.inboxes.items l.fn.sequencer.ends l.sequencer.ends;
  live : live_base l.sequencer ≡ live_base l.fn.sequencer;
  kept : KeepsFlusher l.fn.flusher l.flusher;
  honest : (g.K.Device.Disk.honest (g.K.Store.disk l.fn.flusher.flusher.store)) ↔ g.K.Device.Disk.honest (g.K.Store.disk l.flusher.flusher.store);
}
