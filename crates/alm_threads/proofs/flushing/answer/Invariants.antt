use Rattle.std.specs.Prelude.{◌≡◌}
use Rattle.alm_threads.specs.Kept.{KeepsFlusher}
use Rattle.alm_threads.proofs.flushing.answer.Given as goal

abbrev pub invariant-loop : goal.invariant-loop
invariant-loop g l = record {
  kept : KeepsFlusher l.fn.flusher l.flusher;
  store : l.flusher.flusher.store ≡ l.fn.flusher.flusher.store;
}
