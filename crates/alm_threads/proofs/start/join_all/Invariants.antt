use Rattle.std.proofs.Common.{◌≡◌, ◌≤◌, map, vec_len, vec_capacity, length}
use Rattle.alm_threads.specs.Same.{AllSame}
use Rattle.alm_threads.specs.Sources.{AllAccount, source_state}
use Rattle.alm_threads.proofs.start.join_all.Given as goal

abbrev pub invariant-loop-handle : goal.invariant-loop-handle
invariant-loop-handle g l = record {
  consoles : vec_len l.consoles ≡ length l.yielded;
  console_room : vec_len l.fn.handles ≤ vec_capacity l.consoles;
  sources : vec_len l.sources ≡ length l.yielded;
  source_room : vec_len l.fn.handles ≤ vec_capacity l.sources;
  same : AllSame (map (λ p. p.console) (map (λ h. h.promise.0.value) l.yielded)) l.consoles.items;
  accounts : AllAccount g.S.Source.did (map (λ p. source_state p.source p.look p.console) (map (λ h. h.promise.0.value) l.yielded)) l.sources.items l.consoles.items;
}
