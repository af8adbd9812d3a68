use Rattle.std.specs.Prelude.{◌≡◌, ◌+◌, ◌≤◌, ◌++◌, length, map, vec_len, vec_capacity}
use Rattle.std.specs.Vec.Iter.{into_iter_items}
use Rattle.alm_threads.proofs.slot_parts.slot_parts_of.Given as goal

abbrev pub invariant-loop-console : goal.invariant-loop-console
invariant-loop-console g l = record {
  room : length l.fn.consoles.items ≤ vec_capacity l.slot_parts;
  count : vec_len l.slot_parts ≡ length l.yielded;
  looks : length l.yielded + length (into_iter_items l.looks) ≡ length l.fn.consoles.items;
  sources : length l.yielded + length (into_iter_items l.sources) ≡ length l.fn.consoles.items;
  consoles_left : l.yielded ++ into_iter_items l.console-iterator ≡ l.fn.consoles.items;
  looks_left : map (λ p. p.look) l.slot_parts.items ++ into_iter_items l.looks ≡ l.fn.looks.items;
  sources_left : map (λ p. p.source) l.slot_parts.items ++ into_iter_items l.sources ≡ l.fn.sources.items;
  consoles : map (λ p. p.console) l.slot_parts.items ≡ l.yielded;
}
