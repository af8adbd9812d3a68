use Rattle.std.proofs.Common.{◌≡◌, ◌≤◌, take, drop, vec_capacity}
use Rattle.alm_events.proofs.recent_events.RecentEvents.copy.Given as goal

abbrev pub invariant-loop-index : goal.invariant-loop-index
invariant-loop-index l = record {
  told : l.out.items ≡ take l.index (drop l.from l.self);
  room : vec_capacity l.out ≡ vec_capacity l.fn.out;
  within : l.index ≤ l.more;
}
