use Rattle.std.proofs.Common.{◌≡◌, ◌≤◌, map, vec_len, vec_capacity, length}
use Rattle.alm_threads.proofs.start.start_all.Given as goal

abbrev pub invariant-loop-own : goal.invariant-loop-own
invariant-loop-own g l = (vec_len l.handles ≡ length l.yielded) × (vec_len l.fn.slot_parts ≤ vec_capacity l.handles) × (map (λ h. h.promise.0.value) l.handles.items ≡ l.yielded)
