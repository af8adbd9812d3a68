use Rattle.std.specs.Prelude.{◌≡◌, ◌≤◌, length, vec_len, vec_capacity}
use Rattle.alm_threads.proofs.watched_look.watched.Given as goal

abbrev pub invariant-loop-look : goal.invariant-loop-look
invariant-loop-look g l = (l.place ≡ length l.yielded) × (vec_len l.watched ≡ length l.yielded) × (length l.slots ≤ vec_capacity l.watched)
