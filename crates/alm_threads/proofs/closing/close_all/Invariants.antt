use Rattle.std.specs.Prelude.{◌≡◌, ◌≢◌, ◌≤◌, ◌++◌, ℕ, length, slice_get, Some, vec_capacity}
use Rattle.std.specs.Vec.Iter.{into_iter_items}
use Rattle.alm_rings.specs.declared.console.Console.{Console}
use Rattle.alm_rings.specs.Placed.{inbox_at, outbox_at}
use Rattle.alm_threads.specs.Runs.{IsSlotClosed}
use Rattle.alm_threads.proofs.closing.close_all.Given as goal

-- the slots so far are closed, and the others have their ends
abbrev pub invariant-loop-console : goal.invariant-loop-console
invariant-loop-console g l = record {
  order : l.fn.consoles.items ≡ l.yielded ++ into_iter_items l.console-iterator;
  count : length l.reports.items ≡ length l.yielded;
  room : length l.fn.consoles.items ≤ vec_capacity l.reports;
  inboxes : (s : ℕ) → ((j : ℕ) (c : Console _ _) → slice_get l.yielded j ≡ Some c → c.slot ≢ s) → inbox_at s l.inboxes.items ≡ inbox_at s l.fn.inboxes.items;
  outboxes : (s : ℕ) → ((j : ℕ) (c : Console _ _) → slice_get l.yielded j ≡ Some c → c.slot ≢ s) → outbox_at s l.outboxes.items ≡ outbox_at s l.fn.outboxes.items;
  closed : (k : ℕ) (c : Console _ _) → slice_get l.yielded k ≡ Some c → IsSlotClosed l.fn.inboxes.items l.fn.outboxes.items l.reports.items k c;
}
