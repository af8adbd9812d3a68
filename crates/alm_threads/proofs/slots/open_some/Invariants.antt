use Rattle.std.specs.Prelude.{◌≡◌, ◌≤◌, ℕ, [], length, slice_get, Some, vec_capacity}
use Rattle.rtrb.specs.Ring.{IsPair}
use Rattle.alm_rings.specs.declared.console.Console.{Console}
use Rattle.alm_rings.specs.declared.inbox.Inbox.{Inbox}
use Rattle.alm_rings.specs.declared.outbox.Outbox.{Outbox}
use Rattle.alm_rings.specs.Ends.{received_of, released_of, sent_of, taken_of}
use Rattle.alm_threads.proofs.slots.open_some.Given as goal

-- the slots so far, in their order
abbrev pub invariant-loop-slot : goal.invariant-loop-slot
invariant-loop-slot g l = record {
  consoles : length l.consoles.items ≡ l.slot-index;
  inboxes : length l.inboxes.items ≡ l.slot-index;
  outboxes : length l.outboxes.items ≡ l.slot-index;
  room : (length l.slots ≤ vec_capacity l.consoles) × (length l.slots ≤ vec_capacity l.inboxes) × (length l.slots ≤ vec_capacity l.outboxes);
  con_order : (j : ℕ) (c : Console _ _) → slice_get l.consoles.items j ≡ Some c → slice_get l.slots j ≡ Some c.slot;
  new : (j : ℕ) (c : Console _ _) → slice_get l.consoles.items j ≡ Some c → (sent_of c ≡ []) × (received_of c ≡ []);
  in_order : (j : ℕ) (i : Inbox) → slice_get l.inboxes.items j ≡ Some i → (slice_get l.slots j ≡ Some i.slot) × (taken_of i ≡ []);
  out_order : (j : ℕ) (o : Outbox _ _) → slice_get l.outboxes.items j ≡ Some o → (slice_get l.slots j ≡ Some o.slot) × (released_of o ≡ []);
  requests : (j : ℕ) (c : Console _ _) (i : Inbox) → slice_get l.consoles.items j ≡ Some c → slice_get l.inboxes.items j ≡ Some i → IsPair c.requests i.requests;
  replies : (j : ℕ) (c : Console _ _) (o : Outbox _ _) → slice_get l.consoles.items j ≡ Some c → slice_get l.outboxes.items j ≡ Some o → IsPair o.replies c.replies;
}
