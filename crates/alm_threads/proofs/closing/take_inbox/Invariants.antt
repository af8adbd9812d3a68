use Rattle.std.specs.Prelude.{◌≡◌, ◌≢◌, ◌<◌, ℕ, slice_get, Some}
use Rattle.alm_rings.specs.declared.inbox.Inbox.{Inbox}
use Rattle.alm_threads.proofs.closing.take_inbox.Given as goal

-- none before is the slot's
abbrev pub invariant-loop-place : goal.invariant-loop-place
invariant-loop-place l = (l.inboxes ≡ l.fn.inboxes) × ((j : ℕ) (i : Inbox) → j < l.place → slice_get l.inboxes.items j ≡ Some i → i.slot ≢ l.slot)
