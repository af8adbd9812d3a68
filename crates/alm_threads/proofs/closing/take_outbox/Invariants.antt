use Rattle.std.specs.Prelude.{◌≡◌, ◌≢◌, ◌<◌, ℕ, slice_get, Some}
use Rattle.alm_rings.specs.declared.outbox.Outbox.{Outbox}
use Rattle.alm_threads.proofs.closing.take_outbox.Given as goal

-- none before is the slot's
abbrev pub invariant-loop-place : goal.invariant-loop-place
invariant-loop-place g l = (l.outboxes ≡ l.fn.outboxes) × ((j : ℕ) (o : Outbox _ _) → j < l.place → slice_get l.outboxes.items j ≡ Some o → o.slot ≢ l.slot)
