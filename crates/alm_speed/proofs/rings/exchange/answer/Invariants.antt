use Rattle.alm_rings.specs.Ends.{SameInbox, SameOutbox}
use Rattle.alm_speed.proofs.rings.exchange.answer.Given as goal

abbrev pub invariant-loop : goal.invariant-loop
invariant-loop g l = SameInbox l.fn.inbox l.inbox × SameOutbox l.fn.outbox l.outbox
