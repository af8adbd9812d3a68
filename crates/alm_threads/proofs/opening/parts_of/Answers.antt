use Rattle.alm_threads.proofs.opening.parts_of.Goals as goal

pub invariant_of-result-clause-base : goal.invariant_of-result-clause-base
invariant_of-result-clause-base g c = c.requires.named.base

pub invariant_of-result-clause-device : goal.invariant_of-result-clause-device
invariant_of-result-clause-device g c = c.requires.named.device

pub invariant_of-result-clause-honest : goal.invariant_of-result-clause-honest
invariant_of-result-clause-honest g c = c.requires.named.honest

pub invariant_of-result-clause-recovers : goal.invariant_of-result-clause-recovers
invariant_of-result-clause-recovers g c = c.requires.named.recovers

pub invariant_of-result-clause-none : goal.invariant_of-result-clause-none
invariant_of-result-clause-none g c = c.in-Some.ensures

pub invariant_of-result-clause-inboxes : goal.invariant_of-result-clause-inboxes
invariant_of-result-clause-inboxes g c = c.in-Ok.ensures.new.inboxes_apart

pub invariant_of-result-clause-outboxes : goal.invariant_of-result-clause-outboxes
invariant_of-result-clause-outboxes g c = c.in-Ok.ensures.new.outboxes_apart

pub invariant_of-result-clause-taken : goal.invariant_of-result-clause-taken
invariant_of-result-clause-taken g c = c.in-Ok.ensures.new.taken

pub invariant_of-result-clause-released : goal.invariant_of-result-clause-released
invariant_of-result-clause-released g c = c.in-Ok.ensures.new.released
