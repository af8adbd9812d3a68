use Rattle.std.proofs.Common.{◌∙◌, rules, refl}
use Rattle.std.proofs.lemmas.Option.{slice_get_read}
use Rattle.alm_rings.specs.Placed.{inbox_at}
use Rattle.alm_rings.proofs.Slots.{same_inbox_at}
use Rattle.alm_threads.proofs.Serves.{same_at_trans, serves_still}
use Rattle.alm_threads.proofs.sequencing.go_round.Goals as goal

pub loop-slot-init : goal.loop-slot-init
loop-slot-init g c = record {
  serves = c.requires;
  inboxes = λ s. same_inbox_at (inbox_at s c.args.sequencer.now.inboxes.items);
  ends = search rules;
  base = refl;
}

pub take_share-requires : goal.take_share-requires
take_share-requires g c = c.loop-slot.invariant.serves c.loop-slot.slot-index _ (slice_get_read c.args.slots.now _ c.loop-slot.slot-index _ refl c.loop-slot-test.true c.slot-item.is)

pub returns-in-Full-clause-serves : goal.returns-in-Full-clause-serves
returns-in-Full-clause-serves g c = serves_still c.args.slots.now c.loop-slot.sequencer.inboxes.items c.take_share.new.sequencer.inboxes.items c.take_share.ensures.inboxes c.loop-slot.invariant.serves

pub returns-in-Full-clause-inboxes : goal.returns-in-Full-clause-inboxes
returns-in-Full-clause-inboxes g c = λ s. same_at_trans (inbox_at s c.args.sequencer.now.inboxes.items) (inbox_at s c.loop-slot.sequencer.inboxes.items) (inbox_at s c.take_share.new.sequencer.inboxes.items) (c.loop-slot.invariant.inboxes s) (c.take_share.ensures.inboxes s)

pub returns-in-Full-clause-base : goal.returns-in-Full-clause-base
returns-in-Full-clause-base g c = c.take_share.ensures.base ∙ c.loop-slot.invariant.base
