use Rattle.std.proofs.Common.{◌∙◌, ap, rules, refl}
use Rattle.alm_rings.specs.Placed.{inbox_at}
use Rattle.alm_rings.proofs.Slots.{same_inbox_at}
use Rattle.alm_threads.proofs.Serves.{same_at_trans, some_still}
use Rattle.alm_threads.proofs.sequencing.take_share.Goals as goal

pub loop-init : goal.loop-init
loop-init g c = record {
  inboxes = λ s. same_inbox_at (inbox_at s c.args.sequencer.now.inboxes.items);
  ends = search rules;
  base = refl;
}

pub take-requires : goal.take-requires
take-requires g c = some_still (inbox_at c.args.slot c.args.sequencer.now.inboxes.items) (inbox_at c.args.slot c.loop.sequencer.inboxes.items) (c.loop.invariant.inboxes c.args.slot) c.requires

pub returns-in-BatchFull-clause-inboxes : goal.returns-in-BatchFull-clause-inboxes
returns-in-BatchFull-clause-inboxes g c = λ s. same_at_trans (inbox_at s c.args.sequencer.now.inboxes.items) (inbox_at s c.loop.sequencer.inboxes.items) (inbox_at s c.take.new.self.inboxes.items) (c.loop.invariant.inboxes s) (c.take.ensures.inboxes s)

pub returns-in-BatchFull-clause-base : goal.returns-in-BatchFull-clause-base
returns-in-BatchFull-clause-base g c = ap (λ p. g.P.Alarms.plant p) c.take.ensures.seals.0 ∙ c.loop.invariant.base
