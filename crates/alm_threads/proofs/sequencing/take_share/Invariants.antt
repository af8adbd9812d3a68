use Rattle.std.specs.Prelude.{◌≡◌}
use Rattle.alm_rings.specs.Batches.{SameSealEnds}
use Rattle.alm_seq.specs.Sequences.{SameInboxes, live_base}
use Rattle.alm_threads.proofs.sequencing.take_share.Given as goal

abbrev pub invariant-loop : goal.invariant-loop
invariant-loop g l = record {
  inboxes : SameInboxes l.fn.sequencer.inboxes.items l.sequencer.inboxes.items;
  ends : SameSealEnds l.fn.sequencer.ends l.sequencer.ends;
  base : live_base l.sequencer ≡ live_base l.fn.sequencer;
}
