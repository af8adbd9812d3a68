use Rattle.std.specs.Prelude.{◌≡◌}
use Rattle.alm_rings.specs.Batches.{SameSealEnds}
use Rattle.alm_seq.specs.Sequences.{SameInboxes, live_base}
use Rattle.alm_threads.specs.Serving.{ServesSlots}
use Rattle.alm_threads.proofs.sequencing.go_round.Given as goal

abbrev pub invariant-loop-slot : goal.invariant-loop-slot
invariant-loop-slot g l = record {
  serves : ServesSlots l.slots l.sequencer.inboxes.items;
  inboxes : SameInboxes l.fn.sequencer.inboxes.items l.sequencer.inboxes.items;
  ends : SameSealEnds l.fn.sequencer.ends l.sequencer.ends;
  base : live_base l.sequencer ≡ live_base l.fn.sequencer;
}
