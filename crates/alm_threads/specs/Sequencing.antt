-- For the proofs.
-- A sequencer by the ends that it was made from.
use Rattle.std.specs.Prelude.{◌≡◌}
use Rattle.alm_model.specs.declared.alarms.Alarms.{Ghosts}
use Rattle.alm_model.specs.Plant.{Condensed}
use Rattle.alm_rings.specs.Batches.{SameSealEnds}
use Rattle.alm_seq.specs.Sequences.{SameInboxes, live_base}
use Rattle.alm_seq.specs.declared.sequencer.Sequencer.{Sequencer}
use Rattle.alm_threads.specs.declared.rings.Rings.{Rings}

module _ {P : Type 0} {g : Ghosts P} where
  -- it has the same ends, and judges from this plant on
  pub record IsSequencerOver (plant : Condensed) (rings : Rings) (s : Sequencer P g) : Type 0 where
    pub inboxes : SameInboxes rings.inboxes.items s.inboxes.items
    pub ends : SameSealEnds rings.ends s.ends
    pub base : live_base s ≡ plant
