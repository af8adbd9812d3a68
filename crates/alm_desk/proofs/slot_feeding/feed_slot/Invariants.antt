use Rattle.std.proofs.Common.{◌≡◌, length}
use Rattle.alm_desk.specs.Backends.{IsMomentOf}
use Rattle.alm_desk.specs.Feeding.{FeedsOn}
use Rattle.alm_desk.specs.Standings.{standing_with}
use Rattle.alm_desk.proofs.slot_feeding.feed_slot.Given as goal

-- what was answered, and that the rest makes the whole of it
abbrev pub invariant-loop-rest : goal.invariant-loop-rest
invariant-loop-rest g l = record {
  progress : FeedsOn l.slot (standing_with g.B.Backend l.fn.backend l.fn.notebook) l.fn.decoder l.fn.piece (g.W.Write.contents l.fn.writer.inner)
      (standing_with g.B.Backend l.backend l.notebook) l.decoder l.rest (g.W.Write.contents l.writer.inner);
  moment : IsMomentOf (g.B.Backend.stands l.backend) l.notebook.moment;
  whole : l.writer.failed ≡ l.fn.writer.failed;
}

abbrev pub decreases-loop-rest : goal.decreases-loop-rest
decreases-loop-rest g l = length l.rest
