use Rattle.std.proofs.Common.{◌≡◌, take}
use Rattle.alm_desk.specs.Desks.{IsFed}
use Rattle.alm_desk.specs.Pieces.{tag_all}
use Rattle.alm_desk.proofs.piece_feeding.feed_all.Given as goal

-- the pieces so far were fed
abbrev pub invariant-loop-piece : goal.invariant-loop-piece
invariant-loop-piece g l = record {
  fed : IsFed l.initial.desk (tag_all (take l.piece-index l.pieces)) (g.W.Write.contents l.initial.writer.inner) l.desk (g.W.Write.contents l.writer.inner);
  whole : l.writer.failed ≡ l.initial.writer.failed;
}
