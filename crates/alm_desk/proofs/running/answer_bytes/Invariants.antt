use Rattle.std.proofs.Common.{◌≡◌, take, false}
use Rattle.alm_desk.specs.DeskLines.{IsPrinted}
use Rattle.alm_desk.proofs.running.answer_bytes.Given as goal

-- the bytes so far were answered
abbrev pub invariant-loop-byte : goal.invariant-loop-byte
invariant-loop-byte g l = record {
  answered : IsPrinted l.initial.desk.standing l.initial.held (take l.byte-index l.bytes) (g.W.Write.contents l.initial.writer.inner) l.desk.standing l.held (g.W.Write.contents l.writer.inner);
  still_open : l.desk.closed ≡ false;
  helds : l.desk.helds ≡ l.initial.desk.helds;
  whole : l.writer.failed ≡ l.initial.writer.failed;
}
