use Rattle.std.proofs.Common.{◌≡◌, ◌+◌, ◌-◌, ◌^◌, [], min, true, false}
use Rattle.alm_desk.specs.Turns.{IsReaderTurn}
use Rattle.alm_desk.proofs.running.desk_run.Given as goal

-- each turn was one read, none failed, and what was read was answered
abbrev pub invariant-loop : goal.invariant-loop
invariant-loop g l = record {
  turns : IsReaderTurn true l.initial.desk.standing [] (g.R.Read.remaining l.initial.reader.inner) (g.W.Write.contents l.initial.writer.inner) l.desk.standing l.held (g.R.Read.remaining l.reader.inner) (g.W.Write.contents l.writer.inner);
  still_open : l.desk.closed ≡ false;
  helds : l.desk.helds ≡ l.initial.desk.helds;
  reads : l.reader.reads ≡ min (l.initial.reader.reads + l.counter) (2 ^ 64 - 1);
  whole_reader : l.reader.failed ≡ l.initial.reader.failed;
  whole_writer : l.writer.failed ≡ l.initial.writer.failed;
}
