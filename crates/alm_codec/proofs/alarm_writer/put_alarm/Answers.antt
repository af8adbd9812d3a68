use Rattle.std.proofs.Common.{arith}
use Rattle.alm_codec.proofs.Writing.{Wrote-then}
use Rattle.alm_codec.proofs.alarm_writer.put_alarm.Goals as goal

pub returns-clause-text : goal.returns-clause-text
returns-clause-text c = Wrote-then _ _ _ _ _ _ _ _ c.put_attr-row_at.ensures.text c.put_row.ensures.text (omega arith)
