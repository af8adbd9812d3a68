use Rattle.std.proofs.Common.{◌≡◌, ◌+◌, ◌*◌, take}
use Rattle.alm_codec.specs.Image.{alarm_texts}
use Rattle.alm_codec.specs.Writing.{Wrote}
use Rattle.alm_codec.proofs.image_writer.put_alarms.Given as goal

abbrev pub invariant-loop-alarm : goal.invariant-loop-alarm
invariant-loop-alarm g l = record {
  end : l.end ≡ l.fn.at + l.alarm * 182;
  text : Wrote l.fn.out l.out l.fn.at l.end (alarm_texts (take l.alarm (g.P.Alarms.plant l.plant).panel.attrs) (take l.alarm (g.P.Alarms.plant l.plant).panel.rows) (take l.alarm (g.P.Alarms.plant l.plant).kept.moments));
}
