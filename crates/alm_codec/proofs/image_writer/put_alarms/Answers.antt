use Rattle.std.proofs.Common.{◌≡◌, ◌+◌, ◌*◌, ℕ, length, subst, arith}
use Rattle.alm_codec.specs.Writing.{Wrote}
use Rattle.alm_codec.proofs.Writing.{Wrote-then, Wrote-nothing}
use Rattle.std.proofs.lemmas.List.{take_all}
use Rattle.alm_codec.specs.Image.{alarm_texts}
use Rattle.alm_codec.proofs.WrittenImage.{alarm_texts-more}
use Rattle.alm_codec.proofs.image_writer.put_alarms.Goals as goal

pub loop-alarm-init : goal.loop-alarm-init
loop-alarm-init g c = record { end = omega arith; text = Wrote-nothing c.args.out.now c.args.at }

pub put_numbered-end-requires-clause-room : goal.put_numbered-end-requires-clause-room
put_numbered-end-requires-clause-room g c = omega (arith, c.loop-alarm.invariant.end, c.loop-alarm-test.true, c.requires.alarms, c.requires.room)

pub loop-alarm-preserved : goal.loop-alarm-preserved
loop-alarm-preserved g c =
    let q = g.P.Alarms.plant c.args.plant.now in
    record {
      end = omega (arith, c.loop-alarm.invariant.end, c.put_numbered-end.ensures.end);
      text = subst (Wrote c.args.out.now c.put_numbered-end.new.out c.args.at c.put_numbered-end.result)
          (alarm_texts-more q.panel.attrs q.panel.rows q.kept.moments c.loop-alarm.alarm c.requires.rules.attrs c.requires.rules.recent (omega (arith, c.requires.alarms, c.loop-alarm-test.true)))
          (Wrote-then _ _ _ _ _ _ _ _ c.loop-alarm.invariant.text c.put_numbered-end.ensures.text (omega (arith, c.loop-alarm.invariant.end, c.put_numbered-end.ensures.end, c.loop-alarm-test.true, c.requires.alarms, c.requires.room)));
    }

pub returns : goal.returns
returns g c =
    let q = g.P.Alarms.plant c.args.plant.now in
    let size : ℕ = length q.panel.rows in
    let done : size ≡ c.loop-alarm.alarm = omega (arith, c.requires.alarms, c.loop-alarm-test.false, c.loop-alarm.auto.alarm-end) in
    let end : c.loop-alarm.end ≡ c.args.at + size * 182 = omega (arith, c.loop-alarm.invariant.end, done) in
    record {
      text = subst (λ e. Wrote c.args.out.now c.loop-alarm.out c.args.at e (alarm_texts q.panel.attrs q.panel.rows q.kept.moments)) end
          (rw (← take_all c.loop-alarm.alarm q.panel.attrs (omega (arith, done, c.requires.rules.attrs)), ← take_all c.loop-alarm.alarm q.panel.rows (omega (arith, done)), ← take_all c.loop-alarm.alarm q.kept.moments (omega (arith, done, c.requires.rules.recent))) c.loop-alarm.invariant.text);
    }
