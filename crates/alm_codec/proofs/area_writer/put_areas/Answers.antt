use Rattle.std.proofs.Common.{subst, arith}
use Rattle.alm_codec.specs.Writing.{Wrote}
use Rattle.alm_codec.proofs.Writing.{Wrote-then, Wrote-nothing}
use Rattle.std.proofs.lemmas.List.{take_all}
use Rattle.alm_codec.proofs.WrittenImage.{area_texts-more}
use Rattle.alm_codec.proofs.area_writer.put_areas.Goals as goal

pub loop-area-init : goal.loop-area-init
loop-area-init g c = record { end = omega arith; text = Wrote-nothing c.args.out.now c.args.at }

pub put_area-end-requires-clause-room : goal.put_area-end-requires-clause-room
put_area-end-requires-clause-room g c = omega (arith, c.loop-area.invariant.end, c.loop-area-test.true, c.requires.room)

pub loop-area-preserved : goal.loop-area-preserved
loop-area-preserved g c =
    let q = g.P.Alarms.plant c.args.plant.now in
    record {
      end = omega (arith, c.loop-area.invariant.end, c.put_area-end.ensures.end);
      text = subst (Wrote c.args.out.now c.put_area-end.new.out c.args.at c.put_area-end.result)
          (area_texts-more q.floods q.kept.ages c.loop-area.area c.requires.rules.measured (omega (arith, c.requires.areas, c.loop-area-test.true)))
          (Wrote-then _ _ _ _ _ _ _ _ c.loop-area.invariant.text c.put_area-end.ensures.text (omega (arith, c.loop-area.invariant.end, c.put_area-end.ensures.end, c.loop-area-test.true, c.requires.room)));
    }

pub returns-clause-end : goal.returns-clause-end
returns-clause-end g c = omega (arith, c.loop-area.invariant.end, c.loop-area-test.false, c.loop-area.auto.area-end)

pub returns-clause-text : goal.returns-clause-text
returns-clause-text g c =
    let q = g.P.Alarms.plant c.args.plant.now in
    rw (← take_all c.loop-area.area q.floods (omega (arith, c.requires.areas, c.loop-area-test.false)), ← take_all c.loop-area.area q.kept.ages (omega (arith, c.requires.areas, c.requires.rules.measured, c.loop-area-test.false))) c.loop-area.invariant.text
