use Rattle.std.proofs.Common.{arith, ◌∙◌}
use Rattle.alm_keeper.proofs.Tried.{same_more, asked_more, said_more, admitted_more, plant_more}
use Rattle.alm_keeper.proofs.trying.try_all.Goals as goal

pub loop-place-preserved : goal.loop-place-preserved
loop-place-preserved c =
    let version = c.args.version in
    let entries = c.args.entries.now in
    let i = c.loop-place.invariant in
    let t = c.if-not-try_one.ensures.tries in
    let e = c.index-entries-place.result in
    record {
      same = same_more version entries c.loop-place.place e c.loop-place-test.true c.index-entries-place.is c.args.plant.now c.loop-place.plant c.try_one.new.plant c.loop-place.actions.items c.try_one.new.actions.items i.same t;
      asked = asked_more version entries c.loop-place.place e c.loop-place-test.true c.index-entries-place.is c.loop-place.plant c.try_one.new.plant c.loop-place.actions.items c.try_one.new.actions.items i.asked t;
      said = said_more version c.loop-place.plant c.try_one.new.plant e c.loop-place.actions.items c.try_one.new.actions.items i.said t;
      admitted = admitted_more version c.args.plant.now c.loop-place.plant c.try_one.new.plant e c.loop-place.actions.items c.try_one.new.actions.items i.admitted i.plant t;
      plant = plant_more version c.args.plant.now c.loop-place.plant c.try_one.new.plant e c.loop-place.actions.items c.try_one.new.actions.items i.plant t;
      room = omega (arith, i.room, c.loop-place-test.true, c.try_one.ensures.len, c.try_one.ensures.room);
      within = omega (arith, c.loop-place-test.true);
      grown = c.try_one.ensures.room ∙ i.grown;
    }
