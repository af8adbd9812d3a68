use Rattle.std.proofs.Common.{◌≡◌, ◌∙◌, ℕ, Bool, Some, sym, ap, refl, length, arith, rules}
use Rattle.std.specs.Prelude.{slice_get}
use Rattle.std.proofs.lemmas.Option.{slice_get_read}
use Rattle.alm_model.specs.Lists.{is_frequent, moments_in}
use Rattle.alm_model.proofs.Numbered.{filter-taken, filter-left}
use Rattle.alm_measure.proofs.chatter.fill_chattering.Goals as goal
use Rattle.alm_measure.proofs.chatter.fill_chattering.Goals.{then-passes, else-passes}

pub loop-number-preserved : goal.loop-number-preserved
loop-number-preserved c =
    let p : ℕ → Bool = λ i. is_frequent c.args.now (moments_in (slice_get c.args.alarms.now i)) in
    let i = c.loop-number.number in
    let there : slice_get c.args.alarms.now i ≡ Some c.index-alarms-number.result = slice_get_read c.args.alarms.now (length c.args.alarms.now) i c.index-alarms-number.result refl (omega arith) c.index-alarms-number.is in
    let passes : p i ≡ c.passes.result = ap (λ o. is_frequent c.args.now (moments_in o)) there ∙ sym c.passes.ensures in
    elim c.if-passes.branch [
      | then-passes w ↦
          rw w.out-is (record {
            list = filter-taken p i c.loop-number.out.items w.push_reserved.new.self.items (passes ∙ w.if-passes.true) c.loop-number.invariant.list w.push_reserved.ensures.items;
            few = omega arith;
            room = search rules;
          })
      | else-passes w ↦
          rw w.out-is (record {
            list = filter-left p i c.loop-number.out.items (passes ∙ w.if-passes.false) c.loop-number.invariant.list;
            few = omega arith;
            room = c.loop-number.invariant.room;
          })
    ]
