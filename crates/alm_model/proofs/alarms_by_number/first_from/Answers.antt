use Rattle.std.proofs.Common.{◌∙◌, sym, length}
use Rattle.alm_model.specs.Measured.{is_measured}
use Rattle.alm_model.proofs.Numbered.{filter-next}
use Rattle.alm_model.proofs.alarms_by_number.first_from.Goals as goal

pub loop-i-preserved : goal.loop-i-preserved
loop-i-preserved c =
    let p = is_measured c.args.list c.args.now c.args.attrs.now c.args.rows.now c.args.moments.now in
    c.loop-i.invariant ∙ filter-next p c.loop-i.i (length c.args.rows.now) c.loop-i-test.true (sym c.is_measured.ensures ∙ c.if-is_measured.false)
