use Rattle.std.proofs.Common.{◌<◌, ◌∙◌, sym, ap, arith, length}
use Rattle.alm_model.specs.Measured.{is_measured}
use Rattle.alm_model.proofs.Numbered.{filter-first}
use Rattle.alm_model.proofs.alarms_by_number.AlarmsByNumberIterator.next.Goals as goal

pub returns-clause-steps : goal.returns-clause-steps
returns-clause-steps c =
    let i = c.self.inside in
    let p = is_measured i.list i.now i.attrs.now i.rows.now i.moments.now in
    let here : c.first_from-number.result < length i.rows.now = omega (arith, c.first_from-number.ensures.within, c.if-number-self.false) in
    sym c.self.view_is ∙ c.first_from-number.ensures.skipped
    ∙ filter-first p c.first_from-number.result (length i.rows.now) here (c.first_from-number.ensures.found here)

pub returns-clause-goes : goal.returns-clause-goes
returns-clause-goes c =
    let fewer = ap length (returns-clause-steps c) in
    record { on = λ f. (tt, tt, omega (arith, fewer)); keeps = tt; rests = λ f. tt }
