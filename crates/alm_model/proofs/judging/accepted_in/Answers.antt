use Rattle.std.proofs.Common.{◌∙◌, ap, sym, arith, length, take, length-append, [], ◌∷◌}
use Rattle.alm_types.specs.declared.entry.Entry.{Entry}
use Rattle.alm_model.specs.Judging.{accepted_of}
use Rattle.alm_model.proofs.Legal.{take_accepted, take_refused}
use Rattle.alm_model.proofs.judging.accepted_in.Goals as goal
use Rattle.alm_model.proofs.judging.accepted_in.Goals.{in-Accepted, in-Refused}

pub loop-entry-preserved : goal.loop-entry-preserved
loop-entry-preserved c =
    let items = c.entries-entry-items.result.now in
    let k = c.loop-entry.entry-index in
    let d = c.entry-item.result in
    let at = ap (λ (e : Entry). e.verdict) (sym c.entry-item.is) in
    elim c.match-entry.branch [
      | in-Accepted w ↦ (let more = ap length (take_accepted items k d w.in-Accepted.field-0 c.loop-entry-test.true (at ∙ w.in-Accepted.is)) in
          record { count = omega (arith, w.actions-is, c.loop-entry.invariant.count, more, length-append (accepted_of (take k items)) (w.in-Accepted.field-0 ∷ [])); most = omega (arith, w.actions-is, c.loop-entry.invariant.most) })
      | in-Refused w ↦ (let same = ap length (take_refused items k d w.in-Refused.field-0 w.in-Refused.field-1 c.loop-entry-test.true (at ∙ w.in-Refused.is)) in
          record { count = omega (arith, w.actions-is, c.loop-entry.invariant.count, same); most = omega (arith, w.actions-is, c.loop-entry.invariant.most) })
    ]
