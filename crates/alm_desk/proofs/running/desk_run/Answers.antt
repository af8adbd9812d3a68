use Rattle.std.proofs.Common.{◌∙◌, Err, ap, arith, refl, rules, sym}
use Rattle.alm_desk.proofs.Printed.{turns, turns_end, turns_broken, fault_ends, fault_prints}
use Rattle.alm_desk.proofs.running.desk_run.Goals as goal

pub loop-preserved : goal.loop-preserved
loop-preserved g c =
    let next = rw c.in-Ok-true.field-0-test at c.in-Ok-true.ensures.answered in
    record {
      turns = turns c.loop.invariant.turns next;
      still_open = c.in-Ok-true.ensures.ends.0;
      helds = c.in-Ok-true.ensures.helds ∙ c.loop.invariant.helds;
      reads = omega arith;
      whole_reader = c.in-Ok-true.ensures.ends.1 ∙ c.loop.invariant.whole_reader;
      whole_writer = c.in-Ok-true.ensures.ends.2 ∙ c.loop.invariant.whole_writer;
    }

pub returns-in-Ok-false-clause-prints : goal.returns-in-Ok-false-clause-prints
returns-in-Ok-false-clause-prints g c = λ still_open.
    let last = turns c.loop.invariant.turns (rw c.in-Ok-false.field-0-test at c.in-Ok-false.ensures.answered) in
    (turns_end refl last, last.ended refl)

pub returns-in-Err-clause-prints : goal.returns-in-Err-clause-prints
returns-in-Err-clause-prints g c = λ still_open.
    fault_prints c.in-Err.fault (λ e. let still = c.in-Err.ensures.still (ap Err e) in search rules) (λ e. turns_broken c.loop.invariant.turns (c.in-Err.ensures.broken (ap Err e)))

pub returns-in-Err-clause-ends : goal.returns-in-Err-clause-ends
returns-in-Err-clause-ends g c =
    fault_ends c.in-Err.fault _ _ _ _ _ _ _ _ (sym c.if-is_closed.ensures) c.loop.invariant.whole_reader c.loop.invariant.whole_writer c.in-Err.ensures.ends
