use Rattle.std.proofs.Common.{◌<◌, ◌+◌, ◌∙◌, length, drop, get_or, rules}
use Rattle.alm_lines.proofs.Prefixes.{on_err}
use Rattle.alm_desk.proofs.Printed.{joined, taken, split, broken_end}
use Rattle.alm_desk.proofs.running.answer_bytes.Goals as goal

pub loop-byte-preserved : goal.loop-byte-preserved
loop-byte-preserved g c =
    let in_range : c.loop-byte.byte-index < length c.args.bytes.now = search rules in
    record {
      answered = rw (taken c.args.bytes.now c.loop-byte.byte-index in_range) (joined c.loop-byte.invariant.answered c.in_ok-answer_byte.ensures.answered);
      still_open = c.in_ok-answer_byte.ensures.open;
      helds = c.in_ok-answer_byte.ensures.helds ∙ c.loop-byte.invariant.helds;
      whole = c.in_ok-answer_byte.ensures.whole ∙ c.loop-byte.invariant.whole;
    }

pub returns-in_err-answer_byte-clause-broken : goal.returns-in_err-answer_byte-clause-broken
returns-in_err-answer_byte-clause-broken g c =
    let in_range : c.loop-byte.byte-index < length c.args.bytes.now = search rules in
    let cut = c.in_err-answer_byte.ensures.cut in
    let byte = get_or c.args.bytes.now c.loop-byte.byte-index 0 in
    let rest = drop (c.loop-byte.byte-index + 1) c.args.bytes.now in
    on_err c.from_residual.result (rw (split c.args.bytes.now c.loop-byte.byte-index in_range) (broken_end byte rest c.loop-byte.invariant.answered cut.0 cut.1))
