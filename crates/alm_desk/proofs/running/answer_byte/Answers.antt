use Rattle.std.proofs.Common.{◌≡◌, true, rules}
use Rattle.alm_lines.specs.Stream.{is_end}
use Rattle.alm_desk.proofs.Printed.{answered_end}
use Rattle.alm_desk.proofs.running.answer_byte.Goals as goal

pub returns-then-byte-eq10-clause-answered : goal.returns-then-byte-eq10-clause-answered
returns-then-byte-eq10-clause-answered g c =
    let ends : is_end c.args.byte ≡ true = search rules in
    answered_end _ _ _ _ c.args.byte (record { line = c.bytes.result.now; hindrance = c.in_ok-answer_desk_line.field-0 }) _ _ ends c.bytes.ensures c.clear.ensures c.in_ok-answer_desk_line.ensures.text c.in_ok-answer_desk_line.ensures.standing
