use Rattle.std.proofs.Common.{Err, ap}
use Rattle.alm_lines.proofs.Prefixes.{on_err}
use Rattle.alm_desk.proofs.Slots.{only_writer}
use Rattle.alm_desk.proofs.CutLines.{cut_in_head, cut_in_reply}
use Rattle.alm_desk.proofs.desk_line.answer_at.Goals as goal

pub returns-in_err-parts-clause-cut : goal.returns-in_err-parts-clause-cut
returns-in_err-parts-clause-cut g c =
    let cut = rw (c.from.ensures, c.number.ensures.number) at c.in_err-parts.ensures.bytes in
    on_err c.from_residual.result (cut_in_head _ c.args.slot c.args.line.now cut)

pub returns-in-Err-clause-cut : goal.returns-in-Err-clause-cut
returns-in-Err-clause-cut g c =
    let head = rw (c.from.ensures, c.number.ensures.number) at c.in_ok-parts.ensures.bytes in
    let failed = only_writer c.in-Err.field-0 _ _ _ _ c.requires c.in-Err.ensures.fault in
    cut_in_reply c.args.slot c.args.line.now head (c.in-Err.ensures.cut (ap Err failed))
