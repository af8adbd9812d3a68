use Rattle.std.proofs.Common.{◌++◌}
use Rattle.alm_types.specs.Reports.{report}
use Rattle.alm_lines.specs.Parts.{text_of_parts}
use Rattle.alm_lines.specs.Reply.{report_text}
use Rattle.alm_lines.proofs.Prefixes.{prints_err, prints_then, cut_in_first, cut_in_second}
use Rattle.std.proofs.KnownBytes.{Appends-trans}
use Rattle.alm_lines.proofs.printing.print_told.Goals as goal

pub returns-in_err-put_parts : goal.returns-in_err-put_parts
returns-in_err-put_parts g c =
    prints_err _ c.from_residual.ensures.0 (cut_in_first (cut_in_first c.in_err-put_parts.ensures (report_text (report c.args.query c.args.answer.now))) c.args.end.now)

pub returns-in_err-print_report : goal.returns-in_err-print_report
returns-in_err-print_report g c =
    prints_err _ c.from_residual-in_err-print_report.ensures.0 (cut_in_first (cut_in_second (text_of_parts c.args.front.now) c.in_ok-put_parts.ensures c.in_err-print_report.ensures) c.args.end.now)

pub returns : goal.returns
returns g c =
    let front = text_of_parts c.args.front.now in
    let told = report_text (report c.args.query c.args.answer.now) in
    let last = rw c.as_bytes.ensures.value at c.put.ensures in
    prints_then _ _ (front ++ told) (Appends-trans _ _ _ front told c.in_ok-put_parts.ensures c.in_ok-print_report.ensures) _ c.args.end.now _ last
