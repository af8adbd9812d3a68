use Rattle.std.proofs.Common.{◌≡◌, ℕ, List, [], ◌++◌, sym, ap, ◌∙◌, append_assoc, append-nil}
use Rattle.std.proofs.KnownBytes.{Appends-trans}
use Rattle.std.specs.Fmt.{decimal}
use Rattle.std.specs.Prelude.{codes}
use Rattle.alm_types.specs.Reports.{report}
use Rattle.alm_lines.specs.Reply.{query_word, report_text}
use Rattle.alm_lines.proofs.Prefixes.{prints_err, prints_then, prints_same, cut_in_first, cut_in_second, cut_same}
use Rattle.alm_lines.proofs.printing.print_query.Goals as goal

-- the head, the answer and the line's end
joined : (id word n told end : List ℕ) → (id ++ (word ++ (n ++ []))) ++ (told ++ end) ≡ id ++ word ++ n ++ told ++ end
joined id word n told end =
    ap (λ (t : List ℕ). (id ++ (word ++ t)) ++ (told ++ end)) (append-nil n)
    ∙ ap (λ (t : List ℕ). t ++ (told ++ end)) (sym (append_assoc id word n)) ∙ sym (append_assoc (id ++ word ++ n) told end)

abbrev head : ℕ → List ℕ → ℕ → List ℕ
head id word n = decimal id ++ (word ++ (decimal n ++ []))

pub returns-in_err-put_each : goal.returns-in_err-put_each
returns-in_err-put_each g c =
    let told = report_text (report c.args.query c.args.answer.now) in
    let word = query_word c.args.query in
    let cut = rw (c.from.ensures, c.query_word.ensures) at c.in_err-put_each.ensures in
    prints_err _ c.from_residual.ensures.0 (cut_same _ (joined (decimal c.args.id) word (decimal c.args.n) told (codes "\n")) (cut_in_first cut (told ++ codes "\n")))

pub returns-in_err-print_report : goal.returns-in_err-print_report
returns-in_err-print_report g c =
    let told = report_text (report c.args.query c.args.answer.now) in
    let word = query_word c.args.query in
    let first = rw (c.from.ensures, c.query_word.ensures) at c.in_ok-put_each.ensures in
    prints_err _ c.from_residual-in_err-print_report.ensures.0 (cut_same _ (joined (decimal c.args.id) word (decimal c.args.n) told (codes "\n"))
    (cut_in_second (head c.args.id word c.args.n) first (cut_in_first c.in_err-print_report.ensures (codes "\n"))))

pub returns : goal.returns
returns g c =
    let told = report_text (report c.args.query c.args.answer.now) in
    let word = query_word c.args.query in
    let first = rw (c.from.ensures, c.query_word.ensures) at c.in_ok-put_each.ensures in
    let front = head c.args.id word c.args.n in
    prints_same _ _ _ _ (append_assoc front told (codes "\n") ∙ joined (decimal c.args.id) word (decimal c.args.n) told (codes "\n"))
    (prints_then _ _ (front ++ told) (Appends-trans _ _ _ front told first c.in_ok-print_report.ensures) _ (codes "\n") _ c.put.ensures)
