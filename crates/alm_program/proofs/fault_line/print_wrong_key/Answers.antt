use Rattle.std.proofs.Common.{ℕ, List, ◌++◌, codes}
use Rattle.alm_lines.proofs.Prefixes.{prints_err, prints_then, cut_in_first}
use Rattle.alm_program.specs.Faults.{alarm_text, key_text}
use Rattle.alm_program.proofs.fault_line.print_wrong_key.Goals as goal

abbrev head : List ℕ → List ℕ
head alarm = codes "table " ++ alarm ++ codes " "

pub returns-in_err-put_parts : goal.returns-in_err-put_parts
returns-in_err-put_parts g c =
    let cut = rw c.alarm_part.ensures at c.in_err-put_parts.ensures in
    prints_err _ c.from_residual.ensures.0 (cut_in_first cut (key_text c.args.key.now))

pub returns : goal.returns
returns g c =
    let first = rw c.alarm_part.ensures at c.in_ok-put_parts.ensures in
    let rest = rw c.as_bytes.ensures.value at c.print_key.ensures in
    prints_then _ _ (head (alarm_text c.args.alarm)) first _ (key_text c.args.key.now) _ rest
