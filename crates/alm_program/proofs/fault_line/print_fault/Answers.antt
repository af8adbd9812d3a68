use Rattle.std.proofs.Common.{◌++◌, codes}
use Rattle.alm_lines.proofs.Prefixes.{prints_err, prints_then, cut_in_first, cut_in_second}
use Rattle.alm_program.specs.Faults.{fault_text}
use Rattle.alm_program.proofs.fault_line.print_fault.Goals as goal

pub returns-in_err-put : goal.returns-in_err-put
returns-in_err-put g c =
    prints_err _ c.from_residual.ensures.0 (cut_in_first c.in_err-put.ensures (fault_text c.args.fault.now ++ codes "\n"))

pub returns-in_err-print_name : goal.returns-in_err-print_name
returns-in_err-print_name g c =
    prints_err _ c.from_residual-in_err-print_name.ensures.0 (cut_in_second (codes "fault ") c.in_ok-put.ensures (cut_in_first c.in_err-print_name.ensures (codes "\n")))

pub returns : goal.returns
returns g c =
    prints_then _ _ (codes "fault ") c.in_ok-put.ensures _ (fault_text c.args.fault.now ++ codes "\n") _
    (prints_then _ _ (fault_text c.args.fault.now) c.in_ok-print_name.ensures _ (codes "\n") _ c.put-2.ensures)
