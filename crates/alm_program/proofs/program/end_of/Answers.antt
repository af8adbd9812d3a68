use Rattle.std.proofs.Common.{ℕ, List, Option, Result, Ok, Err, ◌⊎◌, inl, inr, sym, subst, rules}
use Rattle.std.specs.Bool.{⊤}
use Rattle.std.specs.Io.KnownBytes.{Appends}
use Rattle.alm_lines.specs.Written.{IsCutShort, Prints}
use Rattle.std.specs.Process.{exit_status}
use Rattle.alm_program.specs.declared.fault.Fault.{Fault}
use Rattle.alm_program.specs.Faults.{EndsBy}
use Rattle.alm_program.proofs.program.end_of.Goals as goal

either : {E : Type 0} (old new : Option (List ℕ)) (text : List ℕ) (r : Result ⊤ E) → Prints old new text r → Appends old new text ⊎ IsCutShort old new text
either {E} old new text (Ok x) p = inl p
either {E} old new text (Err x) p = inr p

pub returns-in-Err : goal.returns-in-Err
returns-in-Err g c =
    subst (λ (r : Result Unit Fault). EndsBy r (g.E.Write.contents c.args.errors.now) (g.E.Write.contents c.print_fault.new.writer) (exit_status c.from.result)) (sym c.in-Err.is)
    (search (rules, c.status.ensures, c.from.ensures), either _ _ _ c.print_fault.result c.print_fault.ensures)
