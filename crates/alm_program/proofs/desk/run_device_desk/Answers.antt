use Rattle.std.proofs.Common.{Ok, Err, inl, inr}
use Rattle.std.specs.Prelude.{Result, IfErr}
use Rattle.alm_file.specs.declared.file_fault.FileFault.TheVariants as file
use Rattle.alm_program.proofs.desk.run_device_desk.Goals as goal

-- what is so of an error, of each error
if_err : {A E : Type 0} {P Q : E → Type 0} (r : Result A E) → ((e : E) → P e → Q e) → IfErr r P → IfErr r Q
if_err (Ok a) keeps is = is
if_err (Err e) keeps is = keeps e is

pub returns-in-Err-with_capacity-clause-refused : goal.returns-in-Err-with_capacity-clause-refused
returns-in-Err-with_capacity-clause-refused g c = inl (file.Io c.in-Err-with_capacity.error, c.io_fault.ensures)

pub returns-clause-refused : goal.returns-clause-refused
returns-clause-refused g c = if_err c.run_disk_between.result (λ fault is. inr (c.in-Ok.disk, c.in-Ok.ensures.begins, is)) c.run_disk_between.ensures.refused
