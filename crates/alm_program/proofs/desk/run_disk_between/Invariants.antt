use Rattle.alm_stack.specs.Stacks.{store_of}
use Rattle.alm_program.proofs.desk.run_disk_between.Given as goal

-- what the run begins with, and whether its device is honest
abbrev pub ghosts-run_stack_between : goal.ghosts-run_stack_between
ghosts-run_stack_between g a = record {
  base = (store_of a.stack).stored.plant;
  honest = g.D.Disk.honest (store_of a.stack).disk;
}
