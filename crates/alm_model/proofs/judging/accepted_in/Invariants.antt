use Rattle.std.proofs.Common.{◌≡◌, ◌≤◌, length, take}
use Rattle.alm_model.specs.Judging.{accepted_of}
use Rattle.alm_model.proofs.judging.accepted_in.Given as goal

abbrev pub invariant-loop-entry : goal.invariant-loop-entry
invariant-loop-entry l = record {
  count : l.actions ≡ length (accepted_of (take l.entry-index l.entry-items));
  most : l.actions ≤ l.entry-index;
}
