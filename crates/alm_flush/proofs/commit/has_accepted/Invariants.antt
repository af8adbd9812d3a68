use Rattle.std.proofs.Common.{◌≡◌, [], take}
use Rattle.alm_model.specs.Judging.{accepted_of}
use Rattle.alm_flush.proofs.commit.has_accepted.Given as goal

abbrev pub invariant-loop-entry : goal.invariant-loop-entry
invariant-loop-entry l = record {
  none : accepted_of (take l.entry-index l.entry-items) ≡ [];
}
