use Rattle.std.proofs.Common.{◌≡◌, ◌-◌, length, take, drop, vec_capacity}
use Rattle.alm_model.specs.Judging.{logged_of}
use Rattle.alm_shared.proofs.handing.last_of.Given as goal

abbrev pub invariant-loop-entry : goal.invariant-loop-entry
invariant-loop-entry l = record {
  last : l.last.items ≡ drop l.from (logged_of (take l.entry-index l.entry-items));
  before : l.before ≡ l.from - length (logged_of (take l.entry-index l.entry-items));
  room : vec_capacity l.last ≡ l.more;
}
