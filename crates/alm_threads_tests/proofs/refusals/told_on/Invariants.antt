use Rattle.std.specs.Prelude.{[]}
use Rattle.alm_threads_tests.proofs.refusals.told_on.Given as goal

-- the history that was made, and what the store begins with
abbrev pub ghosts-told_behind : goal.ghosts-told_behind
ghosts-told_behind g a = record {
  book = a.new.seen.book;
  moments = a.new.seen.book;
  base = (g.K.Store.state a.store).stored;
  first = g.K.Device.Disk.state (g.K.Store.disk a.store);
  honest = g.K.Device.Disk.honest (g.K.Store.disk a.store);
  recovers = g.K.Store.recovers;
}
