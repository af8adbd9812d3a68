use Rattle.alm_threads_tests.proofs.looks.recalled_by.Given as goal

-- the histories that were made, and what the store begins with
abbrev pub ghosts-recalled_in_turn : goal.ghosts-recalled_in_turn
ghosts-recalled_in_turn g a = record {
  book = a.new.history.seen.book;
  moments = a.new.moments.seen.book;
  base = (g.K.Store.state a.store).stored;
  first = g.K.Device.Disk.state (g.K.Store.disk a.store);
  honest = g.K.Device.Disk.honest (g.K.Store.disk a.store);
  recovers = g.K.Store.recovers;
}
