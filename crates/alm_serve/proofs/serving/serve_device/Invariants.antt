use Rattle.alm_keeper.specs.AsStore.{StandsFor}
use Rattle.alm_serve.proofs.serving.serve_device.Given as goal

-- the histories that were made, and what the store begins with
abbrev pub ghosts-serve_over : goal.ghosts-serve_over
ghosts-serve_over g a = record {
  book = a.new.history.seen.book;
  moments = a.new.moments.seen.book;
  base = a.store.stored.plant;
  first = g.D.Disk.state a.store.disk;
  honest = g.D.Disk.honest a.store.disk;
  recovers = StandsFor;
}
