use Rattle.std.proofs.Common.{sym, subst}
use Rattle.alm_file.specs.Replay.{BeginsAs}
use Rattle.alm_server.proofs.serving.serve_counted.Goals as goal

pub returns : goal.returns
returns g c = record {
  from = λ start begins. record {
    device = c.in_ok-counted.counted;
    begins = subst (λ (d : g.row.D.Denot). BeginsAs start (g.D.Disk.size d) (g.D.Disk.honest d) (g.D.Disk.state d)) (sym c.in_ok-counted.ensures) begins;
    ends = c.in_ok-end.ensures.ends;
  };
  memory = tt;
}
