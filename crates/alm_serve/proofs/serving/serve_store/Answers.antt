use Rattle.std.proofs.Common.{rules}
use Rattle.std.specs.Io.KnownBytes.{Appends}
use Rattle.alm_serve.specs.Serving.{serving_line}
use Rattle.alm_serve.proofs.Stores.{served_writes}
use Rattle.alm_serve.proofs.serving.serve_store.Goals as goal

pub returns-in-Ok-run_behind-clause-writes : goal.returns-in-Ok-run_behind-clause-writes
returns-in-Ok-run_behind-clause-writes g c =
    let name = g.L.Listen.name c.args.listen.now in
    let old = g.W.Write.contents c.args.writer.now in
    let mid = g.W.Write.contents c.print_serving.new.writer in
    let new = g.W.Write.contents c.print_end.new.writer in
    let first : Appends old mid (serving_line name) = search rules in
    served_writes g.K.Store g.K.Device.Disk name old mid new c.print_end.result c.in-Ok-run_behind.run' first c.print_end.ensures.writes
