use Rattle.std.proofs.Common.{subst}
use Rattle.std.specs.Prelude.{IfOk}
use Rattle.alm_serve.specs.Stores.{IsRunOfPorts}
use Rattle.alm_serve.proofs.serving.run_behind.Goals as goal

pub returns-clause-run : goal.returns-clause-run
returns-clause-run g c = subst (λ store. IfOk c.run_parts.result (IsRunOfPorts g.K.Store g.K.Device.Disk store c.args.ports.ports.items)) c.in_ok-parts.ensures.parts.0 c.run_parts.ensures.run
