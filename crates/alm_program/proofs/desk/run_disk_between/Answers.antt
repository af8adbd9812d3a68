use Rattle.std.proofs.Common.{subst}
use Rattle.std.proofs.Math.Logic.{∥∥₁_map}
use Rattle.alm_disk.specs.Device.{DeviceState, IsImage}
use Rattle.alm_stack.specs.Stacks.{store_of}
use Rattle.alm_program.specs.DeskRuns.{IsDeskOver}
use Rattle.alm_program.proofs.desk.run_disk_between.Goals as goal

pub returns : goal.returns
returns g c =
    let e = c.in_ok-stack.ensures in
    let r = c.in_ok-done.ensures in
    let k = c.into_disk-back.ensures in
    let input = g.I.Read.remaining c.args.reader.now.inner in
    let old = g.W.Write.contents c.args.writer.now.inner in
    let new = g.W.Write.contents c.run_stack_between.new.writer.inner in
    let over : IsDeskOver g.D.Disk c.args.disk c.into_disk-back.result input old new c.in_ok-done.field-0.done = record {
      opened = (store_of c.in_ok-stack.stack).disk;
      base = (store_of c.in_ok-stack.stack).stored.plant;
      later = r.0;
      is = e.opened;
      runs = record {
        honest = ∥∥₁_map r.1.honest (λ both. (λ h. k.honest.0 (both.0 h), λ h. both.1 (k.honest.1 h)));
        judged = r.1.judged;
        printed = r.1.printed;
        holds = λ h image is. r.1.holds (k.honest.1 h) image (subst (λ (s : DeviceState). IsImage s image) k.device is);
      };
    } in
    record {
      over = over;
      from = λ start begins. record { device = c.args.disk; begins = begins; input = input; old = old; new = new; over = over };
      refused = tt;
    }
