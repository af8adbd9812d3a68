use Rattle.std.proofs.Common.{◌≡◌, ◌∙◌, ℕ, List, length, ap, subst, sym}
use Rattle.alm_disk.proofs.Images.{settled_image}
use Rattle.alm_keeper.specs.AsStore.{StandsFor}
use Rattle.alm_keeper.specs.Calls.{reads_of}
use Rattle.alm_program.proofs.upgrading.open_to_upgrade.Goals as goal

pub returns-in-Ok : goal.returns-in-Ok
returns-in-Ok g c = λ start begins.
    let looked = c.read_layout.new.disk in
    let keeper = c.in-Ok.keeper in
    let layout = c.in_ok-layout.ensures in
    let opened = c.in-Ok.ensures.opened in
    let was : g.D.Disk.honest keeper.disk → g.D.Disk.honest c.args.disk = λ honest. layout.honest (opened.honest honest) in
    let long : g.D.Disk.honest keeper.disk → length start ≡ g.D.Disk.size c.args.disk = λ honest. ap length (sym begins.settled.reads) ∙ g.met.D.Disk.whole c.args.disk (was honest) in
    let settled = layout.keeps start begins.settled in
    let same : g.D.Disk.honest keeper.disk → (g.D.Disk.state keeper.disk).bytes ≡ start = λ honest. settled_image (g.D.Disk.state looked) start _ settled (opened.image (opened.honest honest)) in
    record {
      device = c.args.disk;
      begins = begins;
      sized = sym c.size-size.ensures;
      reads = reads_of keeper.layout keeper.half;
      are_reads = (tt, (tt, (tt, (tt, (tt, tt)))));
      calls = (looked, layout.serves, opened.made);
      laid = λ honest. layout.layout start (opened.honest honest) begins.settled (long honest);
      stands = λ honest. subst (λ (b : List ℕ). StandsFor b keeper.stored.plant) (same honest) (keeper.stored.epoch, (c.in-Ok.ensures.stands honest).0);
    }
