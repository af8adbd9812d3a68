use Rattle.std.proofs.Math.Logic.{∥∥₁_map}
use Rattle.alm_keeper.specs.Batch.{accepted_asked}
use Rattle.alm_keeper.proofs.Starting.{begun_keeps, begun_layout, still_fits}
use Rattle.alm_keeper.proofs.keeper.Keeper.begin.Goals as goal

pub invariant_of-self : goal.invariant_of-self
invariant_of-self g c =
    let old = c.self.inside.book in
    let new = c.begin.new.self in
    let asked = accepted_asked old.version c.args.batch.now.entries in
    let result = c.begin.result in (
      c.begin.ensures.in_order,
      still_fits old new (g.D.Disk.size c.self.inside.disk) (begun_layout result asked old new c.begin.ensures.begins) c.self.invariant.1,
      λ honest. ∥∥₁_map (c.self.invariant.2 honest) (λ k. begun_keeps result asked old new (g.D.Disk.state c.self.inside.disk) c.begin.ensures.begins c.self.invariant.0 c.begin.ensures.in_order k),
    )
