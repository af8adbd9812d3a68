use Rattle.std.proofs.Math.Logic.{∥∥₁_map}
use Rattle.alm_keeper.proofs.Starting.{copied_keeps, copied_layout, still_fits}
use Rattle.alm_keeper.proofs.keeper.Keeper.begin_checkpoint.Goals as goal

pub invariant_of-self : goal.invariant_of-self
invariant_of-self g c =
    let old = c.self.inside.book in
    let new = c.begin_checkpoint.new.self in
    let result = c.begin_checkpoint.result in (
      c.begin_checkpoint.ensures.in_order,
      still_fits old new (g.D.Disk.size c.self.inside.disk) (copied_layout result old new c.begin_checkpoint.ensures.copies) c.self.invariant.1,
      λ honest. ∥∥₁_map (c.self.invariant.2 honest) (λ k. copied_keeps result old new (g.D.Disk.state c.self.inside.disk) c.begin_checkpoint.ensures.copies c.self.invariant.0 c.begin_checkpoint.ensures.in_order k),
    )
