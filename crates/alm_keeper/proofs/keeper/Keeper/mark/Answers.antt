use Rattle.std.proofs.Math.Logic.{∥∥₁_map}
use Rattle.alm_keeper.proofs.Starting.{marked_order, marked_keeps}
use Rattle.alm_keeper.proofs.keeper.Keeper.mark.Goals as goal

pub invariant_of-self : goal.invariant_of-self
invariant_of-self g c =
    let b = c.self.inside.book in (
      marked_order b 0 c.self.invariant.0,
      record { fits = c.self.invariant.1.fits; in_memory = c.self.invariant.1.in_memory },
      λ honest. ∥∥₁_map (c.self.invariant.2 honest) (λ k. marked_keeps b 0 (g.D.Disk.state c.self.inside.disk) k),
    )
