use Rattle.std.proofs.Common.{◌-◌, inl, inr, ⊎_elim, arith}
use Rattle.std.proofs.Math.Logic.{∥∥₁_map}
use Rattle.alm_keeper.specs.Keeper.{next}
use Rattle.alm_keeper.proofs.CallsLeft.{few_calls}
use Rattle.alm_keeper.proofs.StoreCalls.{exhausted_spent}
use Rattle.alm_keeper.proofs.as_store.KeeperStore.images.Goals as goal

pub returns : goal.returns
returns g c = record {
  few = let k = c.args.self.now in let l = c.images.ensures.order.lengths in few_calls k.stage k.work (k.run - k.out) (λ at is. let r = c.images.ensures.order.runs at is in omega (arith, r.1, l.0, l.1));
  stands = λ honest b image.
      let k = c.args.self.now in
      ∥∥₁_map (c.images.ensures.either honest b image) (λ s. ⊎_elim (λ x. inl (k.stored.epoch, x)) (λ y. inr ((next k).epoch, y)) s);
  exhausted = λ honest least.
      let k = c.args.self.now in
      let state = g.D.Disk.state k.disk in
      let own = g.met.D.Disk.own_image k.disk honest in
      exhausted_spent k state own.bytes least (c.images.ensures.either honest state.bytes own);
}
