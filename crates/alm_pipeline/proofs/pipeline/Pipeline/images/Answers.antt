use Rattle.std.proofs.Common.{◌⊎◌, ℕ, List, subst}
use Rattle.alm_disk.specs.Device.{IsImage}
use Rattle.alm_pipeline.proofs.Headed.{headline}
use Rattle.alm_pipeline.proofs.pipeline.Pipeline.images.Goals as goal

pub returns : goal.returns
returns g c = record {
  headline = λ honest w f.
      let s = g.K.Store in
      headline w c.args.self.now f
      (subst (λ (k : _). (g.K.Device.Disk.honest (s.disk k)) → (image : List ℕ) → IsImage (g.K.Device.Disk.state (s.disk k)) image → ∥ s.recovers image (s.state k).stored ⊎ s.recovers image (s.state k).next ∥₁) c.keeper.ensures.keeper c.images.ensures.stands honest)
      g.met.K.Store.one g.met.K.Store.rules;
}
