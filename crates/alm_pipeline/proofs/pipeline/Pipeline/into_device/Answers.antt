use Rattle.std.proofs.Common.{◌∙◌, ap, subst}
use Rattle.alm_disk.specs.Device.{DeviceState, IsImage}
use Rattle.alm_pipeline.proofs.pipeline.Pipeline.into_device.Goals as goal

pub returns-clause-headline : goal.returns-clause-headline
returns-clause-headline g c = λ honest w f image is.
    c.images.ensures.headline honest w f image (subst (λ (d : DeviceState). IsImage d image) (ap g.K.Device.Disk.state c.into_device.ensures ∙ ap (λ k. g.K.Device.Disk.state (g.K.Store.disk k)) c.into_keeper.ensures.keeper) is)
