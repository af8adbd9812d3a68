use Rattle.std.proofs.Common.{◌≡◌, ◌⊎◌, ◌∙◌, sym, ap, subst}
use Rattle.std.proofs.Props.{props}
use Rattle.std.proofs.Math.Logic.{∥∥₁_elim}
use Rattle.alm_disk.specs.Device.{IsImage}
use Rattle.alm_model.specs.Step.{run}
use Rattle.alm_seq.specs.Sequences.{live_of}
use Rattle.alm_stack.proofs.Kept.{kept_image}
use Rattle.alm_stack.proofs.Rests.{lives, none_waits, stored_as}
use Rattle.alm_stack.proofs.stack.StackOver.images.Goals as goal

pub returns : goal.returns
returns g c = λ honest b is.
    let s = c.args.self.now in
    let f = s.pipeline.flusher in
    let k = f.store in
    let same : c.keeper.result.now ≡ k = c.keeper.ensures.keeper in
    let stands = c.images.ensures.stands (subst (λ k. g.K.Device.Disk.honest (g.K.Store.disk k)) (sym same) honest) b (subst (λ x. IsImage (g.K.Device.Disk.state (g.K.Store.disk x)) b) (sym same) is) in
    let here = subst (λ x. ∥ g.K.Store.recovers b (g.K.Store.state x).stored ⊎ g.K.Store.recovers b (g.K.Store.state x).next ∥₁) same stands in
    kept_image g.K.Store.recovers s.halted (live_of s.pipeline.sequencer) (g.K.Store.state k).stored (g.K.Store.state k).next f.held b
    (λ none. ∥∥₁_elim (s.rests none) (hlevel props) (λ r.
    let fits = r.1.0.fits in
    (lives r.0 s.pipeline fits ∙ sym (stored_as r.0 s.pipeline fits ∙ ap (run r.0.base) r.1.1.stored), none_waits f.held (fits.batches.held ∙ r.1.1.stage))))
    s.halts f.either here
