use Rattle.std.proofs.Common.{◌∙◌, ap, sym}
use Rattle.alm_pipeline.proofs.Opened.{given_back_behind}
use Rattle.alm_pipeline.proofs.pipeline.Pipeline.open.Goals as goal

pub returns-in-Ok-new-clause-open : goal.returns-in-Ok-new-clause-open
returns-in-Ok-new-clause-open g c = λ base kept floor is enough.
    c.in-Ok-new.ensures.open base kept floor (ap (λ k. (g.K.Store.state k).stored) (sym c.in-Ok-new.ensures.store) ∙ is) enough

pub returns-in-Err-new-clause-refused : goal.returns-in-Err-new-clause-refused
returns-in-Err-new-clause-refused g c = given_back_behind g.K.Device.Disk g.K.Store.recovers _ _ _ (rw (← c.in-Err-new.ensures.refused, ← c.into_device.ensures) at c.in-Ok.ensures.opened)
