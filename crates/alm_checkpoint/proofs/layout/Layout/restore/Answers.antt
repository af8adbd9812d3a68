use Rattle.std.proofs.Common.{inr, refl, sym, subst, ◌∙◌}
use Rattle.alm_model.specs.Parts.{plant_of}
use Rattle.alm_checkpoint.specs.Opening.{Opened}
use Rattle.alm_checkpoint.specs.Layouts.{half_number}
use Rattle.alm_checkpoint.specs.Restoring.{IsUnrestored}
use Rattle.alm_checkpoint.proofs.Restored.{held, unheld}
use Rattle.alm_checkpoint.proofs.layout.Layout.restore.Goals as goal

pub returns-in-Ok-replay-clause-holds : goal.returns-in-Ok-replay-clause-holds
returns-in-Ok-replay-clause-holds g c =
    let o : Opened = record { layout = c.args.self.now; half = c.args.half; head = c.args.head.now; image = c.args.image.now; segment = c.args.segment.now } in
    held o (plant_of c.in-Ok.parts) (g.P.Alarms.plant c.in-Ok-build.plant) (g.P.Alarms.plant c.replay.new.plant) c.replay.result c.in-Ok-replay.at c.segment_at.result
    (record { sum = sym c.if-image_sum-head.false ∙ c.image_sum.ensures; sizes = c.in-Ok.ensures.sizes; image = c.in-Ok.ensures.found }) c.in-Ok-build.ensures c.requires.segment c.segment_at.ensures c.in-Ok-replay.is c.replay.ensures

pub returns-in-Err-clause-damage : goal.returns-in-Err-clause-damage
returns-in-Err-clause-damage g c =
    let o : Opened = record { layout = c.args.self.now; half = c.args.half; head = c.args.head.now; image = c.args.image.now; segment = c.args.segment.now } in
    subst (IsUnrestored o) (sym c.damaged-in-Err.ensures)
    (inr (unheld o (plant_of c.in-Ok.parts) (g.P.Alarms.plant c.in-Ok-build.plant) (g.P.Alarms.plant c.replay.new.plant) c.replay.result c.in-Err.damage (half_number c.args.half) c.segment_at-in-Err.result
    (record { sum = sym c.if-image_sum-head.false ∙ c.image_sum.ensures; sizes = c.in-Ok.ensures.sizes; image = c.in-Ok.ensures.found }) c.in-Ok-build.ensures c.requires.segment refl c.segment_at-in-Err.ensures c.in-Err.is c.replay.ensures))
