use Rattle.std.proofs.Common.{arith, ◌∙◌, ◌≡◌, ◌<◌, map, sum, length, get_or, refl, false}
use Rattle.std.proofs.lemmas.List.{length-map}
use Rattle.std.proofs.lemmas.Grind.{common_steps}
use Rattle.alm_model.proofs.Flooding.{settled_more}
use Rattle.alm_measure.proofs.rings.settle_all.Goals as goal

pub loop-area-preserved : goal.loop-area-preserved
loop-area-preserved c =
    let windows = map sum c.args.rings.now in
    let below : c.loop-area.area < length windows = rw length-map (omega arith) in
    let window : c.window.result ≡ get_or windows c.loop-area.area 0 = grind (arith, common_steps) in
    rw c.is_flood.ensures (settled_more windows c.loop-area.floods c.loop-area.area c.window.result _ false (omega arith) below window refl ∙ c.loop-area.invariant)
