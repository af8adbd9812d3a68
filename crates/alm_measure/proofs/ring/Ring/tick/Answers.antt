use Rattle.std.proofs.Common.{◌≡◌, ◌<◌, ◌++◌, ◌∷◌, [], get_or, arith, sym, ◌∙◌, length}
use Rattle.alm_measure.specs.Rings.{rotated}
use Rattle.alm_measure.proofs.Turning.{behind, turned-last, turned-last_place, ticked}
use Rattle.alm_measure.proofs.ring.Ring.tick.Goals as goal
use Rattle.alm_measure.proofs.ring.Ring.tick.Goals.{then-self-eq0, else-self-eq0}

pub returns : goal.returns
returns c =
    let old = c.self.inside in
    let oldest = c.if-self-eq0.oldest in
    let within : oldest < length old.counts = elim c.if-self-eq0.branch [ then-self-eq0 w ↦ omega arith | else-self-eq0 w ↦ omega arith ] in
    let last : rotated old.present old.counts ≡ behind oldest old.counts ++ get_or old.counts oldest 0 ∷ [] = elim c.if-self-eq0.branch [
      | then-self-eq0 w ↦ turned-last_place oldest old.present old.counts (omega arith) (omega arith)
      | else-self-eq0 w ↦ turned-last oldest old.present old.counts within (omega arith)
    ] in
    ticked 599 oldest old.counts c.args.self.now c.self.invariant.seconds within (sym c.self.view_is ∙ last)
