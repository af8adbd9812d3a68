use Rattle.std.proofs.Common.{◌∷◌, [], ap, refl, arith}
use Rattle.std.proofs.Common.{Some}
use Rattle.alm_model.specs.Plant.{Condensed}
use Rattle.alm_pipeline.specs.World.{first}
use Rattle.alm_stack.proofs.Rests.{lives}
use Rattle.alm_stack.proofs.Worlds.{idle_first}
use Rattle.alm_stack.proofs.stack.StackOver.open.Goals as goal

pub invariant_of-result : goal.invariant_of-result
invariant_of-result g c =
    let q = (g.K.Store.state c.in-Ok.pipeline.flusher.store).stored in
    record {
      rests = λ _. ∣ (first q, (c.in-Ok.ensures.«open» q [] q.panel.count refl (omega arith), idle_first q)) ∣₁;
      halts = λ r is. absurd (cc is);
    }

pub returns-in-Ok-clause-stands : goal.returns-in-Ok-clause-stands
returns-in-Ok-clause-stands g c =
    let q = (g.K.Store.state c.in-Ok.pipeline.flusher.store).stored in
    let same = lives (first q) c.in-Ok.pipeline (c.in-Ok.ensures.«open» q [] q.panel.count refl (omega arith)).fits in
    (ap Some same, ap (λ (x : Condensed). x ∷ []) same)

pub returns-in-Ok-clause-world : goal.returns-in-Ok-clause-world
returns-in-Ok-clause-world g c =
    let q = (g.K.Store.state c.in-Ok.pipeline.flusher.store).stored in
    (refl, (c.in-Ok.ensures.«open» q [] q.panel.count refl (omega arith), idle_first q))
