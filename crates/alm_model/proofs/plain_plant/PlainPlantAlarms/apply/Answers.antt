use Rattle.std.proofs.Common.{◌≡◌, ◌∙◌, ap, sym, subst, None}
use Rattle.alm_model.specs.Accept.{refusal}
use Rattle.alm_model.specs.Plant.{Condensed}
use Rattle.alm_model.specs.Rules.{KeepsRules}
use Rattle.alm_model.proofs.Kept.{step-keeps}
use Rattle.alm_model.proofs.plain_plant.PlainPlantAlarms.apply.Goals as goal

pub invariant_of-self : goal.invariant_of-self
invariant_of-self c =
    let admitted : refusal c.self.inside.rows.panel c.args.action.now ≡ None = ap (λ (q : Condensed). refusal q.panel c.args.action.now) c.self.view_is ∙ c.requires in (
      subst KeepsRules (sym c.apply.ensures.plant) (step-keeps c.self.inside.rows c.args.action.now c.self.invariant.0 c.apply.ensures.timely admitted),
      c.apply.ensures.room ∙ c.self.invariant.1 ∙ sym c.apply.ensures.rows,
    )
