-- As many actions are admitted as there are numbers.
use Rattle.std.proofs.Common.{◌≡◌, ◌+◌, ◌<◌, ◌≤◌, Bool, true, false, List, [], ◌∷◌, length, arith, Option, Some, None, refl}
use Rattle.std.specs.Prelude.{nat_lt}
use Rattle.std.proofs.lemmas.Bool.{ltb-true}
use Rattle.std.proofs.lemmas.List.{length-map}
use Rattle.alm_types.specs.declared.action.Action.{Action}
use Rattle.alm_types.specs.declared.logged_action.LoggedAction.{LoggedAction}
use Rattle.alm_types.specs.declared.refusal.Refusal.{Refusal}
use Rattle.alm_types.specs.declared.refusal.Refusal.TheVariants.{Exhausted}
use Rattle.alm_types.specs.Sizes.{most_actions}
use Rattle.alm_state.specs.Outcome.{or_else, unless}
use Rattle.alm_model.specs.Plant.{Condensed, Panel}
use Rattle.alm_model.specs.Accept.{own_refusal, refusal}
use Rattle.alm_model.specs.Judging.{logged_actions}
use Rattle.alm_model.specs.Rules.{AllAdmitted}
use Rattle.alm_model.specs.Step.{step}
use Rattle.alm_model.proofs.Runs.{step_count}

later : (o p : Option Refusal) → or_else o p ≡ None → p ≡ None
later None p none = none
later (Some r) p none = absurd (cc none)

left : (b : Bool) → unless b Exhausted ≡ None → b ≡ true
left true none = refl
left false none = absurd (cc none)

room : (p : Panel) (a : Action) → refusal p a ≡ None → p.count < most_actions
room p a none = ltb-true p.count most_actions (left (nat_lt p.count most_actions) (later (own_refusal p a) (unless (nat_lt p.count most_actions) Exhausted) none))

-- the number of the last of them is one that a plant has
counted : (q : Condensed) (a : Action) (actions : List Action) → AllAdmitted q (a ∷ actions) → q.panel.count + length (a ∷ actions) ≤ most_actions
counted q a [] all = omega (arith, room q.panel a all.0)
counted q a (b ∷ actions) all = omega (arith, step_count q a, counted (step q a) b actions all.1)

admitted_most : (q : Condensed) (actions : List Action) → AllAdmitted q actions → length actions ≤ most_actions
admitted_most q [] all = omega arith
admitted_most q (a ∷ actions) all = omega (arith, counted q a actions all)

pub logged_most : (q : Condensed) (logged : List LoggedAction) → AllAdmitted q (logged_actions logged) → length logged ≤ most_actions
logged_most q logged all = omega (arith, admitted_most q (logged_actions logged) all, length-map logged (λ l. l.action))
