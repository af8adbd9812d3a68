-- What was reported before an outage is there after it.
use Rattle.std.proofs.Common.{◌≡◌, ◌++◌, ℕ, List, [], ◌∷◌, sym, subst}
use Rattle.std.proofs.Props.{props}
use Rattle.std.proofs.Math.Logic.{∥∥₁_elim, ∥∥₁_map}
use mathlib.Core.List.{IsPrefix}
use Rattle.alm_types.specs.declared.action.Action.{Action}
use Rattle.alm_model.specs.Plant.{Condensed}
use Rattle.alm_model.specs.Step.{run}
use Rattle.alm_moments.proofs.Courses.{stays}
use Rattle.alm_threads.specs.Outages.{ByOutage, KeepsReported, Outage, Outages}

module _ (recovers : List ℕ → Condensed → Type 0) where
  after_one : (base : Condensed) (one : ByOutage) (next : Condensed) → Outage recovers base one next
      → ∥ ((others : List Action) × (next ≡ run base (one.told ++ others)) × IsPrefix (one.told ++ others) one.accepted) ∥₁
  after_one base one next o =
      ∥∥₁_map ((stays (Unit {0}) recovers base o.first o.seen one.told o.held o.moments o.before (λ _. ∣ o.course ∣₁) tt o.image o.left).1 next o.stands)
      (λ more. (more.0, more.1, subst (λ (l : List Action). IsPrefix (one.told ++ more.0) l) (sym o.accepted_is) more.2))

  pub outlasts : (base last : Condensed) (runs : List ByOutage) → Outages recovers base runs last → ∥ KeepsReported base runs last ∥₁
  outlasts base last [] same = ∣ same ∣₁
  outlasts base last (one ∷ runs) o =
      ∥∥₁_elim (after_one base one o.0 o.1) (hlevel props) (λ first.
      ∥∥₁_map (outlasts o.0 last runs o.2) (λ rest. (first.0, first.2, subst (λ (q : Condensed). KeepsReported q runs last) first.1 rest)))
