-- A receipt that is of a request answers it.
use Rattle.std.proofs.Common.{◌≡◌, ◌-◌, Some, refl, ◌∙◌}
use Rattle.std.specs.Prelude.{slice_get}
use Rattle.alm_types.specs.declared.action.Action.{Action}
use Rattle.alm_types.specs.declared.verdict.Verdict.{Verdict}
use Rattle.alm_types.specs.declared.verdict.Verdict.TheVariants.{Accepted, Refused}
use Rattle.alm_types.specs.Wants.{action_of}
use Rattle.alm_session.specs.Unanswered.{Heard, IsVerdictOn, IsReceiptOf, IsLogged, IsAnsweredBy}
use Rattle.alm_session.specs.declared.unanswered.Unanswered.{Unanswered}

module _ (w : Unanswered) (h : Heard) (names : (a : Action) → h.verdict ≡ Accepted a → slice_get h.logged (h.number - h.opened - 1) ≡ Some (record { slot = h.slot; serial = h.serial; action = a })) (of : IsReceiptOf w h) where
  logged : (v : Verdict) → h.verdict ≡ v → IsVerdictOn v (action_of w.want) → IsLogged v w h
  logged (Accepted a) is same = names a is ∙ (λ i. Some (record { slot = of.0 i; serial = of.1 i; action = same i }))
  logged (Refused why n) is same = tt

  pub answers_it : IsAnsweredBy w h
  answers_it = (of, logged h.verdict refl of.2)
