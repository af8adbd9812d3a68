-- Which receipts answer which requests.
use Rattle.std.specs.Prelude.{◌≡◌, ℕ, ◌-◌, List, Some, slice_get}
use Rattle.alm_types.specs.declared.action.Action.{Action}
use Rattle.alm_types.specs.declared.logged_action.LoggedAction.{LoggedAction}
use Rattle.alm_types.specs.declared.verdict.Verdict.{Verdict}
use Rattle.alm_types.specs.declared.verdict.Verdict.TheVariants.{Accepted, Refused}
use Rattle.alm_types.specs.Wants.{action_of}
use Rattle.alm_session.specs.declared.unanswered.Unanswered.{Unanswered}

-- a receipt, with the list that it reports, and how many actions there were before that list
pub record Heard : Type 0 where
  pub slot : ℕ
  pub serial : ℕ
  pub verdict : Verdict
  pub number : ℕ
  pub opened : ℕ
  pub list : List Action
  pub logged : List LoggedAction

-- what was accepted is what was wanted
abbrev pub IsVerdictOn : Verdict → Action → Type 0
IsVerdictOn (Accepted action) wanted = action ≡ wanted
IsVerdictOn (Refused refusal count) wanted = Unit {0}

-- a receipt is of this request
abbrev pub IsReceiptOf : Unanswered → Heard → Type 0
IsReceiptOf request heard = (heard.slot ≡ request.slot) × (heard.serial ≡ request.serial) × IsVerdictOn heard.verdict (action_of request.want)

-- what was accepted stands at its number in the list that is reported, as that of this request
abbrev pub IsLogged : Verdict → Unanswered → Heard → Type 0
IsLogged (Accepted action) request heard =
    slice_get heard.logged (heard.number - heard.opened - 1) ≡ Some (record { slot = request.slot; serial = request.serial; action = action_of request.want })
IsLogged (Refused refusal count) request heard = Unit {0}

-- so it answers it
abbrev pub IsAnsweredBy : Unanswered → Heard → Type 0
IsAnsweredBy request heard = IsReceiptOf request heard × IsLogged heard.verdict request heard
