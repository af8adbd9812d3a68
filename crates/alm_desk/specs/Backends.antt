-- What a desk runs over.
use Rattle.std.specs.Prelude.{◌≡◌, ℕ, ◌+◌, List, [], ◌∷◌, Option, Some, None, Result}
use Rattle.std.specs.Prelude.{Ok as Good, Err as Wrong}
use Rattle.alm_types.specs.Counts.{one_more}
use Rattle.alm_types.specs.declared.action.Action.{Action}
use Rattle.alm_types.specs.declared.request.Request.{Request}
use Rattle.alm_types.specs.declared.refusal.Refusal.{Refusal}
use Rattle.alm_types.specs.declared.refusal.Refusal.TheVariants as refusal
use Rattle.alm_types.specs.declared.verdict.Verdict.TheVariants.{Accepted, Refused}
use Rattle.alm_types.specs.declared.query.Query.{Query}
use Rattle.alm_types.specs.declared.answer.Answer.{Answer}
use Rattle.alm_model.specs.Plant.{Condensed}
use Rattle.alm_model.specs.Accept.{accept}
use Rattle.alm_model.specs.Step.{step}
use Rattle.alm_model.specs.Look.{IsLook}
use Rattle.alm_desk.specs.declared.judged_request.JudgedRequest.{JudgedRequest}
use Rattle.alm_desk.specs.declared.stopped.Stopped.{Stopped}

-- what becomes of a request, under the count of actions
abbrev pub judged_by : ℕ → Result Action Refusal → JudgedRequest
judged_by count (Good action) = record { verdict = Accepted action; number = count + 1 }
judged_by count (Wrong reason) = record { verdict = Refused reason count; number = count }

abbrev pub judged_on : Condensed → Request → JudgedRequest
judged_on q r = judged_by q.panel.count (accept q.panel r)

abbrev pub if_accepted : Condensed → Result Action Refusal → Condensed
if_accepted q (Good action) = step q action
if_accepted q (Wrong reason) = q

-- a plant judges a request and does its action, or it stops; one that has stopped judges none
abbrev pub IsJudged : Option Condensed → Request → Result JudgedRequest Stopped → Option Condensed → Type 0
IsJudged None r (Good j) new = ⊥
IsJudged (Some q) r (Good j) new = (j ≡ judged_on q r) × (new ≡ Some (if_accepted q (accept q.panel r)))
IsJudged old r (Wrong e) new = new ≡ None

-- the plants of which a storage holds one, after a request. That is the plant alone; if the storage stopped in it, the
-- plant before, without the request's own action or with it
abbrev pub kept_by : Option Condensed → List Condensed → Request → Result JudgedRequest Stopped → List Condensed
kept_by None kept r result = kept
kept_by (Some q) kept r (Good j) = if_accepted q (accept q.panel r) ∷ []
kept_by (Some q) kept r (Wrong e) = q ∷ if_accepted q (accept q.panel r) ∷ []

-- a plant stops if a failure is counted, and nothing else is counted
abbrev pub CountsStop : Option Condensed → Result JudgedRequest Stopped → ℕ → ℕ → Type 0
CountsStop (Some q) (Wrong e) old new = new ≡ one_more old
CountsStop (Some q) (Good j) old new = new ≡ old
CountsStop None result old new = new ≡ old

-- the moment of a plant, if it has not stopped
abbrev pub IsMomentOf : Option Condensed → ℕ → Type 0
IsMomentOf None moment = Unit {0}
IsMomentOf (Some q) moment = moment ≡ q.panel.now

-- a plant answers a query; one that has stopped answers none
abbrev pub IsAsked : Option Condensed → Query → Answer → Answer → Result ℕ Refusal → Type 0
IsAsked None query before after result = (result ≡ Wrong refusal.Stopped) × (after ≡ before)
IsAsked (Some q) query before after result = IsLook q query before after result
