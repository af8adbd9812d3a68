-- How requests are judged, one after the other, and their results.
use Rattle.std.specs.Prelude.{◌≡◌, ℕ, ◌+◌, ◌==◌, List, [], ◌∷◌, ◌++◌, length, Result, Ok, Err, map}
use Rattle.std.specs.List.{filter}
use Rattle.alm_types.specs.declared.action.Action.{Action}
use Rattle.alm_types.specs.declared.request.Request.{Request}
use Rattle.alm_types.specs.declared.want.Want.{Want}
use Rattle.alm_types.specs.declared.refusal.Refusal.{Refusal}
use Rattle.alm_types.specs.declared.verdict.Verdict.{Verdict}
use Rattle.alm_types.specs.declared.verdict.Verdict.TheVariants.{Accepted, Refused}
use Rattle.alm_types.specs.declared.entry.Entry.{Entry}
use Rattle.alm_types.specs.declared.logged_action.LoggedAction.{LoggedAction}
use Rattle.alm_types.specs.Batches.{Judged}
use Rattle.alm_model.specs.Plant.{Condensed}
use Rattle.alm_model.specs.Accept.{accept}
use Rattle.alm_model.specs.Step.{step}

abbrev pub verdict_from : ℕ → Result Action Refusal → Verdict
verdict_from count (Ok a) = Accepted a
verdict_from count (Err r) = Refused r count

-- what is answered to a request
unfoldable pub verdict_of : Condensed → Request → Verdict
verdict_of q r = verdict_from q.panel.count (accept q.panel r)

-- the plant after a verdict
abbrev pub after_verdict : Condensed → Verdict → Condensed
after_verdict q (Accepted a) = step q a
after_verdict q (Refused r n) = q

abbrev pub when_accepted : Verdict → List Action
when_accepted (Accepted a) = a ∷ []
when_accepted (Refused r n) = []

-- the accepted actions of these entries
abbrev pub accepted_of : List Entry → List Action
accepted_of [] = []
accepted_of (e ∷ entries) = when_accepted e.verdict ++ accepted_of entries

abbrev pub logged_if : ℕ → ℕ → Verdict → List LoggedAction
logged_if slot serial (Accepted a) = record { slot = slot; serial = serial; action = a } ∷ []
logged_if slot serial (Refused r n) = []

-- the same, each with its request
abbrev pub logged_of : List Entry → List LoggedAction
logged_of [] = []
logged_of (e ∷ entries) = logged_if e.slot e.serial e.verdict ++ logged_of entries

abbrev pub logged_actions : List LoggedAction → List Action
logged_actions logged = map (λ l. l.action) logged

abbrev pub request_of : Entry → Request
request_of e = record { slot = e.slot; want = e.want }

-- what was asked, and what was answered
abbrev pub requests_of : List Entry → List Request
requests_of [] = []
requests_of (e ∷ entries) = request_of e ∷ requests_of entries

abbrev pub verdicts_of : List Entry → List Verdict
verdicts_of [] = []
verdicts_of (e ∷ entries) = e.verdict ∷ verdicts_of entries

-- the answers to these requests, each on the plant of the accepted actions before it
abbrev pub verdicts_on : Condensed → List Request → List Verdict
verdicts_on q [] = []
verdicts_on q (r ∷ requests) = verdict_of q r ∷ verdicts_on (after_verdict q (verdict_of q r)) requests

-- these entries are one legal history of one thread
abbrev pub IsLegal : Condensed → List Entry → Type 0
IsLegal base entries = verdicts_of entries ≡ verdicts_on base (requests_of entries)

-- the entries of a slot
abbrev pub of_slot : ℕ → List Entry → List Entry
of_slot slot entries = filter (λ e. e.slot == slot) entries

abbrev pub wants_of : List Entry → List Want
wants_of entries = map (λ e. e.want) entries

abbrev pub serials_of : List Entry → List ℕ
serials_of entries = map (λ e. e.serial) entries

-- the entries of these batches, one after another
abbrev pub entries_in : List Judged → List Entry
entries_in [] = []
entries_in (batch ∷ batches) = batch.entries ++ entries_in batches

-- the numbers of the batches' first accepted actions
abbrev pub firsts_of : List Judged → List ℕ
firsts_of [] = []
firsts_of (batch ∷ batches) = batch.first ∷ firsts_of batches

-- the first numbers of batches, if the first batch begins with a number and each other continues the one before
abbrev pub firsts_from : ℕ → List Judged → List ℕ
firsts_from n [] = []
firsts_from n (batch ∷ batches) = n ∷ firsts_from (n + length (accepted_of batch.entries)) batches
