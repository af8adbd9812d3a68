-- What becomes of a request, in the words of a backend.
use Rattle.std.proofs.Common.{◌≡◌, ◌≤◌, ◌∙◌, ◌++◌, [], ℕ, length, Result, Ok, Err, refl, ap, arith}
use Rattle.std.proofs.lemmas.List.{append-nil}
use Rattle.alm_types.specs.declared.action.Action.{Action}
use Rattle.alm_types.specs.declared.want.Want.{Want}
use Rattle.alm_types.specs.declared.refusal.Refusal.{Refusal}
use Rattle.alm_types.specs.declared.request.Request.{Request}
use Rattle.alm_types.specs.declared.verdict.Verdict.{Verdict}
use Rattle.alm_types.specs.declared.verdict.Verdict.TheVariants.{Accepted, Refused}
use Rattle.alm_model.specs.Accept.{accept}
use Rattle.alm_model.specs.Plant.{Condensed}
use Rattle.alm_model.specs.Judging.{verdict_from, verdict_of, after_verdict, when_accepted}
use Rattle.alm_model.specs.Step.{run}
use Rattle.alm_model.proofs.Runs.{run_append, step_count}
use Rattle.alm_desk.specs.Backends.{judged_on, judged_by, if_accepted}
use Rattle.alm_desk.specs.declared.judged_request.JudgedRequest.{JudgedRequest}
use Rattle.alm_pipeline.specs.World.{World, live}
use Rattle.alm_stack.specs.Exchanges.{handed_in}

after_from : (q : Condensed) (n : ℕ) (r : Result Action Refusal) → after_verdict q (verdict_from n r) ≡ if_accepted q r
after_from q n (Ok a) = refl
after_from q n (Err why) = refl

pub after_is : (q : Condensed) (r : Request) → after_verdict q (verdict_of q r) ≡ if_accepted q (accept q.panel r)
unfolding verdict_of
after_is q r = after_from q q.panel.count (accept q.panel r)

judged_from : (q : Condensed) (r : Result Action Refusal)
    → let j : JudgedRequest = record { verdict = verdict_from q.panel.count r; number = (after_verdict q (verdict_from q.panel.count r)).panel.count } in j ≡ judged_by q.panel.count r
judged_from q (Ok a) = ap (λ (n : ℕ). let j : JudgedRequest = record { verdict = Accepted a; number = n } in j) (step_count q a)
judged_from q (Err why) = refl

pub judged_is : (q : Condensed) (r : Request)
    → let j : JudgedRequest = record { verdict = verdict_of q r; number = (after_verdict q (verdict_of q r)).panel.count } in j ≡ judged_on q r
unfolding verdict_of
judged_is q r = judged_from q (accept q.panel r)

pub few_accepted : (v : Verdict) → length (when_accepted v) ≤ 256
few_accepted (Accepted a) = omega arith
few_accepted (Refused why n) = omega arith

pub few_entry : (v : Verdict) → length (when_accepted v ++ []) ≤ 256
few_entry v = omega (arith, ap length (append-nil (when_accepted v)), few_accepted v)

pub run_one : (q : Condensed) (v : Verdict) → run q (when_accepted v) ≡ after_verdict q v
run_one q (Accepted a) = refl
run_one q (Refused why n) = refl

-- the plant with a request's action, if it was accepted
pub live_after : (w : World) (slot : ℕ) (want : Want) (v : Verdict) → live (handed_in w slot want v) ≡ after_verdict (live w) v
live_after w slot want v = run_append w.base w.accepted (when_accepted v ++ []) ∙ (ap (run (live w)) (append-nil (when_accepted v)) ∙ run_one (live w) v)
