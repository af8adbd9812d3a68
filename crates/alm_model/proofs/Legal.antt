-- Laws of runs, and of legal histories.
use Rattle.std.proofs.Common.{◌≡◌, ◌+◌, ◌<◌, ℕ, false, List, [], ◌∷◌, ◌++◌, length, take, drop, get_or, refl, sym, ◌∙◌, ap, subst, arith, zero, suc, cond, ◌≢◌, inl, inr, eq-eqb, append_assoc, length-append, Option, Some, None, Result, Ok, Err}
use Rattle.std.specs.Prelude.{◌==◌}
use Rattle.std.specs.List.{range_with_len}
use Rattle.std.proofs.lemmas.Bool.{cases_Bool, eqb-true}
use Rattle.std.proofs.lemmas.List.{take_more, take-append-drop, append-nil, map-append, length-map}
use Rattle.std.proofs.lemmas.List.Elements.{filter-append}
use Rattle.alm_types.specs.declared.action.Action.{Action}
use Rattle.alm_types.specs.declared.request.Request.{Request}
use Rattle.alm_types.specs.declared.refusal.Refusal.{Refusal}
use Rattle.alm_types.specs.declared.verdict.Verdict.{Verdict}
use Rattle.alm_types.specs.declared.verdict.Verdict.TheVariants.{Accepted, Refused}
use Rattle.alm_types.specs.declared.entry.Entry.{Entry}
use Rattle.alm_types.specs.Batches.{Judged}
use Rattle.alm_types.specs.Wants.{wanted_action}
use Rattle.alm_types.specs.declared.logged_action.LoggedAction.{LoggedAction}
use Rattle.alm_state.specs.Outcome.{or_else}
use Rattle.alm_model.specs.Plant.{Condensed}
use Rattle.alm_model.specs.Accept.{accept, answer, refusal}
use Rattle.alm_model.specs.Step.{step, run}
use Rattle.alm_model.specs.Rules.{AllAdmitted}
use Rattle.alm_model.specs.Judging.{verdict_from, verdict_of, after_verdict, when_accepted, accepted_of, logged_if, logged_of, logged_actions, request_of, requests_of, verdicts_of, verdicts_on, IsLegal, of_slot, wants_of, serials_of, entries_in, firsts_of, firsts_from}
use Rattle.alm_model.proofs.Runs.{run_count, run_append}

-- runs
pub admitted_append : (q : Condensed) (xs ys : List Action) → AllAdmitted q (xs ++ ys) → AllAdmitted (run q xs) ys
admitted_append q [] ys all = all
admitted_append q (a ∷ xs) ys all = admitted_append (step q a) xs ys all.1

pub admitted_front : (q : Condensed) (xs ys : List Action) → AllAdmitted q (xs ++ ys) → AllAdmitted q xs
admitted_front q [] ys all = tt
admitted_front q (a ∷ xs) ys all = (all.0, admitted_front (step q a) xs ys all.1)

pub admitted_both : (q : Condensed) (xs ys : List Action) → AllAdmitted q xs → AllAdmitted (run q xs) ys → AllAdmitted q (xs ++ ys)
admitted_both q [] ys all more = more
admitted_both q (a ∷ xs) ys all more = (all.0, admitted_both (step q a) xs ys all.1 more)

-- lists of entries
pub accepted_append : (xs ys : List Entry) → accepted_of (xs ++ ys) ≡ accepted_of xs ++ accepted_of ys
accepted_append [] ys = refl
accepted_append (e ∷ xs) ys = ap (λ l. when_accepted e.verdict ++ l) (accepted_append xs ys) ∙ sym (append_assoc (when_accepted e.verdict) (accepted_of xs) (accepted_of ys))

pub accepted_snoc : (xs : List Entry) (e : Entry) → accepted_of (xs ++ e ∷ []) ≡ accepted_of xs ++ when_accepted e.verdict
accepted_snoc xs e = accepted_append xs (e ∷ []) ∙ ap (λ l. accepted_of xs ++ l) (append-nil (when_accepted e.verdict))

pub logged_append : (xs ys : List Entry) → logged_of (xs ++ ys) ≡ logged_of xs ++ logged_of ys
logged_append [] ys = refl
logged_append (e ∷ xs) ys = ap (λ l. logged_if e.slot e.serial e.verdict ++ l) (logged_append xs ys) ∙ sym (append_assoc (logged_if e.slot e.serial e.verdict) (logged_of xs) (logged_of ys))

pub logged_snoc : (xs : List Entry) (e : Entry) → logged_of (xs ++ e ∷ []) ≡ logged_of xs ++ logged_if e.slot e.serial e.verdict
logged_snoc xs e = logged_append xs (e ∷ []) ∙ ap (λ l. logged_of xs ++ l) (append-nil (logged_if e.slot e.serial e.verdict))

pub actions_append : (xs ys : List LoggedAction) → logged_actions (xs ++ ys) ≡ logged_actions xs ++ logged_actions ys
actions_append xs ys = map-append (λ l. l.action) xs ys

logged_one : (slot serial : ℕ) (v : Verdict) → logged_actions (logged_if slot serial v) ≡ when_accepted v
logged_one slot serial (Accepted a) = refl
logged_one slot serial (Refused r n) = refl

-- without their requests they are the accepted actions
pub actions_logged : (xs : List Entry) → logged_actions (logged_of xs) ≡ accepted_of xs
actions_logged [] = refl
actions_logged (e ∷ xs) =
    actions_append (logged_if e.slot e.serial e.verdict) (logged_of xs) ∙ ap (λ l. l ++ logged_actions (logged_of xs)) (logged_one e.slot e.serial e.verdict) ∙ ap (λ l. when_accepted e.verdict ++ l) (actions_logged xs)

pub logged_length : (xs : List Entry) → length (logged_of xs) ≡ length (accepted_of xs)
logged_length xs = sym (length-map (logged_of xs) (λ l. l.action)) ∙ ap length (actions_logged xs)

pub verdicts_append : (xs ys : List Entry) → verdicts_of (xs ++ ys) ≡ verdicts_of xs ++ verdicts_of ys
verdicts_append [] ys = refl
verdicts_append (e ∷ xs) ys = ap (λ l. e.verdict ∷ l) (verdicts_append xs ys)

pub entries_append : (xs ys : List Judged) → entries_in (xs ++ ys) ≡ entries_in xs ++ entries_in ys
entries_append [] ys = refl
entries_append (b ∷ xs) ys = ap (λ l. b.entries ++ l) (entries_append xs ys) ∙ sym (append_assoc b.entries (entries_in xs) (entries_in ys))

pub entries_snoc : (xs : List Judged) (b : Judged) → entries_in (xs ++ b ∷ []) ≡ entries_in xs ++ b.entries
entries_snoc xs b = entries_append xs (b ∷ []) ∙ ap (λ l. entries_in xs ++ l) (append-nil b.entries)

-- a verdict is of the request that was judged
answer_ok : (x a : Action) (o : Option Refusal) → answer x o ≡ Ok a → (x ≡ a) × (o ≡ None)
answer_ok x a None h = (cc h, refl)
answer_ok x a (Some r) h = absurd (cc h)

later_none : (o p : Option Refusal) → or_else o p ≡ None → p ≡ None
later_none None p h = h
later_none (Some r) p h = absurd (cc h)

first_none : (o p : Option Refusal) → or_else o p ≡ None → o ≡ None
first_none None p h = refl
first_none (Some r) p h = absurd (cc h)

from_ok : (n : ℕ) (r : Result Action Refusal) (a : Action) → verdict_from n r ≡ Accepted a → r ≡ Ok a
from_ok n (Ok b) a h = cc h
from_ok n (Err e) a h = absurd (cc h)

pub accepted_is : (q : Condensed) (r : Request) (a : Action) → verdict_of q r ≡ Accepted a → (wanted_action r ≡ a) × (refusal q.panel a ≡ None)
unfolding verdict_of
accepted_is q r a h =
    let ok = answer_ok (wanted_action r) a _ (from_ok q.panel.count (accept q.panel r) a h) in
    (ok.0, ap (refusal q.panel) (sym ok.0) ∙ first_none _ _ (later_none _ _ ok.1))

step_of : (q : Condensed) (v : Verdict) → run q (when_accepted v) ≡ after_verdict q v
step_of q (Accepted a) = refl
step_of q (Refused r n) = refl

-- the plant after one entry more
pub run_snoc : (base : Condensed) (entries : List Entry) (e : Entry) → run base (accepted_of (entries ++ e ∷ [])) ≡ after_verdict (run base (accepted_of entries)) e.verdict
run_snoc base entries e =
    ap (run base) (accepted_snoc entries e)
    ∙ (run_append base (accepted_of entries) (when_accepted e.verdict) ∙ step_of (run base (accepted_of entries)) e.verdict)

-- one entry more, judged on the plant of the accepted actions before it
pub legal_snoc : (base : Condensed) (entries : List Entry) (e : Entry) → IsLegal base entries → e.verdict ≡ verdict_of (run base (accepted_of entries)) (request_of e) → IsLegal base (entries ++ e ∷ [])
legal_snoc base [] e legal is = ap (λ v. v ∷ []) is
legal_snoc base (x ∷ entries) e legal is =
    let first : x.verdict ≡ verdict_of base (request_of x) = cc legal in
    let rest : verdicts_of entries ≡ verdicts_on (after_verdict base (verdict_of base (request_of x))) (requests_of entries) = cc legal in
    let plant : run base (accepted_of (x ∷ entries)) ≡ run (after_verdict base (verdict_of base (request_of x))) (accepted_of entries) =
    run_append base (when_accepted x.verdict) (accepted_of entries)
    ∙ ap (λ p. run p (accepted_of entries)) (step_of base x.verdict ∙ ap (after_verdict base) first) in
    let more = legal_snoc (after_verdict base (verdict_of base (request_of x))) entries e rest (is ∙ ap (λ p. verdict_of p (request_of e)) plant) in
    cc (first, more)

admitted_step : (q : Condensed) (r : Request) (v : Verdict) (rest : List Action) → v ≡ verdict_of q r → AllAdmitted (after_verdict q v) rest → AllAdmitted q (when_accepted v ++ rest)
admitted_step q r (Accepted b) rest is all = ((accepted_is q r b (sym is)).1, all)
admitted_step q r (Refused e n) rest is all = all

-- each accepted action of a legal history is admitted at its turn
pub legal_admitted : (base : Condensed) (entries : List Entry) → IsLegal base entries → AllAdmitted base (accepted_of entries)
legal_admitted base [] legal = tt
legal_admitted base (x ∷ entries) legal =
    let first : x.verdict ≡ verdict_of base (request_of x) = cc legal in
    let rest : verdicts_of entries ≡ verdicts_on (after_verdict base x.verdict) (requests_of entries) = cc (legal, first) in
    admitted_step base (request_of x) x.verdict (accepted_of entries) first (legal_admitted (after_verdict base x.verdict) entries rest)

-- the actions up to entry k, inclusive
pub accepted_take : (xs : List Entry) (k : ℕ) (d : Entry) → k < length xs → accepted_of (take (k + 1) xs) ≡ accepted_of (take k xs) ++ when_accepted (get_or xs k d).verdict
accepted_take xs k d less = ap accepted_of (take_more xs k d less) ∙ accepted_snoc (take k xs) (get_or xs k d)

-- an accepted action of these entries is admitted at its turn
pub admitted_at : (p : Condensed) (xs : List Entry) (k : ℕ) (d : Entry) (a : Action) → k < length xs → (get_or xs k d).verdict ≡ Accepted a → AllAdmitted p (accepted_of xs) → refusal (run p (accepted_of (take k xs))).panel a ≡ None
admitted_at p xs k d a less is all =
    let front : accepted_of (take (k + 1) xs) ≡ accepted_of (take k xs) ++ a ∷ [] = accepted_take xs k d less ∙ ap (λ v. accepted_of (take k xs) ++ when_accepted v) is in
    let whole : accepted_of xs ≡ accepted_of (take k xs) ++ (a ∷ accepted_of (drop (k + 1) xs)) =
    ap accepted_of (sym (take-append-drop (k + 1) xs)) ∙ (accepted_append (take (k + 1) xs) (drop (k + 1) xs)
    ∙ (ap (λ l. l ++ accepted_of (drop (k + 1) xs)) front ∙ append_assoc (accepted_of (take k xs)) (a ∷ []) (accepted_of (drop (k + 1) xs)))) in
    (admitted_append p (accepted_of (take k xs)) (a ∷ accepted_of (drop (k + 1) xs)) (subst (AllAdmitted p) whole all)).0

pub take_accepted : (xs : List Entry) (k : ℕ) (d : Entry) (a : Action) → k < length xs → (get_or xs k d).verdict ≡ Accepted a → accepted_of (take (k + 1) xs) ≡ accepted_of (take k xs) ++ a ∷ []
take_accepted xs k d a less is = accepted_take xs k d less ∙ ap (λ v. accepted_of (take k xs) ++ when_accepted v) is

pub take_refused : (xs : List Entry) (k : ℕ) (d : Entry) (r : Refusal) (n : ℕ) → k < length xs → (get_or xs k d).verdict ≡ Refused r n → accepted_of (take (k + 1) xs) ≡ accepted_of (take k xs)
take_refused xs k d r n less is = accepted_take xs k d less ∙ (ap (λ v. accepted_of (take k xs) ++ when_accepted v) is ∙ append-nil (accepted_of (take k xs)))

-- the same, with the requests
logged_take : (xs : List Entry) (k : ℕ) (d : Entry) → k < length xs → d ≡ get_or xs k d → logged_of (take (k + 1) xs) ≡ logged_of (take k xs) ++ logged_if d.slot d.serial d.verdict
logged_take xs k d less is =
    ap logged_of (take_more xs k d less) ∙ (logged_snoc (take k xs) (get_or xs k d) ∙ ap (λ e. logged_of (take k xs) ++ logged_if e.slot e.serial e.verdict) (sym is))

pub logged_accepted : (xs : List Entry) (k : ℕ) (d : Entry) (a : Action) → k < length xs → d ≡ get_or xs k d → d.verdict ≡ Accepted a → logged_of (take (k + 1) xs) ≡ logged_of (take k xs) ++ record { slot = d.slot; serial = d.serial; action = a } ∷ []
logged_accepted xs k d a less here is = logged_take xs k d less here ∙ ap (λ v. logged_of (take k xs) ++ logged_if d.slot d.serial v) is

pub logged_refused : (xs : List Entry) (k : ℕ) (d : Entry) (r : Refusal) (n : ℕ) → k < length xs → d ≡ get_or xs k d → d.verdict ≡ Refused r n → logged_of (take (k + 1) xs) ≡ logged_of (take k xs)
logged_refused xs k d r n less here is = logged_take xs k d less here ∙ (ap (λ v. logged_of (take k xs) ++ logged_if d.slot d.serial v) is ∙ append-nil (logged_of (take k xs)))

-- entries of a slot
pub of_slot_append : (s : ℕ) (xs ys : List Entry) → of_slot s (xs ++ ys) ≡ of_slot s xs ++ of_slot s ys
of_slot_append s xs ys = filter-append (λ e. e.slot == s) xs ys

pub of_slot_here : (s : ℕ) (xs : List Entry) (e : Entry) → e.slot ≡ s → of_slot s (xs ++ e ∷ []) ≡ of_slot s xs ++ e ∷ []
of_slot_here s xs e is = of_slot_append s xs (e ∷ []) ∙ ap (λ b. of_slot s xs ++ cond b (e ∷ []) []) (eq-eqb e.slot s is)

pub of_slot_there : (s : ℕ) (xs : List Entry) (e : Entry) → s ≢ e.slot → of_slot s (xs ++ e ∷ []) ≡ of_slot s xs
of_slot_there s xs e other =
    let no : (e.slot == s) ≡ false = elim (cases_Bool (e.slot == s)) [ inl t ↦ absurd (other (sym (eqb-true e.slot s t))) | inr f ↦ f ] in
    of_slot_append s xs (e ∷ []) ∙ (ap (λ b. of_slot s xs ++ cond b (e ∷ []) []) no ∙ append-nil (of_slot s xs))

pub range_more : (a n : ℕ) → range_with_len a (suc n) ≡ range_with_len a n ++ (a + n) ∷ []
range_more a zero = let same : a ≡ a + 0 = omega arith in ap (λ (x : ℕ). x ∷ []) same
range_more a (suc n) =
    let same : (a + 1) + n ≡ a + suc n = omega arith in
    ap (λ (l : List ℕ). a ∷ l) (range_more (a + 1) n ∙ ap (λ (x : ℕ). range_with_len (a + 1) n ++ x ∷ []) same)

pub wants_snoc : (xs : List Entry) (e : Entry) → wants_of (xs ++ e ∷ []) ≡ wants_of xs ++ e.want ∷ []
wants_snoc xs e = map-append (λ (e : Entry). e.want) xs (e ∷ [])

pub serials_snoc : (xs : List Entry) (e : Entry) → serials_of (xs ++ e ∷ []) ≡ serials_of xs ++ e.serial ∷ []
serials_snoc xs e = map-append (λ (e : Entry). e.serial) xs (e ∷ [])

-- batches that continue each other
pub firsts_snoc : (n : ℕ) (bs : List Judged) (b : Judged) → firsts_from n (bs ++ b ∷ []) ≡ firsts_from n bs ++ (n + length (accepted_of (entries_in bs))) ∷ []
firsts_snoc n [] b = let same : n ≡ n + 0 = omega arith in ap (λ (x : ℕ). x ∷ []) same
firsts_snoc n (x ∷ bs) b =
    let more = ap length (accepted_append x.entries (entries_in bs)) in
    let same : (n + length (accepted_of x.entries)) + length (accepted_of (entries_in bs)) ≡ n + length (accepted_of (entries_in (x ∷ bs))) = omega (arith, more, length-append (accepted_of x.entries) (accepted_of (entries_in bs))) in
    ap (λ (l : List ℕ). n ∷ l) (firsts_snoc (n + length (accepted_of x.entries)) bs b ∙ ap (λ (y : ℕ). firsts_from (n + length (accepted_of x.entries)) bs ++ y ∷ []) same)

pub firsts_more : (bs : List Judged) (b : Judged) → firsts_of (bs ++ b ∷ []) ≡ firsts_of bs ++ b.first ∷ []
firsts_more [] b = refl
firsts_more (x ∷ bs) b = ap (λ (l : List ℕ). x.first ∷ l) (firsts_more bs b)

-- each begins after all accepted actions before it
pub first_at : (n : ℕ) (before : List Judged) (b : Judged) (after : List Judged) → firsts_of (before ++ (b ∷ after)) ≡ firsts_from n (before ++ (b ∷ after)) → b.first ≡ n + length (accepted_of (entries_in before))
first_at n [] b after same = let is : b.first ≡ n = cc same in omega (arith, is)
first_at n (x ∷ before) b after same =
    let rest : firsts_of (before ++ (b ∷ after)) ≡ firsts_from (n + length (accepted_of x.entries)) (before ++ (b ∷ after)) = cc same in
    omega (arith, first_at (n + length (accepted_of x.entries)) before b after rest, ap length (accepted_append x.entries (entries_in before)), length-append (accepted_of x.entries) (accepted_of (entries_in before)))

-- of a legal history in batches that continue each other, a batch is the next one for the plant of all before it
pub next_batch : (base stored : Condensed) (before : List Judged) (b : Judged) (after : List Judged) → firsts_of (before ++ (b ∷ after)) ≡ firsts_from (base.panel.count + 1) (before ++ (b ∷ after))
    → AllAdmitted base (accepted_of (entries_in (before ++ (b ∷ after)))) → stored ≡ run base (accepted_of (entries_in before)) → (b.first ≡ stored.panel.count + 1) × AllAdmitted stored (accepted_of b.entries)
next_batch base stored before b after same all is =
    let split : accepted_of (entries_in (before ++ (b ∷ after))) ≡ accepted_of (entries_in before) ++ (accepted_of b.entries ++ accepted_of (entries_in after)) =
    ap accepted_of (entries_append before (b ∷ after)) ∙ (accepted_append (entries_in before) (b.entries ++ entries_in after) ∙ ap (λ l. accepted_of (entries_in before) ++ l) (accepted_append b.entries (entries_in after))) in (
      omega (arith, first_at (base.panel.count + 1) before b after same, ap (λ q. q.panel.count) is, run_count base (accepted_of (entries_in before))),
      subst (λ q. AllAdmitted q (accepted_of b.entries)) (sym is) (admitted_front (run base (accepted_of (entries_in before))) (accepted_of b.entries) (accepted_of (entries_in after))
          (admitted_append base (accepted_of (entries_in before)) (accepted_of b.entries ++ accepted_of (entries_in after)) (subst (AllAdmitted base) split all))),
    )
