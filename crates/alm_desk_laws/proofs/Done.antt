-- The plant of a desk is the one that it began with, after what its lines have done.
use Rattle.std.proofs.Common.{◌≡◌, ℕ, ◌+◌, List, [], ◌∷◌, ◌++◌, Option, Some, None, Ok, Err, length, refl, sym, ap, ◌∙◌, subst, arith}
use Rattle.std.specs.Prelude.{Result}
use Rattle.std.proofs.lemmas.Option.{none-some, same_Some}
use Rattle.alm_types.specs.declared.action.Action.{Action}
use Rattle.alm_types.specs.declared.request.Request.{Request}
use Rattle.alm_types.specs.declared.refusal.Refusal.{Refusal}
use Rattle.alm_types.specs.declared.verdict.Verdict.TheVariants.{Accepted}
use Rattle.alm_types.specs.Wants.{wanted_action}
use Rattle.alm_types.specs.Tables.{Listing}
use Rattle.alm_model.specs.Plant.{Condensed}
use Rattle.alm_model.specs.Accept.{accept}
use Rattle.alm_model.specs.Judging.{verdict_of, verdict_from}
use Rattle.alm_model.specs.New.{new_plant}
use Rattle.alm_model.specs.Rules.{AreAdmitted, IsTimely}
use Rattle.alm_model.specs.Step.{run}
use Rattle.alm_model.proofs.Runs.{run_append, run_count, admitted_join}
use Rattle.alm_model.proofs.Legal.{accepted_is}
use Rattle.alm_lines.specs.declared.ask.Ask.{Ask}
use Rattle.alm_lines.specs.declared.ask.Ask.TheVariants.{Act, Look, Recall, Bad}
use Rattle.alm_desk.specs.Answers.{DeskState, AnsweredLine, request, after_line, after_lines, plant_after, ask_after}
use Rattle.alm_desk.specs.Backends.{if_accepted}
use Rattle.alm_desk.specs.declared.hindrance.Hindrance.{Hindrance}
use Rattle.alm_desk.specs.declared.hindrance.Hindrance.TheVariants as hindrance
use Rattle.alm_desk_laws.specs.Done.{accepted_action, done_at, done_on, done, HasAnswered}
use Rattle.alm_desk_laws.proofs.Timely.{IsTimelyAsk, AreTimely, read-timely}

-- a plant is another one after actions that it admits
abbrev Goes : Condensed → List Action → Condensed → Type 0
Goes q actions p = (p ≡ run q actions) × AreAdmitted q actions

goes-on : (q m p : Condensed) (xs ys : List Action) → Goes q xs m → Goes m ys p → Goes q (xs ++ ys) p
goes-on q m p xs ys f g =
    let second : AreAdmitted (run q xs) ys = subst (λ k. AreAdmitted k ys) f.0 g.1 in
    (g.0 ∙ ap (λ k. run k ys) f.0 ∙ sym (run_append q xs ys), admitted_join q xs ys f.1 second)

taken : (q : Condensed) (r : Request) (a : Action) → accept q.panel r ≡ Ok a → verdict_of q r ≡ Accepted a
unfolding verdict_of
taken q r a e = ap (verdict_from q.panel.count) e

judged : (q : Condensed) (r : Request) (o : Result Action Refusal) → accept q.panel r ≡ o → IsTimely (wanted_action r) → Goes q (accepted_action o) (if_accepted q o)
judged q r (Ok a) e timely =
    let is = accepted_is q r a (taken q r a e) in
    (refl, (subst IsTimely is.0 timely, is.1, tt))
judged q r (Err why) e timely = (refl, tt)

-- a line that is answered goes by what it does
goes-by : (q : Condensed) (slot : ℕ) (ask : Ask) (c : Hindrance) (p : Condensed) → IsTimelyAsk ask → ask_after q slot ask c ≡ Some p → Goes q (done_at q slot ask c) p
goes-by q slot (Act want) hindrance.Stopped p timely e = absurd (none-some p e)
goes-by q slot (Act want) hindrance.Nothing p timely e = subst (Goes q _) (same_Some _ _ e) (judged q (request slot want) (accept q.panel (request slot want)) refl timely)
goes-by q slot (Act want) hindrance.NoMemory p timely e = subst (Goes q _) (same_Some _ _ e) (judged q (request slot want) (accept q.panel (request slot want)) refl timely)
goes-by q slot (Look query) c p timely e = subst (Goes q []) (same_Some _ _ e) (refl, tt)
goes-by q slot (Recall after) c p timely e = subst (Goes q []) (same_Some _ _ e) (refl, tt)
goes-by q slot (Bad why) c p timely e = subst (Goes q []) (same_Some _ _ e) (refl, tt)

-- a desk whose storage has stopped has no plant any more
never : (s : DeskState) (lines : List AnsweredLine) (p : Condensed) → s.plant ≡ None → (after_lines s lines).plant ≡ Some p → ⊥
never s [] p none e = none-some p (sym none ∙ e)
never s (m ∷ ms) p none e = never (after_line s m) ms p (ap (λ o. plant_after o m.asked m.hindrance) none) e

module _ (s : DeskState) (m : AnsweredLine) (ms : List AnsweredLine) (q p : Condensed) (here : s.plant ≡ Some q) (timely : AreTimely (m ∷ ms)) where
  first-done : done_on s.plant m.asked m.hindrance ≡ done_at q m.asked.slot m.asked.line.ask m.hindrance
  first-done = ap (λ o. done_on o m.asked m.hindrance) here

  plant-then : (after_line s m).plant ≡ ask_after q m.asked.slot m.asked.line.ask m.hindrance
  plant-then = ap (λ o. plant_after o m.asked m.hindrance) here

-- the plant after the first line, and what is known of the rest
after-first : (s : DeskState) (m : AnsweredLine) (ms : List AnsweredLine) (q p : Condensed) (here : s.plant ≡ Some q) → AreTimely (m ∷ ms) → (after_lines (after_line s m) ms).plant ≡ Some p
    → (o : Option Condensed) → (after_line s m).plant ≡ o → ((k : Condensed) → (after_line s m).plant ≡ Some k → Goes k (done (after_line s m) ms) p) → Goes q (done s (m ∷ ms)) p
after-first s m ms q p here timely e None is rest = absurd (never (after_line s m) ms p is e)
after-first s m ms q p here timely e (Some k) is rest =
    let by = goes-by q m.asked.slot m.asked.line.ask m.hindrance k timely.0 (sym (plant-then s m ms q p here timely) ∙ is) in
    subst (λ xs. Goes q (xs ++ done (after_line s m) ms) p) (sym (first-done s m ms q p here timely)) (goes-on q k p _ _ by (rest k is))

-- what is known of the plant after the lines
all-done : (s : DeskState) (lines : List AnsweredLine) (q p : Condensed) → s.plant ≡ Some q → AreTimely lines → (after_lines s lines).plant ≡ Some p → Goes q (done s lines) p
all-done s [] q p here timely e = subst (Goes q []) (same_Some _ _ (sym here ∙ e)) (refl, tt)
all-done s (m ∷ ms) q p here timely e =
    after-first s m ms q p here timely e (after_line s m).plant refl (λ k is. all-done (after_line s m) ms k p is timely.1 e)

pub plant-done : (t : Listing) (s : DeskState) (lines : List AnsweredLine) (q : Condensed) → HasAnswered t s lines q → (q ≡ run (new_plant t) (done s lines)) × AreAdmitted (new_plant t) (done s lines)
plant-done t s lines q h = all-done s lines (new_plant t) q h.begun (read-timely lines h.helds h.bytes h.read) h.stands

pub count-done : (t : Listing) (s : DeskState) (lines : List AnsweredLine) (q : Condensed) → HasAnswered t s lines q → q.panel.count ≡ length (done s lines)
count-done t s lines q h =
    let total : q.panel.count ≡ 0 + length (done s lines) = ap (λ k. k.panel.count) (plant-done t s lines q h).0 ∙ run_count (new_plant t) (done s lines) in
    omega (arith, total)
