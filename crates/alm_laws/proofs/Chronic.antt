-- Of two annunciated alarms the one with the smaller stamp has the earlier last annunciation.
use Rattle.std.proofs.Common.{◌≡◌, ◌≢◌, ℕ, ◌<◌, ◌≤◌, true, false, List, [], ◌∷◌, length, Option, Some, None, zero, suc, IsTrue, refl, sym, ap, ◌∙◌, subst, arith, inl, inr, ◌⊎◌, true≢false}
use Rattle.std.specs.Prelude.{slice_get, fold, replicate, nat_lt}
use Rattle.std.proofs.lemmas.Bool.{cases_eq, ltb-true}
use Rattle.std.proofs.lemmas.Option.{none-some, same_Some}
use Rattle.alm_types.specs.declared.attr.Attr.{Attr}
use Rattle.alm_types.specs.declared.action.Action.{Action}
use Rattle.alm_types.specs.declared.action.Action.TheVariants.{Clock, Value, Ack, Reset, Shelve, Unshelve, Oos, Design, SetPriority, SetSetpoint}
use Rattle.alm_types.specs.declared.refusal.Refusal.TheVariants.{ClockBack}
use Rattle.alm_types.specs.Actions.{alarm_of}
use Rattle.alm_types.specs.Tables.{Listing, IsTable}
use Rattle.alm_state.specs.Rows.{State, is_annunciated}
use Rattle.alm_state.specs.Suits.{suits}
use Rattle.alm_state.specs.Outcome.{outcome, row_refusal, without_shelving}
use Rattle.alm_state.specs.declared.outcome.Outcome.{Outcome}
use Rattle.alm_state.specs.declared.outcome.Outcome.TheVariants.{Changed, Annunciated, Shelved}
use Rattle.alm_state.proofs.OutcomeLaws.{IsOutcome, outcome-good}
use Rattle.alm_model.specs.Plant.{Condensed}
use Rattle.alm_model.specs.Accept.{refusal, own_refusal, alarm_refusal}
use Rattle.alm_model.specs.Keeping.{in_brief, change, recent}
use Rattle.alm_model.specs.Lists.{due}
use Rattle.alm_model.specs.New.{new_plant, at_rest}
use Rattle.alm_model.specs.Rules.{KeepsRules, AreAdmitted, IsFalling}
use Rattle.alm_model.specs.Step.{with_outcome, with_touched_alarm, touch, unshelve, later, with_effect, with_one_more, step, run}
use Rattle.alm_model.proofs.Kept.{step-keeps, new-keeps}
use Rattle.alm_model.proofs.Measured.{change-at, change-off}
use Rattle.alm_laws.specs.Alarm.{row_left, annunciates}
use Rattle.alm_laws.specs.Listed.{IsChronological}
use Rattle.alm_laws.proofs.AlarmLaws.{unless-none}
use Rattle.alm_laws.proofs.Asking.{touch-keeps}
use Rattle.alm_laws.proofs.Clocked.{freed, fold-now}
use Rattle.alm_laws.proofs.Moving.{ending, put-here, put-other, touch-stamp, alarm-at, own-first}
use Rattle.alm_laws.proofs.Plants.{outcome-stamp}

-- an annunciated alarm of a later plant was annunciated at its moment, or was so before
abbrev Since : Condensed → Condensed → ℕ → Type 0
Since q p i =
    (t : State) (m : ℕ) (ms : List ℕ) → slice_get p.panel.rows i ≡ Some t → slice_get p.kept.moments i ≡ Some (m ∷ ms) → is_annunciated t.core ≡ true
    → ((m ≡ p.panel.now) × (q.panel.next_stamp ≤ t.stamp))
    ⊎ ((s : State) × (slice_get q.panel.rows i ≡ Some s) × (slice_get q.kept.moments i ≡ Some (m ∷ ms)) × (is_annunciated s.core ≡ true) × (t.stamp ≡ s.stamp))

unchanged : (q p : Condensed) (i : ℕ) → p.panel.rows ≡ q.panel.rows → p.kept.moments ≡ q.kept.moments → Since q p i
unchanged q p i rows moments t m ms row last loud = inr (t, ap (λ l. slice_get l i) (sym rows) ∙ row, ap (λ l. slice_get l i) (sym moments) ∙ last, loud, refl)

then-since : (q r p : Condensed) (i : ℕ) → q.panel.next_stamp ≤ r.panel.next_stamp → r.panel.now ≡ p.panel.now → Since q r i → Since r p i → Since q p i
then-since q r p i up same first second t m ms row last loud = elim (second t m ms row last loud) [
  | inl new ↦ inl (new.0, (let l = new.1 in omega (arith, up, l)))
  | inr (s, before, was, asks, stamp) ↦ elim (first s m ms before was asks) [
    | inl new ↦ inl (new.0 ∙ same, (let l = new.1 in omega (arith, l, stamp)))
    | inr (u, b, w, a, st) ↦ inr (u, b, w, a, stamp ∙ st)
  ]
]

-- ---- one alarm is touched

abbrev head-or : ℕ → List ℕ → ℕ
head-or n [] = n
head-or n (m ∷ ms) = m

-- what an outcome that leaves the alarm annunciated is
abbrev NewOrKept : ℕ → State → Outcome → Type 0
NewOrKept stamp s o =
    is_annunciated (row_left o).core ≡ true
    → ((annunciates o ≡ true) × ((row_left o).stamp ≡ stamp)) ⊎ ((annunciates o ≡ false) × (is_annunciated s.core ≡ true) × ((row_left o).stamp ≡ s.stamp))

good-outcome : (a : Attr) (now stamp : ℕ) (s : State) (o : Outcome) → IsOutcome a now stamp s o → NewOrKept stamp s o
good-outcome a now stamp s (Changed t) good loud = inr (refl, good.annunciated loud, outcome-stamp a now stamp s (Changed t) good refl loud)
good-outcome a now stamp s (Annunciated t) good loud = inl (refl, good.new)
good-outcome a now stamp s (Shelved t) good loud = absurd (true≢false (sym loud ∙ good.quiet))

freed-outcome : (stamp : ℕ) (s : State) → NewOrKept stamp s (without_shelving stamp s)
freed-outcome stamp s loud = inl (freed stamp s loud)

noted : (q : Condensed) (k : ℕ) (o : Outcome) → annunciates o ≡ true → (with_outcome in_brief q k o).kept.moments ≡ change q.kept.moments k (recent q.panel.now)
noted q k (Annunciated t) e = refl
noted q k (Changed t) e = absurd (true≢false (sym e))
noted q k (Shelved t) e = absurd (true≢false (sym e))

unnoted : (q : Condensed) (k : ℕ) (o : Outcome) → annunciates o ≡ false → (with_outcome in_brief q k o).kept.moments ≡ q.kept.moments
unnoted q k (Annunciated t) e = absurd (true≢false e)
unnoted q k (Changed t) e = refl
unnoted q k (Shelved t) e = refl

other-moments : (q : Condensed) (k i : ℕ) (o : Outcome) → k ≢ i → slice_get (with_outcome in_brief q k o).kept.moments i ≡ slice_get q.kept.moments i
other-moments q k i (Annunciated t) d = change-off q.kept.moments k i (recent q.panel.now) d
other-moments q k i (Changed t) d = refl
other-moments q k i (Shelved t) d = refl

put-now : (q : Condensed) (k : ℕ) (o : Outcome) → (with_outcome in_brief q k o).panel.now ≡ q.panel.now
put-now q k (Annunciated t) = refl
put-now q k (Changed t) = refl
put-now q k (Shelved t) = refl

put-since : (q : Condensed) (k i : ℕ) (s : State) (o : Outcome) → slice_get q.panel.rows k ≡ Some s → NewOrKept q.panel.next_stamp s o → Since q (with_outcome in_brief q k o) i
put-since q k i s o before good t m ms row last loud = elim (cases_eq k i) [
  | inr d ↦ inr (t, sym (put-other q k i o d) ∙ row, sym (other-moments q k i o d) ∙ last, loud, refl)
  | inl same ↦
      let here : slice_get (with_outcome in_brief q k o).panel.rows i ≡ Some (row_left o) = subst (λ x. slice_get (with_outcome in_brief q k o).panel.rows x ≡ Some (row_left o)) same (put-here q k s o before) in
      let is : t ≡ row_left o = same_Some _ _ (sym row ∙ here) in
      let stamp : t.stamp ≡ (row_left o).stamp = ap (λ x. x.stamp) is in
      let moments : slice_get (with_outcome in_brief q k o).kept.moments k ≡ Some (m ∷ ms) = subst (λ x. slice_get (with_outcome in_brief q k o).kept.moments x ≡ Some (m ∷ ms)) (sym same) last in
      elim (good (sym (ap (λ x. is_annunciated x.core) is) ∙ loud)) [
        | inl new ↦
            let change = change-at q.kept.moments k (recent q.panel.now) (m ∷ ms) (ap (λ l. slice_get l k) (sym (noted q k o new.0)) ∙ moments) in
            let first : q.panel.now ≡ m = ap (head-or 0) change.2 in
            inl (sym first ∙ sym (put-now q k o), (let e = new.1 in omega (arith, stamp, e)))
        | inr kept ↦ inr (s, subst (λ x. slice_get q.panel.rows x ≡ Some s) same before, ap (λ l. slice_get l i) (sym (unnoted q k o kept.0)) ∙ last, kept.1, stamp ∙ kept.2)
      ]
]

touched-since : (q : Condensed) (k i : ℕ) (f : Attr → State → Outcome) (oa : Option Attr) (os : Option State) → os ≡ slice_get q.panel.rows k
    → ((a : Attr) (s : State) → oa ≡ Some a → os ≡ Some s → NewOrKept q.panel.next_stamp s (f a s)) → Since q (with_touched_alarm in_brief q k f oa os) i
touched-since q k i f (Some a) (Some s) at good = put-since q k i s (f a s) (sym at) (good a s refl refl)
touched-since q k i f (Some a) None at good = unchanged q q i refl refl
touched-since q k i f None os at good = unchanged q q i refl refl

touch-since : (q : Condensed) (k i : ℕ) (f : Attr → State → Outcome) → ((a : Attr) (s : State) → slice_get q.panel.attrs k ≡ Some a → slice_get q.panel.rows k ≡ Some s → NewOrKept q.panel.next_stamp s (f a s))
    → Since q (touch in_brief q k f) i
touch-since q k i f good = touched-since q k i f (slice_get q.panel.attrs k) (slice_get q.panel.rows k) refl good

fold-since : (list : List ℕ) (q : Condensed) (i : ℕ) → Since q (fold (unshelve in_brief) q list) i
fold-since [] q i = unchanged q q i refl refl
fold-since (k ∷ list) q i =
    then-since q (unshelve in_brief q k) (fold (unshelve in_brief) (unshelve in_brief q k) list) i (touch-stamp q k (ending q)) (sym (fold-now list (unshelve in_brief q k)))
    (touch-since q k i (ending q) (λ a s has row. freed-outcome q.panel.next_stamp s)) (fold-since list (unshelve in_brief q k) i)

-- ---- an action

admitted : (q : Condensed) (action : Action) (a : Attr) (s : State) → alarm_refusal action (slice_get q.panel.attrs (alarm_of action)) (slice_get q.panel.rows (alarm_of action)) ≡ None
    → slice_get q.panel.attrs (alarm_of action) ≡ Some a → slice_get q.panel.rows (alarm_of action) ≡ Some s → row_refusal action a s ≡ None
admitted q action a s free has row = sym (ap (λ o. alarm_refusal action o (slice_get q.panel.rows (alarm_of action))) has ∙ ap (alarm_refusal action (Some a)) row) ∙ free

named-since : (q : Condensed) (action : Action) (i : ℕ) → KeepsRules q → alarm_refusal action (slice_get q.panel.attrs (alarm_of action)) (slice_get q.panel.rows (alarm_of action)) ≡ None
    → Since q (touch in_brief (with_one_more q) (alarm_of action) (outcome q.panel.now q.panel.next_stamp action)) i
named-since q action i h free = touch-since (with_one_more q) (alarm_of action) i (outcome q.panel.now q.panel.next_stamp action) (λ a s has row.
    (let at = alarm-at q (alarm_of action) s h row in
    let same : at.attr ≡ a = same_Some _ _ (sym at.has ∙ has) in
    good-outcome a q.panel.now q.panel.next_stamp s _ (outcome-good a q.panel.now q.panel.next_stamp action s (let f = h.first_stamp in omega arith) at.keeps.state (subst (λ x. IsTrue (suits x.latching s.core)) same at.keeps.suits) (admitted q action a s free has row))))

effect-since : (q : Condensed) (action : Action) (i : ℕ) → KeepsRules q → own_refusal q.panel action ≡ None → Since q (with_effect in_brief (with_one_more q) action) i
effect-since q (Clock t) i h free =
    then-since q (later in_brief t (with_one_more q)) (fold (unshelve in_brief) (later in_brief t (with_one_more q)) (due t q.panel)) i (omega arith) (sym (fold-now (due t q.panel) (later in_brief t (with_one_more q))))
    (unchanged q (later in_brief t (with_one_more q)) i refl refl) (fold-since (due t q.panel) (later in_brief t (with_one_more q)) i)
effect-since q (Value j v) i h free = named-since q (Value j v) i h free
effect-since q (Ack j) i h free = named-since q (Ack j) i h free
effect-since q (Reset j) i h free = named-since q (Reset j) i h free
effect-since q (Shelve j n) i h free = named-since q (Shelve j n) i h free
effect-since q (Unshelve j) i h free = named-since q (Unshelve j) i h free
effect-since q (Oos j on) i h free = named-since q (Oos j on) i h free
effect-since q (Design j on) i h free = named-since q (Design j on) i h free
effect-since q (SetPriority j n) i h free = unchanged q (with_effect in_brief (with_one_more q) (SetPriority j n)) i refl refl
effect-since q (SetSetpoint j v) i h free = unchanged q (with_effect in_brief (with_one_more q) (SetSetpoint j v)) i refl refl

effect-later : (q : Condensed) (action : Action) → own_refusal q.panel action ≡ None → q.panel.now ≤ (with_effect in_brief (with_one_more q) action).panel.now
effect-later q (Clock t) free =
    let up : q.panel.now < t = ltb-true q.panel.now t (unless-none (nat_lt q.panel.now t) ClockBack free) in
    let same = fold-now (due t q.panel) (later in_brief t (with_one_more q)) in
    omega (arith, up, same)
effect-later q (Value j v) free = let same = (touch-keeps (with_one_more q) j.0 (outcome q.panel.now q.panel.next_stamp (Value j v))).0 in omega (arith, same)
effect-later q (Ack j) free = let same = (touch-keeps (with_one_more q) j.0 (outcome q.panel.now q.panel.next_stamp (Ack j))).0 in omega (arith, same)
effect-later q (Reset j) free = let same = (touch-keeps (with_one_more q) j.0 (outcome q.panel.now q.panel.next_stamp (Reset j))).0 in omega (arith, same)
effect-later q (Shelve j n) free = let same = (touch-keeps (with_one_more q) j.0 (outcome q.panel.now q.panel.next_stamp (Shelve j n))).0 in omega (arith, same)
effect-later q (Unshelve j) free = let same = (touch-keeps (with_one_more q) j.0 (outcome q.panel.now q.panel.next_stamp (Unshelve j))).0 in omega (arith, same)
effect-later q (Oos j on) free = let same = (touch-keeps (with_one_more q) j.0 (outcome q.panel.now q.panel.next_stamp (Oos j on))).0 in omega (arith, same)
effect-later q (Design j on) free = let same = (touch-keeps (with_one_more q) j.0 (outcome q.panel.now q.panel.next_stamp (Design j on))).0 in omega (arith, same)
effect-later q (SetPriority j n) free = omega arith
effect-later q (SetSetpoint j v) free = omega arith

-- the last annunciation is no later than now
past : (q : Condensed) (i m : ℕ) (ms : List ℕ) (s : State) → KeepsRules q → slice_get q.panel.rows i ≡ Some s → slice_get q.kept.moments i ≡ Some (m ∷ ms) → m ≤ q.panel.now
past q i m ms s h row last =
    let at = alarm-at q i s h row in
    (subst (IsFalling q.panel.now) (same_Some _ _ (sym at.recorded ∙ last)) at.keeps.moments).0

step-chronological : (q : Condensed) (action : Action) → KeepsRules q → refusal q.panel action ≡ None → IsChronological q → IsChronological (step q action)
step-chronological q action h free so i j s u m n ms ns ri rj mi mj li lj less =
    let own : own_refusal q.panel action ≡ None = own-first (own_refusal q.panel action) _ free in
    let up : q.panel.now ≤ (step q action).panel.now = effect-later q action own in
    elim (effect-since q action i h own s m ms ri mi li) [
      | inl a ↦ elim (effect-since q action j h own u n ns rj mj lj) [
        | inl b ↦ (let e = a.0 in let f = b.0 in omega (arith, e, f))
        | inr (v, row, last, loud, stamp) ↦ (let below = (alarm-at q j v h row).keeps.stamp in let l = a.1 in absurd (omega (arith, less, below, l, stamp)))
      ]
      | inr (v, row, last, loud, stamp) ↦ elim (effect-since q action j h own u n ns rj mj lj) [
        | inl b ↦ (let e = b.0 in let p = past q i m ms v h row last in omega (arith, e, p, up))
        | inr (w, row2, last2, loud2, stamp2) ↦ so i j v w m n ms ns row row2 last last2 loud loud2 (omega (arith, stamp, stamp2, less))
      ]
    ]

run-chronological : (q : Condensed) (actions : List Action) → KeepsRules q → AreAdmitted q actions → IsChronological q → IsChronological (run q actions)
run-chronological q [] h all so = so
run-chronological q (a ∷ actions) h all so = run-chronological (step q a) actions (step-keeps q a h all.0 all.1) all.2 (step-chronological q a h all.1 so)

pub same-replicate : {A : Type 0} (n i : ℕ) (x y : A) → slice_get (replicate n x) i ≡ Some y → x ≡ y
same-replicate zero i x y e = absurd (none-some _ e)
same-replicate (suc n) zero x y e = same_Some _ _ e
same-replicate (suc n) (suc i) x y e = same-replicate n i x y e

new-chronological : (t : Listing) → IsChronological (new_plant t)
new-chronological t i j s u m n ms ns ri rj mi mj li lj less = absurd (true≢false (sym li ∙ sym (ap (λ x. is_annunciated x.core) (same-replicate (length t.alarms) i at_rest s ri))))

pub chronological : (t : Listing) (actions : List Action) → IsTable t → AreAdmitted (new_plant t) actions → IsChronological (run (new_plant t) actions)
chronological t actions table all = run-chronological (new_plant t) actions (new-keeps t table) all (new-chronological t)
