-- A new plant keeps the rules, and an admitted action keeps them.
use Rattle.std.proofs.Common.{◌≡◌, ℕ, ◌+◌, ◌-◌, ◌^◌, ◌<◌, ◌≤◌, Bool, true, false, List, [], ◌∷◌, length, map, sum, sum_by, cond, replicate, suc, zero, refl, sym, ap, ◌∙◌, arith, inl, inr, Option, Some, None, subst, true≢false}
use Rattle.std.specs.Prelude.{slice_get, slice_index, Contains, fold, nat_lt}
use Rattle.std.proofs.lemmas.Option.{none-some, same_Some, slice_get_within}
use Rattle.std.proofs.lemmas.List.{length-map, length-replicate}
use Rattle.std.proofs.lemmas.List.Elements.{All-map, All-replicate, All-weaker}
use Rattle.std.proofs.lemmas.List.Folds.{sum_by-replicate}
use Rattle.std.proofs.lemmas.List.Sums.{sum_by-cons}
use borrow.Author.Tests.{ltb-true, le-leb}
use Rattle.std.proofs.lemmas.Bool.{cases_Bool, cases_lt}
use Rattle.alm_types.specs.declared.attr.Attr.{Attr}
use Rattle.alm_types.specs.Changes.{with_priority, with_setpoint}
use Rattle.alm_types.specs.declared.action.Action.{Action}
use Rattle.alm_types.specs.declared.action.Action.TheVariants.{Clock, Value, Ack, Reset, Shelve, Unshelve, Oos, Design, SetPriority, SetSetpoint}
use Rattle.alm_types.specs.declared.refusal.Refusal.{Refusal}
use Rattle.alm_types.specs.declared.refusal.Refusal.TheVariants.{ClockBack}
use Rattle.alm_types.specs.Tables.{Listing, IsTable}
use Rattle.alm_state.specs.Rows.{State}
use Rattle.alm_state.specs.Suits.{IsAhead}
use Rattle.alm_state.specs.Outcome.{outcome, row_refusal, or_else, unless}
use Rattle.alm_state.specs.declared.outcome.Outcome.{Outcome}
use Rattle.alm_state.specs.declared.outcome.Outcome.TheVariants.{Changed, Annunciated, Shelved}
use Rattle.alm_state.proofs.OutcomeLaws.{IsOutcome, outcome-good, row_of}
use Rattle.alm_model.specs.Plant.{Panel, Condensed}
use Rattle.alm_types.specs.Actions.{alarm_of}
use Rattle.alm_model.specs.Accept.{refusal, own_refusal, alarm_refusal}
use Rattle.alm_model.specs.Keeping.{in_brief, ages_after}
use Rattle.alm_model.specs.Lists.{due, is_due, deadline, stamp, key_of}
use Rattle.alm_model.specs.New.{at_rest, new_plant}
use Rattle.alm_model.specs.Rules.{KeepsRules, IsAlarm, IsAges, IsTimely, AreAdmitted}
use Rattle.alm_model.specs.Sound.{IsSound}
use Rattle.alm_model.specs.Step.{with_effect, with_attributes, with_one_more, later, settle, settled_floods, is_flood, step, run, touch, unshelve}
use Rattle.alm_model.proofs.Between.{Between, IsBetween, between-touch, between-fold, state-there}
use Rattle.alm_model.proofs.Configured.{KeepsPlace, priority_keeps, setpoint_keeps, between-configured}
use Rattle.alm_model.proofs.Measured.{change-length, change-all}
use Rattle.alm_model.proofs.Listed.{listed, listed-few}
use Rattle.alm_model.proofs.Measured.{falling-later, ages-aged}
use Rattle.alm_model.proofs.Soundness.{sum_by-aged}
use Rattle.alm_model.proofs.Stamps.{Stamped}

-- an alarm of a plant that keeps the rules, whatever is to end
ahead-of : (now longest : ℕ) (o : Option ℕ) (d : ℕ) → IsAhead now longest o → o ≡ Some d → (now < d) × (d ≤ now + longest)
ahead-of now longest None d h e = absurd (none-some d e)
ahead-of now longest (Some x) d h e = subst (λ n. (now < n) × (n ≤ now + longest)) (same_Some _ _ e) h

between-later : (rest : List ℕ) (i now next t : ℕ) (a : Attr) (s : State) (ms : List ℕ) → now ≤ t → ((d : ℕ) → s.shelved_until ≡ Some d → d ≤ t → Contains rest i) → IsAlarm now next a s ms → IsBetween rest i t a s ms
between-later rest i now next t a s ms l ending h = record {
  state = h.state;
  suits = h.suits;
  moments = falling-later now t ms l h.moments;
  few = h.few;
  annunciated = h.annunciated;
  longest = λ d e. (let r = (ahead-of now a.max_shelve s.shelved_until d h.deadline e).1 in omega arith);
  ending = ending;
}

pub there : {A : Type 0} (xs : List A) (i : ℕ) → i < length xs → (x : A) × (slice_get xs i ≡ Some x)
there [] i l = absurd (omega arith)
there (x ∷ xs) zero l = (x, refl)
there (x ∷ xs) (suc i) l = there xs i (omega arith)

-- no stamp is the next one or later
stamp-below : (q : Condensed) → KeepsRules q → (i : ℕ) → key_of stamp (slice_get q.panel.rows i) < q.panel.next_stamp
stamp-below q h i = elim (slice_get q.panel.rows i) as (λ o. slice_get q.panel.rows i ≡ o → key_of stamp o < q.panel.next_stamp) [
  | None ↦ λ e. (let f = h.first_stamp in omega arith)
  | Some s ↦ λ e. (let inside = slice_get_within q.panel.rows i s e in
      let a = there q.panel.attrs i (let r = h.attrs in omega arith) in
      let ms = there q.kept.moments i (let r = h.recent in omega arith) in
      (h.alarms i a.0 s ms.0 a.1 e ms.1).stamp)
] refl

stamped-kept : (q : Condensed) → KeepsRules q → Stamped q.panel.rows q.panel.next_stamp
stamped-kept q h = record { below = stamp-below q h; distinct = h.distinct }

-- an action is counted, and time passes, perhaps none
begun : (q : Condensed) (t : ℕ) (rest : List ℕ) → KeepsRules q → q.panel.now ≤ t → t < 2 ^ 40 → length rest ≤ 16384
    → ((i : ℕ) (a : Attr) (s : State) → slice_get q.panel.attrs i ≡ Some a → slice_get q.panel.rows i ≡ Some s → (d : ℕ) → s.shelved_until ≡ Some d → d ≤ t → Contains rest i)
    → Between rest (later in_brief t (with_one_more q))
begun q t rest h l early few ending = record {
  some = h.some;
  few = h.few;
  attrs = h.attrs;
  recent = h.recent;
  areas = h.areas;
  measured = length-map q.kept.ages (ages_after (t - q.panel.now)) ∙ h.measured;
  now = early;
  stamps = (let b = h.stamps in omega arith);
  ages = All-map (IsAges t) (ages_after (t - q.panel.now)) q.kept.ages (All-weaker (IsAges q.panel.now) (λ ages. IsAges t (ages_after (t - q.panel.now) ages)) (λ ages k. ages-aged q.panel.now t ages l k) q.kept.ages h.ages);
  annunciations = (let b = h.annunciations in let c = sum_by-aged (t - q.panel.now) q.kept.ages in omega arith);
  in_areas = h.in_areas;
  alarms = λ i a s ms e f g. between-later rest i q.panel.now q.panel.next_stamp t a s ms l (ending i a s e f) (h.alarms i a s ms e f g);
  stamped = stamped-kept q h;
}

-- the same for an action that takes no time
counted-between : (q : Condensed) (i : ℕ) → KeepsRules q → Between (i ∷ []) (with_one_more q)
counted-between q i h = record {
  some = h.some;
  few = h.few;
  attrs = h.attrs;
  recent = h.recent;
  areas = h.areas;
  measured = h.measured;
  now = h.now;
  stamps = (let b = h.stamps in omega arith);
  ages = h.ages;
  annunciations = h.annunciations;
  in_areas = h.in_areas;
  alarms = λ j a s ms e f g. between-later (i ∷ []) j q.panel.now q.panel.next_stamp q.panel.now a s ms (omega arith)
      (λ d k l. (let r = (ahead-of q.panel.now a.max_shelve s.shelved_until d (h.alarms j a s ms e f g).deadline k).0 in absurd (omega arith))) (h.alarms j a s ms e f g);
  stamped = stamped-kept q h;
}

-- no deadline of a row that an action leaves has passed
ended-not : (q : Condensed) (i : ℕ) (a : Attr) (s : State) (o : Outcome) (d : ℕ) → KeepsRules q → slice_get q.panel.attrs i ≡ Some a → slice_get q.panel.rows i ≡ Some s
    → IsOutcome a q.panel.now q.panel.next_stamp s o → (row_of o).shelved_until ≡ Some d → d ≤ q.panel.now → ⊥
ended-not q i a s (Changed t) d h e f good k l =
    let ms = there q.kept.moments i (let r = h.recent in let inside = slice_get_within q.panel.rows i s f in omega arith) in
    elim good.shelved [
      | inl same ↦ (let r = (ahead-of q.panel.now a.max_shelve s.shelved_until d (h.alarms i a s ms.0 e f ms.1).deadline (sym same ∙ k)).0 in omega arith)
      | inr none ↦ none-some d (sym none ∙ k)
    ]
ended-not q i a s (Annunciated t) d h e f good k l = none-some d (sym good.free ∙ k)
ended-not q i a s (Shelved t) d h e f good k l = let r = (ahead-of q.panel.now a.max_shelve t.shelved_until d good.ahead k).0 in omega arith

-- what an action leads to, before the floods are settled
touch-kept : (q : Condensed) (action : Action) → KeepsRules q → alarm_refusal action (slice_get q.panel.attrs (alarm_of action)) (slice_get q.panel.rows (alarm_of action)) ≡ None
    → Between [] (touch in_brief (with_one_more q) (alarm_of action) (outcome q.panel.now q.panel.next_stamp action))
touch-kept q action h free =
    let i = alarm_of action in
    let admitted : (a : Attr) (s : State) → slice_get q.panel.attrs i ≡ Some a → slice_get q.panel.rows i ≡ Some s → row_refusal action a s ≡ None =
    λ a s e f. sym (ap (λ o. alarm_refusal action o (slice_get q.panel.rows i)) e ∙ ap (alarm_refusal action (Some a)) f) ∙ free in
    let good : (a : Attr) (s : State) → slice_get q.panel.attrs i ≡ Some a → slice_get q.panel.rows i ≡ Some s → IsOutcome a q.panel.now q.panel.next_stamp s (outcome q.panel.now q.panel.next_stamp action a s) =
    λ a s e f. (let old = (state-there (i ∷ []) (with_one_more q) i a s (counted-between q i h) e f).1 in
    outcome-good a q.panel.now q.panel.next_stamp action s (let n = h.first_stamp in omega arith) old.state old.suits (admitted a s e f)) in
    between-touch [] (with_one_more q) i (outcome q.panel.now q.panel.next_stamp action) good
    (λ a s e f d k l. absurd (ended-not q i a s (outcome q.panel.now q.panel.next_stamp action a s) d h e f (good a s e f) k l))
    (counted-between q i h)

-- the shelvings that have ended by a moment are those that are due
due-there : (q : Condensed) (t i : ℕ) (a : Attr) (s : State) → slice_get q.panel.attrs i ≡ Some a → slice_get q.panel.rows i ≡ Some s → (d : ℕ) → s.shelved_until ≡ Some d → d ≤ t → Contains (due t q.panel) i
due-there q t i a s e f d k l = listed deadline (is_due t) q.panel.attrs q.panel.rows i a s e f (rw k (le-leb d t l))

forward : (p : Panel) (t : ℕ) → unless (nat_lt p.now t) ClockBack ≡ None → p.now < t
forward p t h = elim (cases_Bool (nat_lt p.now t)) [
  | inl e ↦ ltb-true p.now t e
  | inr f ↦ (let no : unless false ClockBack ≡ None = rw f at h in absurd (none-some _ (sym no)))
]

clock-kept : (q : Condensed) (t : ℕ) → KeepsRules q → t < 2 ^ 40 → unless (nat_lt q.panel.now t) ClockBack ≡ None → Between [] (fold (unshelve in_brief) (later in_brief t (with_one_more q)) (due t q.panel))
clock-kept q t h early free =
    let l = forward q.panel t free in
    between-fold (due t q.panel) (later in_brief t (with_one_more q))
    (begun q t (due t q.panel) h (omega arith) early (let n = listed-few deadline (is_due t) q.panel.attrs q.panel.rows in let m = h.few in omega arith) (λ i a s e f d k m. due-there q t i a s e f d k m))

-- other attributes end no shelving, and suit the alarm as those before did
configured-kept : (q : Condensed) (i : ℕ) (f : Attr → Attr) → KeepsPlace f → KeepsRules q → Between [] (with_attributes (with_one_more q) i f)
configured-kept q i f same h = record {
  some = h.some;
  few = h.few;
  attrs = change-length q.panel.attrs i f ∙ h.attrs;
  recent = h.recent;
  areas = h.areas;
  measured = h.measured;
  now = h.now;
  stamps = (let b = h.stamps in omega arith);
  ages = h.ages;
  annunciations = h.annunciations;
  in_areas = change-all (λ a. a.area < length q.floods) q.panel.attrs i f (λ a l. (let e = same.area a in omega arith)) h.in_areas;
  alarms = between-configured [] q.panel.now q.panel.attrs q.panel.rows q.kept.moments i f same
      (λ j a s ms e g m. between-later [] j q.panel.now q.panel.next_stamp q.panel.now a s ms (omega arith)
      (λ d k l. (let r = (ahead-of q.panel.now a.max_shelve s.shelved_until d (h.alarms j a s ms e g m).deadline k).0 in absurd (omega arith))) (h.alarms j a s ms e g m));
  stamped = stamped-kept q h;
}

acted-kept : (q : Condensed) (action : Action) → KeepsRules q → IsTimely action → own_refusal q.panel action ≡ None → Between [] (with_effect in_brief (with_one_more q) action)
acted-kept q (Clock t) h early free = clock-kept q t h early free
acted-kept q (Value i v) h early free = touch-kept q (Value i v) h free
acted-kept q (Ack i) h early free = touch-kept q (Ack i) h free
acted-kept q (Reset i) h early free = touch-kept q (Reset i) h free
acted-kept q (Shelve i s) h early free = touch-kept q (Shelve i s) h free
acted-kept q (Unshelve i) h early free = touch-kept q (Unshelve i) h free
acted-kept q (Oos i on) h early free = touch-kept q (Oos i on) h free
acted-kept q (Design i on) h early free = touch-kept q (Design i on) h free
acted-kept q (SetPriority i priority) h early free = configured-kept q i.0 (with_priority priority) (priority_keeps priority) h
acted-kept q (SetSetpoint i setpoint) h early free = configured-kept q i.0 (with_setpoint setpoint) (setpoint_keeps setpoint) h

-- floods that were settled stay so
flood-again : (w : ℕ) (b : Bool) → is_flood w (is_flood w b) ≡ is_flood w b
flood-again w b = elim (nat_lt 10 w) as (λ x. cond x true (cond (nat_lt w 5) false (cond x true (cond (nat_lt w 5) false b))) ≡ cond x true (cond (nat_lt w 5) false b)) [
  | true ↦ refl
  | false ↦ elim (nat_lt w 5) as (λ y. cond y false (cond y false b) ≡ cond y false b) [ true ↦ refl | false ↦ refl ]
]

settled-again : (ws : List ℕ) (floods : List Bool) → settled_floods ws (settled_floods ws floods) ≡ settled_floods ws floods
settled-again [] floods = refl
settled-again (w ∷ ws) [] = refl
settled-again (w ∷ ws) (b ∷ floods) = let first = flood-again w b in let rest = settled-again ws floods in cc

length-settled : (ws : List ℕ) (floods : List Bool) → length ws ≡ length floods → length (settled_floods ws floods) ≡ length floods
length-settled [] [] e = refl
length-settled [] (b ∷ floods) e = absurd (omega arith)
length-settled (w ∷ ws) [] e = absurd (omega arith)
length-settled (w ∷ ws) (b ∷ floods) e = let rest = length-settled ws floods (omega arith) in omega arith

ahead-is : (now longest i : ℕ) (o : Option ℕ) → ((d : ℕ) → o ≡ Some d → d ≤ now + longest) → ((d : ℕ) → o ≡ Some d → d ≤ now → Contains [] i) → IsAhead now longest o
ahead-is now longest i None far ending = tt
ahead-is now longest i (Some d) far ending = (elim (cases_lt now d) [ inl l ↦ l | inr m ↦ (let none = (ending d refl m).1 in absurd (omega arith)) ], far d refl)

-- no shelving is left to end
between-alarm : (i now next : ℕ) (a : Attr) (s : State) (ms : List ℕ) → s.stamp < next → IsBetween [] i now a s ms → IsAlarm now next a s ms
between-alarm i now next a s ms l h = record {
  state = h.state;
  suits = h.suits;
  deadline = ahead-is now a.max_shelve i s.shelved_until h.longest h.ending;
  stamp = l;
  moments = h.moments;
  few = h.few;
  annunciated = h.annunciated;
}

settle-kept : (q : Condensed) → Between [] q → KeepsRules (settle in_brief q)
settle-kept q h =
    let size : length (settled_floods (map sum q.kept.ages) q.floods) ≡ length q.floods = length-settled (map sum q.kept.ages) q.floods (length-map q.kept.ages sum ∙ h.measured) in
    record {
      some = h.some;
      few = h.few;
      attrs = h.attrs;
      recent = h.recent;
      areas = rw size h.areas;
      measured = h.measured ∙ sym size;
      now = h.now;
      first_stamp = (let b = h.annunciations in omega arith);
      stamps = (let b = h.stamps in omega arith);
      ages = h.ages;
      annunciations = h.annunciations;
      floods = settled-again (map sum q.kept.ages) q.floods;
      in_areas = λ k d l. rw size (h.in_areas k d l);
      alarms = λ i a s ms e f g. between-alarm i q.panel.now q.panel.next_stamp a s ms (let b = h.stamped.below i in rw f at b) (h.alarms i a s ms e f g);
      distinct = h.stamped.distinct;
    }

own-first : (own : Option Refusal) (last : Option Refusal) → or_else own last ≡ None → own ≡ None
own-first None last h = refl
own-first (Some r) last h = absurd (none-some _ (sym h))

pub step-keeps : (q : Condensed) (action : Action) → KeepsRules q → IsTimely action → refusal q.panel action ≡ None → KeepsRules (step q action)
step-keeps q action h early free = settle-kept (with_effect in_brief (with_one_more q) action) (acted-kept q action h early (own-first (own_refusal q.panel action) _ free))

-- a new plant
zeros : (n age : ℕ) → slice_index (replicate n 0) age ≡ 0
zeros zero age = refl
zeros (suc n) zero = refl
zeros (suc n) (suc age) = zeros n age

sum-zeros : (n : ℕ) → sum (replicate n 0) ≡ 0
sum-zeros n = omega (arith, sum_by-replicate (λ (x : ℕ). x) n 0)

same-replicate : {A : Type 0} (n i : ℕ) (x y : A) → slice_get (replicate n x) i ≡ Some y → x ≡ y
same-replicate zero i x y e = absurd (none-some y e)
same-replicate (suc n) zero x y e = same_Some x y e
same-replicate (suc n) (suc i) x y e = same-replicate n i x y e

no-stamp : (n i : ℕ) → key_of stamp (slice_get (replicate n at_rest) i) ≡ 0
no-stamp zero i = refl
no-stamp (suc n) zero = refl
no-stamp (suc n) (suc i) = no-stamp n i

no-floods : (n : ℕ) (ages : List ℕ) → sum ages ≡ 0 → settled_floods (map sum (replicate n ages)) (replicate n false) ≡ replicate n false
no-floods zero ages e = refl
no-floods (suc n) ages e = let first : is_flood (sum ages) false ≡ false = rw e refl in let rest = no-floods n ages e in cc

no-annunciations : (n : ℕ) (ages : List ℕ) → sum ages ≡ 0 → sum_by sum (replicate n ages) ≡ 0
no-annunciations zero ages e = refl
no-annunciations (suc n) ages e = omega (arith, sum_by-cons sum ages (replicate n ages), no-annunciations n ages e)

rest-alarm : (a : Attr) → IsAlarm 0 1 a at_rest []
rest-alarm a = record {
  state = record { suppressed = λ h. refl; active = λ h. refl; stamped = (λ h. absurd (true≢false (sym h)), λ h. absurd (omega arith)) };
  suits = refl;
  deadline = tt;
  stamp = omega arith;
  moments = tt;
  few = omega arith;
  annunciated = λ h. absurd (true≢false (sym h));
}

pub new-keeps : (t : Listing) → IsTable t → KeepsRules (new_plant t)
new-keeps t h =
    let n = length t.alarms in
    let rows : length (replicate n at_rest) ≡ n = length-replicate n at_rest in
    let floods : length (replicate t.areas false) ≡ t.areas = length-replicate t.areas false in
    record {
      some = rw rows h.some;
      few = rw rows h.few;
      attrs = sym rows;
      recent = length-replicate {A = List ℕ} n [] ∙ sym rows;
      areas = rw floods h.areas;
      measured = length-replicate {A = List ℕ} t.areas (replicate 600 0) ∙ sym floods;
      now = omega arith;
      first_stamp = omega arith;
      stamps = omega arith;
      ages = All-replicate (IsAges 0) t.areas (replicate 600 0) (record { seconds = length-replicate {A = ℕ} 600 0; young = λ age l. zeros 600 age });
      annunciations = (let e = no-annunciations t.areas (replicate 600 0) (sum-zeros 600) in omega arith);
      floods = no-floods t.areas (replicate 600 0) (sum-zeros 600);
      in_areas = λ k d l. rw floods (h.in_areas k d l);
      alarms = λ i a s ms e f g. subst (λ r. IsAlarm 0 1 a r ms) (same-replicate n i at_rest s f) (subst (λ r. IsAlarm 0 1 a at_rest r) (same-replicate n i [] ms g) (rest-alarm a));
      distinct = λ i j pos same. (let e = no-stamp n i in absurd (omega arith));
    }

pub run-keeps : (q : Condensed) (actions : List Action) → KeepsRules q → AreAdmitted q actions → KeepsRules (run q actions)
run-keeps q [] h all = h
run-keeps q (a ∷ actions) h all = run-keeps (step q a) actions (step-keeps q a h all.0 all.1) all.2

-- what every plant's fields need follows
pub sound-kept : (q : Condensed) → KeepsRules q → q.panel.count ≤ 2 ^ 48 → IsSound q
sound-kept q h count = record {
  rows = h.few;
  attrs = h.attrs;
  moments = h.recent;
  areas = h.measured;
  in_areas = λ k d l. rw h.measured (h.in_areas k d l);
  ages = λ k d l. (h.ages k d l).seconds;
  first_stamp = (let f = h.first_stamp in omega arith);
  stamps = h.stamps;
  actions = count;
  annunciations = h.annunciations;
}
