-- The condensed plant changes along with the whole one.
use Rattle.std.proofs.Common.{◌≡◌, ℕ, ◌+◌, ◌-◌, ◌<◌, ◌≤◌, Bool, false, List, [], ◌∷◌, Option, Some, None, length, map, take, refl, ap, sym, ◌∙◌, arith}
use Rattle.std.specs.Prelude.{slice_get, sum, fold, count_by, ◌==◌, ◌&&◌}
use Rattle.std.specs.List.{range_with_len}
use Rattle.alm_types.specs.declared.attr.Attr.{Attr}
use Rattle.alm_types.specs.Changes.{with_priority, with_setpoint}
use Rattle.alm_types.specs.declared.action.Action.{Action}
use Rattle.alm_types.specs.declared.action.Action.TheVariants.{Clock, Value, Ack, Reset, Shelve, Unshelve, Oos, Design, SetPriority, SetSetpoint}
use Rattle.alm_state.specs.Rows.{State}
use Rattle.std.proofs.Common.{inl, inr}
use Rattle.std.specs.Prelude.{nat_lt}
use Rattle.std.proofs.lemmas.Bool.{cases_Bool}
use borrow.Author.Tests.{ltb-true}
use Rattle.alm_types.specs.declared.refusal.Refusal.{Refusal}
use Rattle.alm_types.specs.declared.refusal.Refusal.TheVariants.{ClockBack}
use Rattle.alm_state.specs.Outcome.{outcome, without_shelving, or_else, unless}
use Rattle.alm_state.specs.declared.outcome.Outcome.{Outcome}
use Rattle.alm_state.specs.declared.outcome.Outcome.TheVariants.{Changed, Annunciated, Shelved}
use Rattle.std.proofs.lemmas.List.FromFn.{length-map-range_with_len}
use Rattle.alm_model.specs.Lists.{due}
use Rattle.alm_model.specs.Accept.{refusal}
use Rattle.alm_model.specs.Plant.{Panel, RecordedPlant, History}
use Rattle.alm_model.specs.Keeping.{in_full, in_brief, ages_after, window_of, change}
use Rattle.alm_model.specs.Condense.{condense, IsPast, IsRecorded, of_age, moments_of}
use Rattle.alm_model.specs.Step.{with_outcome, with_attributes, touch, with_touched_alarm, unshelve, later, with_effect, settle, settled_floods, with_one_more, with_stamped, after, step}
use Rattle.alm_model.proofs.Configured.{KeepsPlace, priority_keeps, setpoint_keeps, area_kept}
use Rattle.alm_model.proofs.Measured.{change-length}
use Rattle.alm_model.proofs.Condensing.{ages-note, moments-note, map-same}
use Rattle.alm_model.proofs.Passing.{ages-pass}
use Rattle.alm_model.proofs.Windows.{window-sum}

cond-put : (q : RecordedPlant) (i : ℕ) (o : Outcome) → condense (with_outcome in_full q i o) ≡ with_outcome in_brief (condense q) i o
cond-put q i (Changed s) = refl
cond-put q i (Shelved s) = refl
cond-put q i (Annunciated s) =
    let ages = ages-note q.panel q.kept i 599 (length q.floods) in
    let moments = moments-note q.kept i q.panel.now (length q.panel.attrs) in
    λ j. record { panel = with_stamped q.panel i s; kept = record { ages = ages j; moments = moments j }; floods = q.floods }

cond-touched : (q : RecordedPlant) (i : ℕ) (f : Attr → State → Outcome) (a : Option Attr) (s : Option State) → condense (with_touched_alarm in_full q i f a s) ≡ with_touched_alarm in_brief (condense q) i f a s
cond-touched q i f (Some a) (Some s) = cond-put q i (f a s)
cond-touched q i f (Some a) None = refl
cond-touched q i f None s = refl

cond-touch : (q : RecordedPlant) (i : ℕ) (f : Attr → State → Outcome) → condense (touch in_full q i f) ≡ touch in_brief (condense q) i f
cond-touch q i f = cond-touched q i f (slice_get q.panel.attrs i) (slice_get q.panel.rows i)

-- other attributes of an alarm leave it in its area, so all is counted as before
pub cond-configured : (q : RecordedPlant) (i : ℕ) (f : Attr → Attr) → KeepsPlace f → condense (with_attributes q i f) ≡ with_attributes (condense q) i f
cond-configured q i f same =
    let size : length (change q.panel.attrs i f) ≡ length q.panel.attrs = change-length q.panel.attrs i f in
    λ j. record {
      panel = (with_attributes q i f).panel;
      kept = record {
        ages = map (λ area. map (λ age. count_by (λ a. (area_kept q.panel.attrs i a.alarm f same j == area) && (a.moment + age == q.panel.now)) q.kept) (range_with_len 0 600)) (range_with_len 0 (length q.floods));
        moments = map (λ k. take 3 (moments_of q.kept k)) (range_with_len 0 (size j));
      };
      floods = q.floods;
    }

cond-fold : (q : RecordedPlant) (is : List ℕ) → condense (fold (unshelve in_full) q is) ≡ fold (unshelve in_brief) (condense q) is
cond-fold q [] = refl
cond-fold q (i ∷ is) =
    cond-fold (unshelve in_full q i) is ∙ ap (λ r. fold (unshelve in_brief) r is) (cond-touch q i (λ a s. without_shelving q.panel.next_stamp s))

map-map : {A B C : Type 0} (f : B → C) (g : A → B) (xs : List A) → map f (map g xs) ≡ map (λ x. f (g x)) xs
map-map f g [] = refl
map-map f g (x ∷ xs) = ap (λ l. f (g x) ∷ l) (map-map f g xs)

ages-later : (p : Panel) (h : History) (t d areas : ℕ) → IsPast p.now h → t ≡ p.now + d
    → map (λ area. map (of_age (record p { now = t }) h area) (range_with_len 0 600)) (range_with_len 0 areas) ≡ map (ages_after d) (map (λ area. map (of_age p h area) (range_with_len 0 600)) (range_with_len 0 areas))
ages-later p h t d areas past e =
    rw e (map-same (λ area. ages_after d (map (of_age p h area) (range_with_len 0 600))) (λ area. map (of_age (record p { now = p.now + d }) h area) (range_with_len 0 600)) 0 areas (λ area k. ages-pass p h d area 600 past)
    ∙ sym (map-map (ages_after d) (λ area. map (of_age p h area) (range_with_len 0 600)) (range_with_len 0 areas)))

pub cond-later : (q : RecordedPlant) (t : ℕ) → IsPast q.panel.now q.kept → q.panel.now ≤ t → condense (later in_full t q) ≡ later in_brief t (condense q)
cond-later q t past k =
    let ages = ages-later q.panel q.kept t (t - q.panel.now) (length q.floods) past (omega arith) in
    λ j. record { panel = record q.panel { now = t }; kept = record { ages = ages j; moments = map (λ i. take 3 (moments_of q.kept i)) (range_with_len 0 (length q.panel.attrs)) }; floods = q.floods }

-- the history stays one of the past
IsPast-later : (now t : ℕ) (h : History) → now ≤ t → IsPast now h → IsPast t h
IsPast-later now t [] k past = tt
IsPast-later now t (a ∷ h) k past = let early : a.moment ≤ now = past.0 in (omega arith, IsPast-later now t h k past.1)

abbrev IsPastPlant : RecordedPlant → Type 0
IsPastPlant q = IsPast q.panel.now q.kept

past-put : (q : RecordedPlant) (i : ℕ) (o : Outcome) → IsPastPlant q → IsPastPlant (with_outcome in_full q i o)
past-put q i (Changed s) past = past
past-put q i (Shelved s) past = past
past-put q i (Annunciated s) past = (omega arith, past)

past-touched : (q : RecordedPlant) (i : ℕ) (f : Attr → State → Outcome) (a : Option Attr) (s : Option State) → IsPastPlant q → IsPastPlant (with_touched_alarm in_full q i f a s)
past-touched q i f (Some a) (Some s) past = past-put q i (f a s) past
past-touched q i f (Some a) None past = past
past-touched q i f None s past = past

past-touch : (q : RecordedPlant) (i : ℕ) (f : Attr → State → Outcome) → IsPastPlant q → IsPastPlant (touch in_full q i f)
past-touch q i f past = past-touched q i f (slice_get q.panel.attrs i) (slice_get q.panel.rows i) past

past-fold : (q : RecordedPlant) (is : List ℕ) → IsPastPlant q → IsPastPlant (fold (unshelve in_full) q is)
past-fold q [] past = past
past-fold q (i ∷ is) past = past-fold (unshelve in_full q i) is (past-touch q i (λ a s. without_shelving q.panel.next_stamp s) past)

length-settled : (ws : List ℕ) (floods : List Bool) → length ws ≡ length floods → length (settled_floods ws floods) ≡ length floods
length-settled [] [] e = refl
length-settled [] (b ∷ floods) e = absurd (omega arith)
length-settled (w ∷ ws) [] e = absurd (omega arith)
length-settled (w ∷ ws) (b ∷ floods) e = let rest = length-settled ws floods (omega arith) in omega arith

-- the floods are settled by the same windows
pub cond-settle : (q : RecordedPlant) → IsPastPlant q → condense (settle in_full q) ≡ settle in_brief (condense q)
cond-settle q past =
    let areas = length q.floods in
    let windows : map (window_of q.panel q.kept) (range_with_len 0 areas) ≡ map sum (map (λ area. map (of_age q.panel q.kept area) (range_with_len 0 600)) (range_with_len 0 areas)) =
    map-same (λ area. sum (map (of_age q.panel q.kept area) (range_with_len 0 600))) (window_of q.panel q.kept) 0 areas (λ area k. sym (window-sum q.panel q.kept area 600 past))
    ∙ sym (map-map sum (λ area. map (of_age q.panel q.kept area) (range_with_len 0 600)) (range_with_len 0 areas)) in
    let size : length (settled_floods (map (window_of q.panel q.kept) (range_with_len 0 areas)) q.floods) ≡ areas =
    length-settled (map (window_of q.panel q.kept) (range_with_len 0 areas)) q.floods (length-map-range_with_len (window_of q.panel q.kept) 0 areas) in
    λ j. record {
      panel = q.panel;
      kept = record {
        ages = map (λ area. map (of_age q.panel q.kept area) (range_with_len 0 600)) (range_with_len 0 (size j));
        moments = map (λ i. take 3 (moments_of q.kept i)) (range_with_len 0 (length q.panel.attrs));
      };
      floods = settled_floods (windows j) q.floods;
    }

-- the clock moves forward
abbrev Forward : ℕ → Action → Type 0
Forward now (Clock t) = now ≤ t
Forward now _ = Unit {0}

clock_forward : (now t : ℕ) (rest : Option Refusal) → or_else (unless (nat_lt now t) ClockBack) rest ≡ None → now ≤ t
clock_forward now t rest h = elim (cases_Bool (nat_lt now t)) [
  | inl e ↦ let l : now < t = omega (arith, ltb-true) in omega arith
  | inr f ↦ let no : or_else (unless false ClockBack) rest ≡ None = rw f at h in absurd (let bad : ⊥ = cc in bad)
]

forward : (p : Panel) (action : Action) → refusal p action ≡ None → Forward p.now action
forward p (Clock t) h = clock_forward p.now t _ h
forward p (Value i v) h = tt
forward p (Ack i) h = tt
forward p (Reset i) h = tt
forward p (Shelve i s) h = tt
forward p (Unshelve i) h = tt
forward p (Oos i on) h = tt
forward p (Design i on) h = tt
forward p (SetPriority i priority) h = tt
forward p (SetSetpoint i setpoint) h = tt

cond-acted : (q : RecordedPlant) (action : Action) → IsPastPlant q → Forward q.panel.now action → condense (with_effect in_full q action) ≡ with_effect in_brief (condense q) action
cond-acted q (Clock t) past h =
    cond-fold (later in_full t q) (due t q.panel) ∙ ap (λ r. fold (unshelve in_brief) r (due t q.panel)) (cond-later q t past h)
cond-acted q (Value i v) past h = cond-touch q i.0 (outcome q.panel.now q.panel.next_stamp (Value i v))
cond-acted q (Ack i) past h = cond-touch q i.0 (outcome q.panel.now q.panel.next_stamp (Ack i))
cond-acted q (Reset i) past h = cond-touch q i.0 (outcome q.panel.now q.panel.next_stamp (Reset i))
cond-acted q (Shelve i s) past h = cond-touch q i.0 (outcome q.panel.now q.panel.next_stamp (Shelve i s))
cond-acted q (Unshelve i) past h = cond-touch q i.0 (outcome q.panel.now q.panel.next_stamp (Unshelve i))
cond-acted q (Oos i on) past h = cond-touch q i.0 (outcome q.panel.now q.panel.next_stamp (Oos i on))
cond-acted q (Design i on) past h = cond-touch q i.0 (outcome q.panel.now q.panel.next_stamp (Design i on))
cond-acted q (SetPriority i priority) past h = cond-configured q i.0 (with_priority priority) (priority_keeps priority)
cond-acted q (SetSetpoint i setpoint) past h = cond-configured q i.0 (with_setpoint setpoint) (setpoint_keeps setpoint)

past-acted : (q : RecordedPlant) (action : Action) → IsPastPlant q → Forward q.panel.now action → IsPastPlant (with_effect in_full q action)
past-acted q (Clock t) past h = past-fold (later in_full t q) (due t q.panel) (IsPast-later q.panel.now t q.kept h past)
past-acted q (Value i v) past h = past-touch q i.0 (outcome q.panel.now q.panel.next_stamp (Value i v)) past
past-acted q (Ack i) past h = past-touch q i.0 (outcome q.panel.now q.panel.next_stamp (Ack i)) past
past-acted q (Reset i) past h = past-touch q i.0 (outcome q.panel.now q.panel.next_stamp (Reset i)) past
past-acted q (Shelve i s) past h = past-touch q i.0 (outcome q.panel.now q.panel.next_stamp (Shelve i s)) past
past-acted q (Unshelve i) past h = past-touch q i.0 (outcome q.panel.now q.panel.next_stamp (Unshelve i)) past
past-acted q (Oos i on) past h = past-touch q i.0 (outcome q.panel.now q.panel.next_stamp (Oos i on)) past
past-acted q (Design i on) past h = past-touch q i.0 (outcome q.panel.now q.panel.next_stamp (Design i on)) past
past-acted q (SetPriority i priority) past h = past
past-acted q (SetSetpoint i setpoint) past h = past

pub cond-after : (q : RecordedPlant) (action : Action) → IsPast q.panel.now q.kept → refusal q.panel action ≡ None → condense (after q action) ≡ step (condense q) action
cond-after q action past h =
    let f = forward q.panel action h in
    cond-settle (with_effect in_full (with_one_more q) action) (past-acted (with_one_more q) action past f) ∙ ap (settle in_brief) (cond-acted (with_one_more q) action past f)

pub recorded-later : (now t : ℕ) (h : History) → now ≤ t → IsRecorded now h → IsRecorded t h
recorded-later now t [] k r = tt
recorded-later now t (a ∷ h) k r = let early : a.moment ≤ now = r.0 in (omega arith, r.1)

pub past-recorded : (now : ℕ) (h : History) → IsRecorded now h → IsPast now h
past-recorded now [] r = tt
past-recorded now (a ∷ h) r = (r.0, IsPast-later a.moment now h r.0 (past-recorded a.moment h r.1))

abbrev Recorded : RecordedPlant → Type 0
Recorded q = IsRecorded q.panel.now q.kept

recorded-put : (q : RecordedPlant) (i : ℕ) (o : Outcome) → Recorded q → Recorded (with_outcome in_full q i o)
recorded-put q i (Changed s) r = r
recorded-put q i (Shelved s) r = r
recorded-put q i (Annunciated s) r = (omega arith, r)

recorded-touched : (q : RecordedPlant) (i : ℕ) (f : Attr → State → Outcome) (a : Option Attr) (s : Option State) → Recorded q → Recorded (with_touched_alarm in_full q i f a s)
recorded-touched q i f (Some a) (Some s) r = recorded-put q i (f a s) r
recorded-touched q i f (Some a) None r = r
recorded-touched q i f None s r = r

recorded-touch : (q : RecordedPlant) (i : ℕ) (f : Attr → State → Outcome) → Recorded q → Recorded (touch in_full q i f)
recorded-touch q i f r = recorded-touched q i f (slice_get q.panel.attrs i) (slice_get q.panel.rows i) r

recorded-fold : (q : RecordedPlant) (is : List ℕ) → Recorded q → Recorded (fold (unshelve in_full) q is)
recorded-fold q [] r = r
recorded-fold q (i ∷ is) r = recorded-fold (unshelve in_full q i) is (recorded-touch q i (λ a s. without_shelving q.panel.next_stamp s) r)

recorded-acted : (q : RecordedPlant) (action : Action) → Recorded q → Forward q.panel.now action → Recorded (with_effect in_full q action)
recorded-acted q (Clock t) r h = recorded-fold (later in_full t q) (due t q.panel) (recorded-later q.panel.now t q.kept h r)
recorded-acted q (Value i v) r h = recorded-touch q i.0 (outcome q.panel.now q.panel.next_stamp (Value i v)) r
recorded-acted q (Ack i) r h = recorded-touch q i.0 (outcome q.panel.now q.panel.next_stamp (Ack i)) r
recorded-acted q (Reset i) r h = recorded-touch q i.0 (outcome q.panel.now q.panel.next_stamp (Reset i)) r
recorded-acted q (Shelve i s) r h = recorded-touch q i.0 (outcome q.panel.now q.panel.next_stamp (Shelve i s)) r
recorded-acted q (Unshelve i) r h = recorded-touch q i.0 (outcome q.panel.now q.panel.next_stamp (Unshelve i)) r
recorded-acted q (Oos i on) r h = recorded-touch q i.0 (outcome q.panel.now q.panel.next_stamp (Oos i on)) r
recorded-acted q (Design i on) r h = recorded-touch q i.0 (outcome q.panel.now q.panel.next_stamp (Design i on)) r
recorded-acted q (SetPriority i priority) r h = r
recorded-acted q (SetSetpoint i setpoint) r h = r

pub falling-after : (q : RecordedPlant) (action : Action) → Recorded q → refusal q.panel action ≡ None → Recorded (after q action)
falling-after q action r h = recorded-acted (with_one_more q) action r (forward q.panel action h)

-- the windows of the condensed plant are those of all annunciations
pub cond-windows : (q : RecordedPlant) → IsPastPlant q → map sum (condense q).kept.ages ≡ map (window_of q.panel q.kept) (range_with_len 0 (length q.floods))
cond-windows q past =
    let areas = length q.floods in
    map-map sum (λ area. map (of_age q.panel q.kept area) (range_with_len 0 600)) (range_with_len 0 areas)
    ∙ map-same (window_of q.panel q.kept) (λ area. sum (map (of_age q.panel q.kept area) (range_with_len 0 600))) 0 areas (λ area k. window-sum q.panel q.kept area 600 past)
