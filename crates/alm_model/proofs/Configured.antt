-- Other attributes of an alarm: another priority or setpoint leaves it in its area, and its row suits it as before.
use Rattle.std.proofs.Common.{◌≡◌, ℕ, ◌<◌, Bool, true, false, List, Option, Some, None, length, refl, sym, ap, ◌∙◌, arith, inl, inr, subst}
use Rattle.std.specs.Prelude.{slice_get, slice_set, ℤ, T, ◌&&◌, nat_le}
use Rattle.std.proofs.lemmas.Bool.{cases_eq}
use Rattle.std.proofs.lemmas.Option.{none-some}
use Rattle.alm_types.specs.declared.attr.Attr.{Attr}
use Rattle.alm_types.specs.declared.action.Action.{Action}
use Rattle.alm_types.specs.declared.action.Action.TheVariants.{SetPriority, SetSetpoint, Clock, Value, Ack, Reset, Shelve, Unshelve, Oos, Design}
use Rattle.alm_types.specs.Readings.{is_reading}
use Rattle.alm_types.specs.Limits.{priority_in, reading_in}
use Rattle.alm_types.specs.Changes.{where_passed, with_priority, with_setpoint}
use Rattle.alm_state.specs.Rows.{State}
use Rattle.alm_state.specs.Outcome.{attr_after}
use Rattle.alm_model.specs.Accept.{alarm_refusal}
use Rattle.alm_model.specs.Plant.{Condensed}
use Rattle.alm_model.specs.Keeping.{area_in, change, with_change}
use Rattle.alm_model.specs.Sound.{IsSound}
use Rattle.alm_model.specs.Step.{with_attributes}
use Rattle.alm_model.proofs.Between.{IsBetween}
use Rattle.alm_model.proofs.Measured.{change-at, change-off, change-all, change-length}
use Rattle.alm_model.proofs.Stamps.{get-set-same}

-- the attributes that an alarm's place and row depend on
pub record KeepsPlace (f : Attr → Attr) : Type 0 where
  pub area : (a : Attr) → (f a).area ≡ a.area
  pub latching : (a : Attr) → (f a).latching ≡ a.latching
  pub max_shelve : (a : Attr) → (f a).max_shelve ≡ a.max_shelve

where_kept : {A B : Type 0} (part : A → B) (test : Bool) (given : T test → A) (other : A) → ((h : T test) → part (given h) ≡ part other) → part (where_passed test given other) ≡ part other
where_kept part true given other same = same tt
where_kept part false given other same = refl

pub priority_keeps : (n : ℕ) → KeepsPlace (with_priority n)
priority_keeps n = record {
  area = λ a. where_kept (λ (x : Attr). x.area) (nat_le 1 n && nat_le n 4) (λ h. record a { priority = n; priority_limits = priority_in n h }) a (λ h. refl);
  latching = λ a. where_kept (λ (x : Attr). x.latching) (nat_le 1 n && nat_le n 4) (λ h. record a { priority = n; priority_limits = priority_in n h }) a (λ h. refl);
  max_shelve = λ a. where_kept (λ (x : Attr). x.max_shelve) (nat_le 1 n && nat_le n 4) (λ h. record a { priority = n; priority_limits = priority_in n h }) a (λ h. refl);
}

pub setpoint_keeps : (v : ℤ) → KeepsPlace (with_setpoint v)
setpoint_keeps v = record {
  area = λ a. where_kept (λ (x : Attr). x.area) (is_reading v) (λ h. record a { setpoint = v; setpoint_range = reading_in v h }) a (λ h. refl);
  latching = λ a. where_kept (λ (x : Attr). x.latching) (is_reading v) (λ h. record a { setpoint = v; setpoint_range = reading_in v h }) a (λ h. refl);
  max_shelve = λ a. where_kept (λ (x : Attr). x.max_shelve) (is_reading v) (λ h. record a { setpoint = v; setpoint_range = reading_in v h }) a (λ h. refl);
}

same_keeps : KeepsPlace (λ a. a)
same_keeps = record { area = λ a. refl; latching = λ a. refl; max_shelve = λ a. refl }

pub after_keeps : (action : Action) → KeepsPlace (attr_after action)
after_keeps (SetPriority i n) = priority_keeps n
after_keeps (SetSetpoint i v) = setpoint_keeps v
after_keeps (Clock t) = same_keeps
after_keeps (Value i v) = same_keeps
after_keeps (Ack i) = same_keeps
after_keeps (Reset i) = same_keeps
after_keeps (Shelve i s) = same_keeps
after_keeps (Unshelve i) = same_keeps
after_keeps (Oos i on) = same_keeps
after_keeps (Design i on) = same_keeps

-- each alarm stays in its area
area_here : (attrs : List Attr) (i : ℕ) (f : Attr → Attr) (o : Option Attr) → KeepsPlace f → slice_get attrs i ≡ o → area_in (slice_get (with_change attrs i f o) i) ≡ area_in (slice_get attrs i)
area_here attrs i f None same e = refl
area_here attrs i f (Some a) same e = ap area_in (get-set-same attrs i a (f a) e) ∙ same.area a ∙ sym (ap area_in e)

pub area_kept : (attrs : List Attr) (i j : ℕ) (f : Attr → Attr) → KeepsPlace f → area_in (slice_get (change attrs i f) j) ≡ area_in (slice_get attrs j)
area_kept attrs i j f same = elim (cases_eq i j) [
  | inl e ↦ subst (λ k. area_in (slice_get (change attrs i f) k) ≡ area_in (slice_get attrs k)) e (area_here attrs i f (slice_get attrs i) same refl)
  | inr d ↦ ap area_in (change-off attrs i j f d)
]

-- an alarm is as it was
between-as : (rest : List ℕ) (j now : ℕ) (a b : Attr) (s : State) (ms : List ℕ) → b.latching ≡ a.latching → b.max_shelve ≡ a.max_shelve → IsBetween rest j now a s ms → IsBetween rest j now b s ms
between-as rest j now a b s ms l m h = record {
  state = h.state;
  suits = rw l h.suits;
  moments = h.moments;
  few = h.few;
  annunciated = h.annunciated;
  longest = λ d e. (let r = h.longest d e in omega arith);
  ending = h.ending;
}

pub between-configured : (rest : List ℕ) (now : ℕ) (attrs : List Attr) (rows : List State) (moments : List (List ℕ)) (i : ℕ) (f : Attr → Attr) → KeepsPlace f
    → ((j : ℕ) (a : Attr) (s : State) (ms : List ℕ) → slice_get attrs j ≡ Some a → slice_get rows j ≡ Some s → slice_get moments j ≡ Some ms → IsBetween rest j now a s ms)
    → (j : ℕ) (b : Attr) (s : State) (ms : List ℕ) → slice_get (change attrs i f) j ≡ Some b → slice_get rows j ≡ Some s → slice_get moments j ≡ Some ms → IsBetween rest j now b s ms
between-configured rest now attrs rows moments i f same old j b s ms e r m = elim (cases_eq i j) [
  | inl k ↦
      let x = change-at attrs i f b (ap (slice_get (change attrs i f)) k ∙ e) in
      let here : slice_get attrs j ≡ Some x.0 = sym (ap (slice_get attrs) k) ∙ x.1 in
      between-as rest j now x.0 b s ms (sym (ap (λ (a : Attr). a.latching) x.2) ∙ same.latching x.0) (sym (ap (λ (a : Attr). a.max_shelve) x.2) ∙ same.max_shelve x.0) (old j x.0 s ms here r m)
  | inr d ↦ old j b s ms (sym (change-off attrs i j f d) ∙ e) r m
]

-- a plant's fields stay as they have to be
pub sound-configured : (q : Condensed) (i : ℕ) (f : Attr → Attr) → KeepsPlace f → IsSound q → IsSound (with_attributes q i f)
sound-configured q i f same h = record {
  rows = h.rows;
  attrs = change-length q.panel.attrs i f ∙ h.attrs;
  moments = h.moments;
  areas = h.areas;
  in_areas = change-all (λ a. a.area < length q.kept.ages) q.panel.attrs i f (λ a l. (let e = same.area a in omega arith)) h.in_areas;
  ages = h.ages;
  first_stamp = h.first_stamp;
  stamps = h.stamps;
  actions = h.actions;
  annunciations = h.annunciations;
}

-- an alarm that admits an action is there
pub admitted-there : (action : Action) (oa : Option Attr) (os : Option State) → alarm_refusal action oa os ≡ None → (a : Attr) × (oa ≡ Some a)
admitted-there action None os h = absurd (none-some _ (sym h))
admitted-there action (Some a) None h = (a, refl)
admitted-there action (Some a) (Some s) h = (a, refl)

pub set-changed : (attrs : List Attr) (i : ℕ) (f : Attr → Attr) (a b : Attr) → slice_get attrs i ≡ Some a → b ≡ f a → slice_set attrs i b ≡ change attrs i f
set-changed attrs i f a b here is = ap (slice_set attrs i) is ∙ sym (ap (with_change attrs i f) here)
