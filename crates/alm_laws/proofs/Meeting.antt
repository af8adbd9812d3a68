-- What an accepted action leaves meets the sentences that leave one plant.
use Rattle.std.proofs.Common.{◌≡◌, ◌≢◌, ℕ, ℤ, ◌+◌, ◌-◌, ◌<◌, ◌≤◌, Bool, true, false, not, cond, ◌&&◌, List, [], ◌∷◌, ◌++◌, length, get_or, take, replicate, zero, suc, Option, Some, None, Ok, is_some, unwrap_or, refl, sym, ap, ◌∙◌, subst, arith, inl, inr, true≢false, IsTrue}
use Rattle.std.specs.Prelude.{◌↔◌, ◌==◌, slice_get, fold, filter, count_by, nat_le, nat_lt, AllPairs, Contains, option_map, All, T}
use Rattle.std.proofs.lemmas.Bool.{cases_eq, cases_Bool, and_parts, and_from, eqb-true, eq-eqb, leb-true, cases_lt, lt-ltb}
use Rattle.std.proofs.lemmas.Bool.Decides.{nat_tests}
use Rattle.std.proofs.lemmas.List.{get_or-take, get_or_append_left, get_or-replicate, length-take, length-replicate, length-append, length-map}
use Rattle.std.proofs.Math.Seq.{get_or-append_right}
use Rattle.std.proofs.lemmas.Option.{none-some, same_Some, slice_get_within, slice_get-map, get_or_from_slice_get}
use Rattle.alm_types.specs.declared.attr.Attr.{Attr}
use Rattle.alm_types.specs.declared.alarm_id.AlarmId.{AlarmId}
use Rattle.alm_types.specs.declared.action.Action.{Action}
use Rattle.alm_types.specs.declared.action.Action.TheVariants.{Clock, Value, Ack, Reset, Shelve, Unshelve, Oos, Design, SetPriority, SetSetpoint}
use Rattle.alm_types.specs.declared.refusal.Refusal.TheVariants.{PriorityRange, SameValue}
use Rattle.alm_types.specs.declared.request.Request.{Request}
use Rattle.alm_types.specs.Wants.{wanted_action}
use Rattle.alm_types.specs.Actions.{alarm_of}
use Rattle.alm_types.specs.Changes.{where_passed, with_priority, with_setpoint}
use Rattle.alm_types.specs.Readings.{is_reading}
use Rattle.alm_state.specs.Rows.{State}
use Rattle.alm_state.specs.Outcome.{outcome, row_refusal, unless}
use Rattle.alm_state.specs.Suits.{suits}
use Rattle.alm_state.specs.declared.outcome.Outcome.{Outcome}
use Rattle.alm_lists.specs.Orders.{Precedes, RisesByRecursion}
use Rattle.alm_lists.proofs.Each.{all-filter}
use Rattle.alm_lists.proofs.Sorted.{rises-filter, rises_same}
use Rattle.alm_model.specs.Plant.{Condensed, Measures}
use Rattle.alm_model.specs.Accept.{accept, own_refusal, alarm_refusal}
use Rattle.alm_model.specs.Keeping.{in_brief, ages_after}
use Rattle.alm_model.specs.Lists.{due, is_due, is_one, passes, deadline, key_of, stamp, stamp_of}
use Rattle.alm_model.specs.Step.{touch, unshelve, later, with_one_more, step}
use Rattle.alm_model.specs.Rules.{KeepsRules, IsAges}
use Rattle.alm_model.proofs.Kept.{there}
use Rattle.alm_model.proofs.Listed.{listed-members}
use Rattle.alm_model.proofs.Measured.{change-length, change-at, change-off}
use Rattle.alm_model.proofs.Members.{Has, Has-from, Contains-from, Has-filter, filter-Has, AllPairs-from, of_one, of_each}
use Rattle.alm_model.proofs.Rising.{each-rises}
use Rattle.alm_model.proofs.Runs.{run_sizes, run_attrs}
use Rattle.alm_laws.specs.Alarm.{TakesAction, annunciates, shelves}
use Rattle.alm_laws.specs.Left.{IsLeft, is_annunciated_then, is_shelved_then}
use Rattle.alm_laws.specs.Plant.{Becomes, configures}
use Rattle.alm_laws.specs.Steps.{is_reached, is_annunciated_by, IsAnnunciatedBy, shelving_end, AreAnnunciatedInOrder, moment_left, priority_left, setpoint_left, AttrLeft, AgesLeft, IsLeftBehind}
use Rattle.alm_laws.proofs.AlarmLaws.{annunciated-waits, unless-none}
use Rattle.alm_laws.proofs.Asking.{touch-keeps, effect-attrs}
use Rattle.alm_laws.proofs.Clocked.{fold-now, each-counted, priority-set, setpoint-set}
use Rattle.alm_laws.proofs.Left.{one-row}
use Rattle.alm_laws.proofs.Listing.{passes-there}
use Rattle.alm_laws.proofs.Measuring.{flood-so}
use Rattle.alm_laws.proofs.Moved.{row-then, admitted-by, by-action, by-clock}
use Rattle.alm_laws.proofs.Moving.{is_clock, alarm-at, no-itself, own-first}
use Rattle.alm_laws.proofs.Plants.{accepted-parts, both-none, others-stay}
use Rattle.alm_laws.proofs.Stepped.{is_free, IsReady, AreReady, IsYounger, in_area, younger-area, area-same, count-more, touch-is, put-kept, put-stamps, note-here, note-other, fold-next, fold-stamps, fold-silent, fold-told, fold-ages, one-kept, all-after}

-- ---- measures in which the annunciations of a list are noted

pub record IsNoted (q : Condensed) (list : List ℕ) (m : Measures) : Type 0 where
  pub as_many_moments : length m.moments ≡ length q.kept.moments
  pub as_many_ages : length m.ages ≡ length q.kept.ages
  pub told : (i : ℕ) (ms : List ℕ) → Has i list → slice_get q.kept.moments i ≡ Some ms → slice_get m.moments i ≡ Some (take 3 (q.panel.now ∷ ms))
  pub silent : (i : ℕ) → (Has i list → ⊥) → slice_get m.moments i ≡ slice_get q.kept.moments i
  pub ages : (area : ℕ) (ages : List ℕ) → slice_get q.kept.ages area ≡ Some ages
      → (after : List ℕ) × (slice_get m.ages area ≡ Some after) × IsYounger (count_by (in_area q.panel.attrs area) list) ages after

noted-long : (b : Bool) (q : Condensed) (i : ℕ)
    → (length (cond b (in_brief.note q.panel i q.kept) q.kept).moments ≡ length q.kept.moments) × (length (cond b (in_brief.note q.panel i q.kept) q.kept).ages ≡ length q.kept.ages)
noted-long true q i = (change-length q.kept.moments i _, change-length q.kept.ages _ _)
noted-long false q i = (refl, refl)

fold-long : (p : ℕ → Bool) (list : List ℕ) (q : Condensed) → AreReady p q list
    → (length (fold (unshelve in_brief) q list).kept.moments ≡ length q.kept.moments) × (length (fold (unshelve in_brief) q list).kept.ages ≡ length q.kept.ages)
fold-long p [] q r = (refl, refl)
fold-long p (j ∷ list) q r =
    let rest = fold-long p list (unshelve in_brief q j) (all-after p q j list r.2 r.1) in
    let one = noted-long (p j) q j in
    let kept = one-kept p q j r.0 in
    (rest.0 ∙ ap (λ m. length m.moments) kept ∙ one.0, rest.1 ∙ ap (λ m. length m.ages) kept ∙ one.1)

fold-noted : (p : ℕ → Bool) (list : List ℕ) (q : Condensed) → AreReady p q list → IsNoted q (filter p list) (fold (unshelve in_brief) q list).kept
fold-noted p list q r = record {
  as_many_moments = (fold-long p list q r).0;
  as_many_ages = (fold-long p list q r).1;
  told = λ i ms h has. (let f = filter-Has p i list h in fold-told p list q i ms r f.0 f.1 has);
  silent = λ i out. fold-silent p list q i r out;
  ages = λ area ages has. fold-ages p list q area ages r has;
}

abbrev one_if : Bool → ℕ → List ℕ
one_if b n = cond b (n ∷ []) []

one-noted : (b : Bool) (q : Condensed) (n : ℕ) → IsNoted q (one_if b n) (cond b (in_brief.note q.panel n q.kept) q.kept)
one-noted b q n = record {
  as_many_moments = (noted-long b q n).0;
  as_many_ages = (noted-long b q n).1;
  told = told-one b q n;
  silent = λ i out. note-other b q n i (λ so same. out (has-one b n i so same));
  ages = λ area ages has. (let y = younger-area b (in_area q.panel.attrs area n) q n area ages (ap (λ k. k == area) (sym (area-same (slice_get q.panel.attrs n)))) has in
      (y.0, y.1, subst (λ k. IsYounger k ages y.0) (one-count b (in_area q.panel.attrs area) n) y.2));
} where
  has-one : (b : Bool) (n i : ℕ) → b ≡ true → n ≡ i → Has i (one_if b n)
  has-one true n i so same = inl same
  has-one false n i so same = absurd (true≢false (sym so))

  told-one : (b : Bool) (q : Condensed) (n i : ℕ) (ms : List ℕ) → Has i (one_if b n) → slice_get q.kept.moments i ≡ Some ms
      → slice_get (cond b (in_brief.note q.panel n q.kept) q.kept).moments i ≡ Some (take 3 (q.panel.now ∷ ms))
  told-one true q n i ms (inl same) has = subst (λ k. slice_get (in_brief.note q.panel k q.kept).moments i ≡ Some (take 3 (q.panel.now ∷ ms))) (sym same) (note-here true q i ms refl has)
  told-one true q n i ms (inr h) has = absurd h
  told-one false q n i ms h has = absurd h

  one-count : (b : Bool) (t : ℕ → Bool) (n : ℕ) → cond (b && t n) 1 0 ≡ count_by t (one_if b n)
  one-count b t n = let e : cond (b && t n) 1 0 + count_by t [] ≡ cond (b && t n) 1 0 = omega arith in sym (count-more b t n [] ∙ e)

-- ---- the ages

all-at : {A : Type 0} (P : A → Type 0) (xs : List A) (i : ℕ) (x : A) → All P xs → slice_get xs i ≡ Some x → P x
all-at P xs i x all e = subst P (get_or_from_slice_get xs i x x e) (all i x (slice_get_within xs i x e))

aged : (d age : ℕ) (old : List ℕ) → age < 600 → get_or (ages_after d old) age 0 ≡ cond (nat_lt age d) 0 (get_or old (age - d) 0)
aged d age old l = get_or-take 600 (replicate d 0 ++ old) age 0 l ∙ elim (cases_lt age d) [
  | inl early ↦
      let zeros : List ℕ = replicate d 0 in let size : length zeros ≡ d = length-replicate d 0 in
      get_or_append_left zeros old 0 age (omega (arith, size)) ∙ get_or-replicate d age 0 0 early ∙ (rw (lt-ltb age d early) refl)
  | inr late ↦
      let zeros : List ℕ = replicate d 0 in let size : length zeros ≡ d = length-replicate d 0 in
      let off : nat_lt age d ≡ false = grind (arith, nat_tests) in
      get_or-append_right zeros old age 0 (omega (arith, size)) ∙ ap (λ n. get_or old (age - n) 0) size ∙ (rw off refl)
]

aged-long : (d : ℕ) (old : List ℕ) → length old ≡ 600 → length (ages_after d old) ≡ 600
aged-long d old e = length-take 600 (replicate d 0 ++ old) ∙ (let all = length-append (replicate d 0) old in let zeros : List ℕ = replicate d 0 in let size : length zeros ≡ d = length-replicate d 0 in omega (arith, all, size, e))

ages-left : (d n : ℕ) (old after : List ℕ) → length old ≡ 600 → IsYounger n (ages_after d old) after → AgesLeft d n old after
ages-left d n old after e y = record {
  long = y.long ∙ aged-long d old e;
  each = λ age l. (let size = aged-long d old e in y.each age (omega (arith, l, size)) ∙ ap (λ x. x + cond (age == 0) n 0) (aged d age old l));
}

ages-still : (n : ℕ) (old after : List ℕ) → length old ≡ 600 → IsYounger n old after → AgesLeft 0 n old after
ages-still n old after e y = record {
  long = y.long ∙ e;
  each = λ age l. (let none : nat_lt age 0 ≡ false = grind (arith, nat_tests) in let same : age - 0 ≡ age = omega arith in
      y.each age (omega (arith, l, e)) ∙ (rw (none, same) refl));
}

-- ---- attributes

left-same : (action : Action) (i : ℕ) (a b : Attr) → b ≡ a → priority_left action a.priority ≡ a.priority → setpoint_left action a.setpoint ≡ a.setpoint → AttrLeft action i a b
left-same action i a b same p s = record {
  others = λ _. same;
  priority = λ _. ap (λ x. x.priority) same ∙ sym p;
  setpoint = λ _. ap (λ x. x.setpoint) same ∙ sym s;
  kind = ap (λ x. x.kind) same;
  deadband = ap (λ x. x.deadband) same;
  area = ap (λ x. x.area) same;
  latching = ap (λ x. x.latching) same;
  max_shelve = ap (λ x. x.max_shelve) same;
  tag = ap (λ x. x.tag) same;
  text = ap (λ x. x.text) same;
}

left-other : (action : Action) (i : ℕ) (a b : Attr) → b ≡ a → alarm_of action ≢ i → AttrLeft action i a b
left-other action i a b same off = record {
  others = λ _. same;
  priority = λ e. absurd (off e);
  setpoint = λ e. absurd (off e);
  kind = ap (λ x. x.kind) same;
  deadband = ap (λ x. x.deadband) same;
  area = ap (λ x. x.area) same;
  latching = ap (λ x. x.latching) same;
  max_shelve = ap (λ x. x.max_shelve) same;
  tag = ap (λ x. x.tag) same;
  text = ap (λ x. x.text) same;
}

not-passed : {A : Type 0} (test : Bool) (given : T test → A) (other : A) → test ≡ false → where_passed test given other ≡ other
not-passed true given other e = absurd (true≢false e)
not-passed false given other e = refl

priority-left : (q : Condensed) (j n i : ℕ) (k : AlarmId) (a b : Attr) → k.0 ≡ j → own_refusal q.panel (SetPriority k n) ≡ None → slice_get q.panel.attrs i ≡ Some a
    → slice_get q.panel.rows i ≡ slice_get q.panel.rows i → slice_get (step q (SetPriority k n)).panel.attrs i ≡ Some b → AttrLeft (SetPriority k n) i a b
priority-left q j n i k a b here free has row after = elim (cases_eq k.0 i) [
  | inl same ↦
      let has_k : slice_get q.panel.attrs k.0 ≡ Some a = ap (slice_get q.panel.attrs) same ∙ has in
      let after_k : slice_get (step q (SetPriority k n)).panel.attrs k.0 ≡ Some b = ap (slice_get (step q (SetPriority k n)).panel.attrs) same ∙ after in
      let within = priority-in q k n a free has_k in
      let set = priority-set q k n a b within.0 within.1 has_k after_k in
      record {
        others = λ off. absurd (off same);
        priority = λ _. set.0;
        setpoint = λ _. set.1.setpoint;
        kind = set.1.kind;
        deadband = set.1.deadband;
        area = set.1.area;
        latching = set.1.latching;
        max_shelve = set.1.max_shelve;
        tag = set.1.tag;
        text = set.1.text;
      }
  | inr off ↦ left-other (SetPriority k n) i a b (same_Some _ _ (sym after ∙ change-off q.panel.attrs k.0 i (with_priority n) off ∙ has)) off
] where
  refused : (q : Condensed) (k : AlarmId) (n : ℕ) (a : Attr) (o : Option State) → alarm_refusal (SetPriority k n) (Some a) o ≡ None → (s : State) × (row_refusal (SetPriority k n) a s ≡ None)
  refused q k n a (Some s) e = (s, e)
  refused q k n a None e = absurd (none-some _ (sym e))

  priority-in : (q : Condensed) (k : AlarmId) (n : ℕ) (a : Attr) → own_refusal q.panel (SetPriority k n) ≡ None → slice_get q.panel.attrs k.0 ≡ Some a → (1 ≤ n) × (n ≤ 4)
  priority-in q k n a free has =
      let r = refused q k n a (slice_get q.panel.rows k.0) (ap (λ o. alarm_refusal (SetPriority k n) o (slice_get q.panel.rows k.0)) (sym has) ∙ free) in
      let parts = both-none (unless (nat_le 1 n && nat_le n 4) PriorityRange) (unless (not (n == a.priority)) SameValue) r.1 in
      let tests = and_parts (nat_le 1 n) (nat_le n 4) (unless-none (nat_le 1 n && nat_le n 4) PriorityRange parts.0) in
      (leb-true 1 n tests.0, leb-true n 4 tests.1)

setpoint-here : (q : Condensed) (k : AlarmId) (v : ℤ) (a b : Attr) → slice_get q.panel.attrs k.0 ≡ Some a → slice_get (step q (SetSetpoint k v)).panel.attrs k.0 ≡ Some b → AttrLeft (SetSetpoint k v) k.0 a b
setpoint-here q k v a b has after = elim (cases_Bool (is_reading v)) [
  | inl so ↦
      let set = setpoint-set q k v a b so has after in
      record {
        others = λ off. absurd (off refl);
        priority = λ _. set.1.priority;
        setpoint = λ _. set.0 ∙ sym (ap (λ t. cond t v a.setpoint) so);
        kind = set.1.kind;
        deadband = set.1.deadband;
        area = set.1.area;
        latching = set.1.latching;
        max_shelve = set.1.max_shelve;
        tag = set.1.tag;
        text = set.1.text;
      }
  | inr isnt ↦
      let c = change-at q.panel.attrs k.0 (with_setpoint v) b after in
      let same : b ≡ a = sym c.2 ∙ ap (with_setpoint v) (same_Some _ _ (sym c.1 ∙ has)) ∙ not-passed (is_reading v) _ a isnt in
      left-same (SetSetpoint k v) k.0 a b same refl (ap (λ t. cond t v a.setpoint) isnt)
]

setpoint-left : (q : Condensed) (k : AlarmId) (v : ℤ) (i : ℕ) (a b : Attr) → slice_get q.panel.attrs i ≡ Some a → slice_get (step q (SetSetpoint k v)).panel.attrs i ≡ Some b → AttrLeft (SetSetpoint k v) i a b
setpoint-left q k v i a b has after = elim (cases_eq k.0 i) [
  | inl same ↦ subst (λ x. AttrLeft (SetSetpoint k v) x a b) same (setpoint-here q k v a b (ap (slice_get q.panel.attrs) same ∙ has) (ap (slice_get (step q (SetSetpoint k v)).panel.attrs) same ∙ after))
  | inr off ↦ left-other (SetSetpoint k v) i a b (same_Some _ _ (sym after ∙ change-off q.panel.attrs k.0 i (with_setpoint v) off ∙ has)) off
]

-- an action that sets no attributes
pub unset : (q : Condensed) (action : Action) (i : ℕ) (a b : Attr) → configures action ≡ false → slice_get q.panel.attrs i ≡ Some a → slice_get (step q action).panel.attrs i ≡ Some b → b ≡ a
unset q action i a b e has after = elim (effect-attrs (with_one_more q) action i) [
  | inl is ↦ absurd (true≢false (sym is.0 ∙ e))
  | inr same ↦ same_Some _ _ (sym after ∙ same ∙ has)
]

pub attr-left : (q : Condensed) (action : Action) (i : ℕ) (a b : Attr) → own_refusal q.panel action ≡ None → slice_get q.panel.attrs i ≡ Some a → slice_get (step q action).panel.attrs i ≡ Some b → AttrLeft action i a b
attr-left q (Clock t) i a b free has after = left-same (Clock t) i a b (unset q (Clock t) i a b refl has after) refl refl
attr-left q (Value k v) i a b free has after = left-same (Value k v) i a b (unset q (Value k v) i a b refl has after) refl refl
attr-left q (Ack k) i a b free has after = left-same (Ack k) i a b (unset q (Ack k) i a b refl has after) refl refl
attr-left q (Reset k) i a b free has after = left-same (Reset k) i a b (unset q (Reset k) i a b refl has after) refl refl
attr-left q (Shelve k n) i a b free has after = left-same (Shelve k n) i a b (unset q (Shelve k n) i a b refl has after) refl refl
attr-left q (Unshelve k) i a b free has after = left-same (Unshelve k) i a b (unset q (Unshelve k) i a b refl has after) refl refl
attr-left q (Oos k on) i a b free has after = left-same (Oos k on) i a b (unset q (Oos k on) i a b refl has after) refl refl
attr-left q (Design k on) i a b free has after = left-same (Design k on) i a b (unset q (Design k on) i a b refl has after) refl refl
attr-left q (SetPriority k n) i a b free has after = priority-left q k.0 n i k a b refl free has refl after
attr-left q (SetSetpoint k v) i a b free has after = setpoint-left q k v i a b has after

-- ---- a list by deadline

pub rises-keep : (p : ℕ → Bool) (key : ℕ → ℕ) (xs : List ℕ) → RisesByRecursion key xs → RisesByRecursion key (filter p xs)
rises-keep p key [] h = tt
rises-keep p key (x ∷ xs) h = elim (p x) as (λ b. RisesByRecursion key (cond b (x ∷ filter p xs) (filter p xs))) [ true ↦ (all-filter (Precedes key x) p xs h.0, rises-keep p key xs h.1) | false ↦ rises-keep p key xs h.1 ]

key-same : (o : Option State) → shelving_end o ≡ key_of deadline o
key-same None = refl
key-same (Some s) = refl

by-deadline : (rows : List State) (xs : List ℕ) → RisesByRecursion (λ i. key_of deadline (slice_get rows i)) xs → AllPairs (Precedes (λ i. shelving_end (slice_get rows i))) xs
by-deadline rows xs h =
    let old : ℕ → ℕ = λ i. key_of deadline (slice_get rows i) in
    let new : ℕ → ℕ = λ i. shelving_end (slice_get rows i) in
    AllPairs-from (Precedes new) xs (each-rises new xs (rises_same old new xs (of_each (λ i. new i ≡ old i) xs (λ i _. key-same (slice_get rows i))) h))

passes-at : (test : Attr → State → Bool) (a : Attr) (s : State) (oa : Option Attr) (os : Option State) → oa ≡ Some a → os ≡ Some s → passes test oa os ≡ test a s
passes-at test a s oa os e f = ap (λ o. passes test o os) e ∙ ap (passes test (Some a)) f

-- ---- what a CLOCK leaves

reach-same : (o : Option ℕ) (t : ℕ) → (is_some o && nat_le (unwrap_or o 0) t) ≡ is_reached t o
reach-same None t = refl
reach-same (Some d) t = refl

module _ (q : Condensed) (t : ℕ) where
  abbrev freed : ℕ → Bool
  freed i = is_one (λ a s. is_free s) q.panel.attrs q.panel.rows i

  abbrev begun : Condensed
  begun = later in_brief t (with_one_more q)

  clock-those : (i : ℕ) → Contains (filter freed (due t q.panel)) i ↔ IsAnnunciatedBy q (Clock t) i
  clock-those i = (
    λ c. (let f = filter-Has freed i (due t q.panel) (Has-from i (filter freed (due t q.panel)) c) in
        let d = (listed-members deadline (is_due t) q.panel.attrs q.panel.rows i).0 (Contains-from i (due t q.panel) f.0) in
        let w = passes-there (is_due t) (slice_get q.panel.attrs i) (slice_get q.panel.rows i) d in
        let y : is_free w.1 ≡ true = sym (passes-at (λ a s. is_free s) w.0 w.1 (slice_get q.panel.attrs i) (slice_get q.panel.rows i) w.2 w.3) ∙ f.1 in
        (w.0, w.1, w.2, w.3, and_from (is_reached t w.1.shelved_until) (is_free w.1) (sym (reach-same w.1.shelved_until t) ∙ w.4) y)),
    λ h. (let parts = and_parts (is_reached t h.1.shelved_until) (is_free h.1) h.4 in
        let d : is_one (is_due t) q.panel.attrs q.panel.rows i ≡ true = passes-at (is_due t) h.0 h.1 (slice_get q.panel.attrs i) (slice_get q.panel.rows i) h.2 h.3 ∙ reach-same h.1.shelved_until t ∙ parts.0 in
        let y : freed i ≡ true = passes-at (λ a s. is_free s) h.0 h.1 (slice_get q.panel.attrs i) (slice_get q.panel.rows i) h.2 h.3 ∙ parts.1 in
        Contains-from i (filter freed (due t q.panel)) (Has-filter freed i (due t q.panel) (Has-from i (due t q.panel) ((listed-members deadline (is_due t) q.panel.attrs q.panel.rows i).1 d)) y)),
  )

  key : ℕ → ℕ
  key i = key_of deadline (slice_get q.panel.rows i)

  clock-rises : RisesByRecursion (λ i. key_of deadline (slice_get q.panel.rows i)) (due t q.panel)
  clock-rises = rises-filter (λ i. key_of deadline (slice_get q.panel.rows i)) (is_one (is_due t) q.panel.attrs q.panel.rows) 0 (length q.panel.rows)

  pub clock-list : AreAnnunciatedInOrder q (Clock t) (filter freed (due t q.panel))
  clock-list = record {
    order = by-deadline q.panel.rows (filter freed (due t q.panel)) (rises-keep freed (λ i. key_of deadline (slice_get q.panel.rows i)) (due t q.panel) clock-rises);
    those = clock-those;
  }

  one-ready : (i : ℕ) → Has i (due t q.panel) → IsReady freed begun i
  one-ready i h =
      let d = (listed-members deadline (is_due t) q.panel.attrs q.panel.rows i).0 (Contains-from i (due t q.panel) h) in
      let w = passes-there (is_due t) (slice_get q.panel.attrs i) (slice_get q.panel.rows i) d in
      record { attr = w.0; state = w.1; has = w.2; row = w.3; test = passes-at (λ a s. is_free s) w.0 w.1 (slice_get q.panel.attrs i) (slice_get q.panel.rows i) w.2 w.3 }

  ready-from : (list : List ℕ) → RisesByRecursion (λ i. key_of deadline (slice_get q.panel.rows i)) list → ((i : ℕ) → Has i list → IsReady freed begun i) → AreReady freed begun list
  ready-from [] h f = tt
  ready-from (j ∷ list) h f =
      let k : ℕ → ℕ = λ i. key_of deadline (slice_get q.panel.rows i) in
      (f j (inl refl), (λ m. no-itself k j (of_one (Precedes k j) list j h.0 m)), ready-from list h.1 (λ i m. f i (inr m)))

  clock-ready : AreReady freed begun (due t q.panel)
  clock-ready = ready-from (due t q.panel) clock-rises one-ready

  pub clock-noted : IsNoted begun (filter freed (due t q.panel)) (step q (Clock t)).kept
  clock-noted = fold-noted freed (due t q.panel) begun clock-ready

  pub clock-next : (step q (Clock t)).panel.next_stamp ≡ q.panel.next_stamp + length (filter freed (due t q.panel))
  clock-next = fold-next freed (due t q.panel) begun clock-ready

  pub clock-stamps : (k i : ℕ) → slice_get (filter freed (due t q.panel)) k ≡ Some i → stamp_of (step q (Clock t)).panel i ≡ q.panel.next_stamp + k
  clock-stamps k i e = fold-stamps freed (due t q.panel) begun clock-ready k i e

-- ---- what any action leaves

pub record IsMet (q : Condensed) (action : Action) : Type 0 where
  pub list : List ℕ
  pub in_order : AreAnnunciatedInOrder q action list
  pub stamps : (k i : ℕ) → slice_get list k ≡ Some i → stamp_of (step q action).panel i ≡ q.panel.next_stamp + k
  pub next : (step q action).panel.next_stamp ≡ q.panel.next_stamp + length list + cond (shelves action) 1 0
  pub as_many_moments : length (step q action).kept.moments ≡ length q.kept.moments
  pub as_many_ages : length (step q action).kept.ages ≡ length q.kept.ages
  pub told : (i : ℕ) (ms : List ℕ) → Has i list → slice_get q.kept.moments i ≡ Some ms → slice_get (step q action).kept.moments i ≡ Some (take 3 ((step q action).panel.now ∷ ms))
  pub silent : (i : ℕ) → (Has i list → ⊥) → slice_get (step q action).kept.moments i ≡ slice_get q.kept.moments i
  pub ages : (area : ℕ) (before after : List ℕ) → slice_get q.kept.ages area ≡ Some before → slice_get (step q action).kept.ages area ≡ Some after
      → AgesLeft ((step q action).panel.now - q.panel.now) (count_by (in_area q.panel.attrs area) list) before after

pub time-left : (q : Condensed) (action : Action) → (step q action).panel.now ≡ moment_left action q.panel.now
time-left q (Clock t) = fold-now (due t q.panel) (later in_brief t (with_one_more q))
time-left q (Value k v) = (touch-keeps (with_one_more q) k.0 (outcome q.panel.now q.panel.next_stamp (Value k v))).0
time-left q (Ack k) = (touch-keeps (with_one_more q) k.0 (outcome q.panel.now q.panel.next_stamp (Ack k))).0
time-left q (Reset k) = (touch-keeps (with_one_more q) k.0 (outcome q.panel.now q.panel.next_stamp (Reset k))).0
time-left q (Shelve k n) = (touch-keeps (with_one_more q) k.0 (outcome q.panel.now q.panel.next_stamp (Shelve k n))).0
time-left q (Unshelve k) = (touch-keeps (with_one_more q) k.0 (outcome q.panel.now q.panel.next_stamp (Unshelve k))).0
time-left q (Oos k on) = (touch-keeps (with_one_more q) k.0 (outcome q.panel.now q.panel.next_stamp (Oos k on))).0
time-left q (Design k on) = (touch-keeps (with_one_more q) k.0 (outcome q.panel.now q.panel.next_stamp (Design k on))).0
time-left q (SetPriority k n) = refl
time-left q (SetSetpoint k v) = refl

clock-met : (q : Condensed) (t : ℕ) → KeepsRules q → IsMet q (Clock t)
clock-met q t h =
    let noted = clock-noted q t in
    let list : List ℕ = filter (freed q t) (due t q.panel) in
    let at : (step q (Clock t)).panel.now ≡ t = time-left q (Clock t) in
    record {
      list = list;
      in_order = clock-list q t;
      stamps = clock-stamps q t;
      next = clock-next q t ∙ omega arith;
      as_many_moments = noted.as_many_moments;
      as_many_ages = noted.as_many_ages ∙ length-map q.kept.ages (ages_after (t - q.panel.now));
      told = λ i ms has e. noted.told i ms has e ∙ ap (λ n. Some (take 3 (n ∷ ms))) (sym at);
      silent = noted.silent;
      ages = λ area before after e f. (
          let aged_there : slice_get (begun q t).kept.ages area ≡ Some (ages_after (t - q.panel.now) before) = slice_get-map (ages_after (t - q.panel.now)) q.kept.ages area ∙ ap (option_map (ages_after (t - q.panel.now))) e in
          let y = noted.ages area (ages_after (t - q.panel.now) before) aged_there in
          let same : y.0 ≡ after = same_Some _ _ (sym y.1 ∙ f) in
          let long : length before ≡ 600 = (all-at (IsAges q.panel.now) q.kept.ages area before h.ages e).seconds in
          subst (λ d. AgesLeft d (count_by (in_area q.panel.attrs area) list) before after) (ap (λ n. n - q.panel.now) (sym at))
          (subst (AgesLeft (t - q.panel.now) (count_by (in_area q.panel.attrs area) list) before) same (ages-left (t - q.panel.now) (count_by (in_area q.panel.attrs area) list) before y.0 long y.2)));
    }

touched-both : (q : Condensed) (j : ℕ) (f : Attr → State → Outcome) (a : Attr) (s : State) → slice_get q.panel.attrs j ≡ Some a → slice_get q.panel.rows j ≡ Some s
    → ((touch in_brief (with_one_more q) j f).kept ≡ cond (annunciates (f a s)) (in_brief.note q.panel j q.kept) q.kept)
    × ((touch in_brief (with_one_more q) j f).panel.next_stamp ≡ q.panel.next_stamp + cond (annunciates (f a s)) 1 0 + cond (is_shelved_then (f a s)) 1 0)
touched-both q j f a s has row =
    let is = touch-is (with_one_more q) j f a s has row in
    (ap (λ x. x.kept) is ∙ put-kept (with_one_more q) j (f a s), ap (λ x. x.panel.next_stamp) is ∙ put-stamps (with_one_more q) j (f a s))

effect-both : (q : Condensed) (action : Action) (a : Attr) (s : State) → is_clock action ≡ false → slice_get q.panel.attrs (alarm_of action) ≡ Some a → slice_get q.panel.rows (alarm_of action) ≡ Some s
    → ((step q action).kept ≡ cond (annunciates (outcome q.panel.now q.panel.next_stamp action a s)) (in_brief.note q.panel (alarm_of action) q.kept) q.kept)
    × ((step q action).panel.next_stamp ≡ q.panel.next_stamp + cond (annunciates (outcome q.panel.now q.panel.next_stamp action a s)) 1 0 + cond (is_shelved_then (outcome q.panel.now q.panel.next_stamp action a s)) 1 0)
effect-both q (Clock t) a s e has row = absurd (true≢false e)
effect-both q (Value k v) a s e has row = touched-both q k.0 (outcome q.panel.now q.panel.next_stamp (Value k v)) a s has row
effect-both q (Ack k) a s e has row = touched-both q k.0 (outcome q.panel.now q.panel.next_stamp (Ack k)) a s has row
effect-both q (Reset k) a s e has row = touched-both q k.0 (outcome q.panel.now q.panel.next_stamp (Reset k)) a s has row
effect-both q (Shelve k n) a s e has row = touched-both q k.0 (outcome q.panel.now q.panel.next_stamp (Shelve k n)) a s has row
effect-both q (Unshelve k) a s e has row = touched-both q k.0 (outcome q.panel.now q.panel.next_stamp (Unshelve k)) a s has row
effect-both q (Oos k on) a s e has row = touched-both q k.0 (outcome q.panel.now q.panel.next_stamp (Oos k on)) a s has row
effect-both q (Design k on) a s e has row = touched-both q k.0 (outcome q.panel.now q.panel.next_stamp (Design k on)) a s has row
effect-both q (SetPriority k n) a s e has row = (refl, omega arith)
effect-both q (SetSetpoint k v) a s e has row = (refl, omega arith)

pub named-by : (now : ℕ) (action : Action) (i : ℕ) (a : Attr) (s : State) → is_clock action ≡ false → is_annunciated_by now action i a s ≡ ((alarm_of action == i) && is_annunciated_then now action a s)
named-by now (Clock t) i a s e = absurd (true≢false e)
named-by now (Value k v) i a s e = refl
named-by now (Ack k) i a s e = refl
named-by now (Reset k) i a s e = refl
named-by now (Shelve k n) i a s e = refl
named-by now (Unshelve k) i a s e = refl
named-by now (Oos k on) i a s e = refl
named-by now (Design k on) i a s e = refl
named-by now (SetPriority k n) i a s e = refl
named-by now (SetSetpoint k v) i a s e = refl

-- the list of one alarm
has-if : (b : Bool) (n i : ℕ) → Has i (one_if b n) → (b ≡ true) × (n ≡ i)
has-if true n i (inl same) = (refl, same)
has-if true n i (inr h) = absurd h
has-if false n i h = absurd h

if-has : (b : Bool) (n i : ℕ) → b ≡ true → n ≡ i → Has i (one_if b n)
if-has true n i e same = inl same
if-has false n i e same = absurd (true≢false (sym e))

pairs-if : (R : ℕ → ℕ → Type 0) (b : Bool) (n : ℕ) → AllPairs R (one_if b n)
pairs-if R true n i j d l m = absurd (omega arith)
pairs-if R false n i j d l m = absurd (omega arith)

length-if : (b : Bool) (n : ℕ) → length (one_if b n) ≡ cond b 1 0
length-if true n = refl
length-if false n = refl

at-if : (b : Bool) (n k i : ℕ) → slice_get (one_if b n) k ≡ Some i → (b ≡ true) × (k ≡ 0) × (n ≡ i)
at-if true n zero i e = (refl, refl, same_Some _ _ e)
at-if true n (suc k) i e = absurd (none-some _ e)
at-if false n k i e = absurd (none-some _ e)

module _ (q : Condensed) (action : Action) (a : Attr) (s : State) (h : KeepsRules q) (timeless : is_clock action ≡ false) (has : slice_get q.panel.attrs (alarm_of action) ≡ Some a) (row : slice_get q.panel.rows (alarm_of action) ≡ Some s)
    (takes : TakesAction action a s) (fits : IsTrue (suits a.latching s.core)) where
  left : IsLeft q.panel.now q.panel.next_stamp action a s (outcome q.panel.now q.panel.next_stamp action a s)
  left = (one-row q.panel.now q.panel.next_stamp action a s (outcome q.panel.now q.panel.next_stamp action a s) takes fits).1 refl

  abbrev loud : Bool
  loud = annunciates (outcome q.panel.now q.panel.next_stamp action a s)

  named-those : (i : ℕ) → Contains (one_if loud (alarm_of action)) i ↔ IsAnnunciatedBy q action i
  named-those i = (
    λ c. (let f = has-if loud (alarm_of action) i (Has-from i (one_if loud (alarm_of action)) c) in (
      a,
      s,
      ap (slice_get q.panel.attrs) (sym f.1) ∙ has,
      ap (slice_get q.panel.rows) (sym f.1) ∙ row,
      named-by q.panel.now action i a s timeless ∙ and_from (alarm_of action == i) (is_annunciated_then q.panel.now action a s) (eq-eqb (alarm_of action) i f.1) (sym left.annunciated ∙ f.0),
    )),
    λ w. (let parts = and_parts (alarm_of action == i) (is_annunciated_then q.panel.now action w.0 w.1) (sym (named-by q.panel.now action i w.0 w.1 timeless) ∙ w.4) in
        let same : alarm_of action ≡ i = eqb-true (alarm_of action) i parts.0 in
        let attr : w.0 ≡ a = same_Some _ _ (sym w.2 ∙ ap (slice_get q.panel.attrs) (sym same) ∙ has) in
        let state : w.1 ≡ s = same_Some _ _ (sym w.3 ∙ ap (slice_get q.panel.rows) (sym same) ∙ row) in
        let so : loud ≡ true = left.annunciated ∙ ap (λ x. is_annunciated_then q.panel.now action x s) (sym attr) ∙ ap (λ x. is_annunciated_then q.panel.now action w.0 x) (sym state) ∙ parts.1 in
        Contains-from i (one_if loud (alarm_of action)) (if-has loud (alarm_of action) i so same)),
  )

  stamp-here : loud ≡ true → stamp_of (step q action).panel (alarm_of action) ≡ q.panel.next_stamp
  stamp-here so =
      let within = slice_get_within q.panel.rows (alarm_of action) s row in
      let sizes = (run_sizes q (action ∷ []) h.measured).0 in
      let t = there (step q action).panel.rows (alarm_of action) (omega (arith, within, sizes)) in
      ap (key_of stamp) t.1 ∙ ap (λ x. x.stamp) (row-then q action a s t.0 timeless has row t.1) ∙ (annunciated-waits q.panel.now q.panel.next_stamp action a s so).1

  named-stamps : (k i : ℕ) → slice_get (one_if loud (alarm_of action)) k ≡ Some i → stamp_of (step q action).panel i ≡ q.panel.next_stamp + k
  named-stamps k i e = let f = at-if loud (alarm_of action) k i e in let here = stamp-here f.0 in let none = f.1 in subst (λ x. stamp_of (step q action).panel x ≡ q.panel.next_stamp + k) f.2 (omega (arith, here, none))

  named-noted : IsNoted q (one_if loud (alarm_of action)) (step q action).kept
  named-noted = subst (IsNoted q (one_if loud (alarm_of action))) (sym (effect-both q action a s timeless has row).0) (one-noted loud q (alarm_of action))

  still : (step q action).panel.now ≡ q.panel.now
  still = time-left q action ∙ unmoved action timeless where
    unmoved : (action : Action) → is_clock action ≡ false → moment_left action q.panel.now ≡ q.panel.now
    unmoved (Clock t) e = absurd (true≢false e)
    unmoved (Value k v) e = refl
    unmoved (Ack k) e = refl
    unmoved (Reset k) e = refl
    unmoved (Shelve k n) e = refl
    unmoved (Unshelve k) e = refl
    unmoved (Oos k on) e = refl
    unmoved (Design k on) e = refl
    unmoved (SetPriority k n) e = refl
    unmoved (SetSetpoint k v) e = refl

  pub named-met : IsMet q action
  named-met =
      let noted = named-noted in
      let both = effect-both q action a s timeless has row in
      record {
        list = one_if loud (alarm_of action);
        in_order = record { order = pairs-if (Precedes (λ i. shelving_end (slice_get q.panel.rows i))) loud (alarm_of action); those = named-those };
        stamps = named-stamps;
        next = both.1 ∙ ap (λ n. q.panel.next_stamp + n + cond (is_shelved_then (outcome q.panel.now q.panel.next_stamp action a s)) 1 0) (sym (length-if loud (alarm_of action)))
            ∙ ap (λ b. q.panel.next_stamp + length (one_if loud (alarm_of action)) + cond b 1 0) left.shelved;
        as_many_moments = noted.as_many_moments;
        as_many_ages = noted.as_many_ages;
        told = λ i ms m e. noted.told i ms m e ∙ ap (λ n. Some (take 3 (n ∷ ms))) (sym still);
        silent = noted.silent;
        ages = λ area before after e f. (
            let y = noted.ages area before e in
            let same : y.0 ≡ after = same_Some _ _ (sym y.1 ∙ f) in
            let long : length before ≡ 600 = (all-at (IsAges q.panel.now) q.kept.ages area before h.ages e).seconds in
            let none : (step q action).panel.now - q.panel.now ≡ 0 = (let at = still in omega (arith, at)) in
            subst (λ d. AgesLeft d (count_by (in_area q.panel.attrs area) (one_if loud (alarm_of action))) before after) (sym none)
            (subst (AgesLeft 0 (count_by (in_area q.panel.attrs area) (one_if loud (alarm_of action))) before) same (ages-still (count_by (in_area q.panel.attrs area) (one_if loud (alarm_of action))) before y.0 long y.2)));
      }

-- the alarm that an admitted action names
there-refused : (action : Action) (oa : Option Attr) (os : Option State) → alarm_refusal action oa os ≡ None → (a : Attr) × (s : State) × (oa ≡ Some a) × (os ≡ Some s)
there-refused action (Some a) (Some s) e = (a, s, refl, refl)
there-refused action (Some a) None e = absurd (none-some _ (sym e))
there-refused action None os e = absurd (none-some _ (sym e))

timeless-met : (q : Condensed) (action : Action) → KeepsRules q → is_clock action ≡ false → own_refusal q.panel action ≡ None
    → alarm_refusal action (slice_get q.panel.attrs (alarm_of action)) (slice_get q.panel.rows (alarm_of action)) ≡ None → IsMet q action
timeless-met q action h timeless own free =
    let w = there-refused action (slice_get q.panel.attrs (alarm_of action)) (slice_get q.panel.rows (alarm_of action)) free in
    let at = alarm-at q (alarm_of action) w.1 h w.3 in
    let fits : IsTrue (suits w.0.latching w.1.core) = subst (λ x. IsTrue (suits x.latching w.1.core)) (same_Some _ _ (sym at.has ∙ w.2)) at.keeps.suits in
    let takes : TakesAction action w.0 w.1 = record { state = at.keeps.state; admitted = admitted-by q action w.0 w.1 timeless own w.2 w.3 } in
    named-met q action w.0 w.1 h timeless w.2 w.3 takes fits

pub met : (q : Condensed) (action : Action) → KeepsRules q → own_refusal q.panel action ≡ None → IsMet q action
met q (Clock t) h free = clock-met q t h
met q (Value k v) h free = timeless-met q (Value k v) h refl free free
met q (Ack k) h free = timeless-met q (Ack k) h refl free free
met q (Reset k) h free = timeless-met q (Reset k) h refl free free
met q (Shelve k n) h free = timeless-met q (Shelve k n) h refl free free
met q (Unshelve k) h free = timeless-met q (Unshelve k) h refl free free
met q (Oos k on) h free = timeless-met q (Oos k on) h refl free free
met q (Design k on) h free = timeless-met q (Design k on) h refl free free
met q (SetPriority k n) h free = timeless-met q (SetPriority k n) h refl free free
met q (SetSetpoint k v) h free = timeless-met q (SetSetpoint k v) h refl free free

pub step-meets : (q : Condensed) (r : Request) → KeepsRules q → accept q.panel r ≡ Ok (wanted_action r) → IsLeftBehind q r (step q (wanted_action r))
step-meets q r h e =
    let own : own_refusal q.panel (wanted_action r) ≡ None = own-first (own_refusal q.panel (wanted_action r)) _ (accepted-parts q.panel r e).1 in
    let m = met q (wanted_action r) h own in
    let sizes = run_sizes q ((wanted_action r) ∷ []) h.measured in (
      m.list,
      m.in_order,
      record {
        moment = time-left q (wanted_action r);
        count = each-counted q (wanted_action r);
        large = record { rows = sizes.0; attrs = run_attrs q ((wanted_action r) ∷ []) h.measured; moments = m.as_many_moments; floods = sizes.1; ages = m.as_many_ages };
        attrs = λ i a b has after. attr-left q (wanted_action r) i a b own has after;
        rows = λ i a s t has before after. (let b : Becomes q r i s t = record { rules = h; accepted = e; before = before; after = after } in (by-action q r i a s t b has, by-clock q r i a s t b has, others-stay q r i s t b));
        stamps = m.stamps;
        next_stamp = m.next;
        annunciated = λ i before c has. m.told i before (Has-from i m.list c) has;
        silent = λ i out. m.silent i (λ x. out (Contains-from i m.list x));
        ages = m.ages;
        floods = λ area ages before f g. flood-so q (wanted_action r) area ages before f g;
      },
    )
