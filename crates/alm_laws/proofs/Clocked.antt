-- The clock, the count and what a console sets.
use Rattle.std.proofs.Common.{◌≡◌, ◌≢◌, ℕ, ℤ, ◌+◌, ◌<◌, ◌≤◌, Bool, true, false, ◌&&◌, cond, List, [], ◌∷◌, Option, Some, None, is_some, unwrap_or, refl, sym, ap, ◌∙◌, subst, arith, inl, inr, ◌⊎◌, true≢false}
use Rattle.std.specs.Prelude.{fold, slice_get, nat_le, length, T}
use Rattle.std.proofs.lemmas.Bool.{cases_eq, le-leb}
use Rattle.std.proofs.lemmas.Option.{none-some, same_Some}
use Rattle.alm_types.specs.declared.attr.Attr.{Attr}
use Rattle.alm_types.specs.declared.alarm_id.AlarmId.{AlarmId}
use Rattle.alm_types.specs.declared.action.Action.{Action}
use Rattle.alm_types.specs.declared.action.Action.TheVariants.{Clock, Value, Ack, Reset, Shelve, Unshelve, Oos, Design, SetPriority, SetSetpoint}
use Rattle.alm_types.specs.declared.request.Request.{Request}
use Rattle.alm_types.specs.Changes.{where_passed, with_priority, with_setpoint}
use Rattle.alm_types.specs.Readings.{is_reading}
use Rattle.alm_state.specs.Rows.{State, is_suppressed, is_annunciated}
use Rattle.alm_state.specs.Outcome.{outcome, without_shelving}
use Rattle.alm_state.specs.declared.core_state.Core.TheVariants.{Normal, Unack}
use Rattle.alm_state.specs.declared.outcome.Outcome.{Outcome}
use Rattle.alm_state.specs.declared.outcome.Outcome.TheVariants.{Changed, Annunciated, Shelved}
use Rattle.alm_lists.specs.Orders.{Precedes, RisesByRecursion}
use Rattle.alm_lists.proofs.Sorted.{rises-filter}
use Rattle.alm_model.specs.Plant.{Condensed}
use Rattle.alm_model.specs.Keeping.{in_brief}
use Rattle.alm_model.specs.Lists.{due, is_due, is_one, passes, deadline, key_of}
use Rattle.alm_model.specs.Step.{with_outcome, with_touched_alarm, touch, unshelve, later, with_effect, with_one_more, step}
use Rattle.alm_model.proofs.Listed.{listed-members}
use Rattle.alm_model.proofs.Measured.{change-at}
use Rattle.alm_model.proofs.Members.{Has, Has-from, of_one}
use Rattle.alm_laws.specs.Alarm.{row_left, annunciates}
use Rattle.alm_laws.specs.Clock.{EndInOrder, SameButPriority, SameButSetpoint}
use Rattle.alm_laws.specs.Plant.{Becomes}
use Rattle.alm_laws.proofs.Asking.{touch-keeps}
use Rattle.alm_laws.proofs.Moving.{ending, touch-here, touch-other, touch-attrs, fold-here, fold-other, no-itself, alarm-at}

-- ---- the time and the count

pub fold-now : (list : List ℕ) (q : Condensed) → (fold (unshelve in_brief) q list).panel.now ≡ q.panel.now
fold-now [] q = refl
fold-now (j ∷ list) q = fold-now list (unshelve in_brief q j) ∙ (touch-keeps q j (ending q)).0

pub time-told : (q : Condensed) (t : ℕ) → (step q (Clock t)).panel.now ≡ t
time-told q t = fold-now (due t q.panel) (later in_brief t (with_one_more q))

put-count : (q : Condensed) (i : ℕ) (o : Outcome) → (with_outcome in_brief q i o).panel.count ≡ q.panel.count
put-count q i (Changed s) = refl
put-count q i (Annunciated s) = refl
put-count q i (Shelved s) = refl

touched-count : (q : Condensed) (i : ℕ) (f : Attr → State → Outcome) (a : Option Attr) (s : Option State) → (with_touched_alarm in_brief q i f a s).panel.count ≡ q.panel.count
touched-count q i f (Some a) (Some s) = put-count q i (f a s)
touched-count q i f (Some a) None = refl
touched-count q i f None s = refl

touch-count : (q : Condensed) (i : ℕ) (f : Attr → State → Outcome) → (touch in_brief q i f).panel.count ≡ q.panel.count
touch-count q i f = touched-count q i f (slice_get q.panel.attrs i) (slice_get q.panel.rows i)

fold-count : (list : List ℕ) (q : Condensed) → (fold (unshelve in_brief) q list).panel.count ≡ q.panel.count
fold-count [] q = refl
fold-count (j ∷ list) q = fold-count list (unshelve in_brief q j) ∙ touch-count q j (ending q)

effect-count : (q : Condensed) (action : Action) → (with_effect in_brief q action).panel.count ≡ q.panel.count
effect-count q (Clock t) = fold-count (due t q.panel) (later in_brief t q)
effect-count q (Value i v) = touch-count q i.0 (outcome q.panel.now q.panel.next_stamp (Value i v))
effect-count q (Ack i) = touch-count q i.0 (outcome q.panel.now q.panel.next_stamp (Ack i))
effect-count q (Reset i) = touch-count q i.0 (outcome q.panel.now q.panel.next_stamp (Reset i))
effect-count q (Shelve i n) = touch-count q i.0 (outcome q.panel.now q.panel.next_stamp (Shelve i n))
effect-count q (Unshelve i) = touch-count q i.0 (outcome q.panel.now q.panel.next_stamp (Unshelve i))
effect-count q (Oos i on) = touch-count q i.0 (outcome q.panel.now q.panel.next_stamp (Oos i on))
effect-count q (Design i on) = touch-count q i.0 (outcome q.panel.now q.panel.next_stamp (Design i on))
effect-count q (SetPriority i n) = refl
effect-count q (SetSetpoint i v) = refl

pub each-counted : (q : Condensed) (action : Action) → (step q action).panel.count ≡ q.panel.count + 1
each-counted q action = effect-count (with_one_more q) action

-- ---- the shelvings that one CLOCK ends

freed-cases : (n : ℕ) (t : State) (v y : Bool)
    → is_annunciated (row_left (cond v (Changed (record t { core = Normal; stamp = cond (is_some t.shelved_until) t.stamp 0 })) (cond y (Annunciated (record t { core = Unack; stamp = n })) (Changed (record t { core = Normal; stamp = 0 }))))).core ≡ true
    → (annunciates (cond v (Changed (record t { core = Normal; stamp = cond (is_some t.shelved_until) t.stamp 0 })) (cond y (Annunciated (record t { core = Unack; stamp = n })) (Changed (record t { core = Normal; stamp = 0 })))) ≡ true)
    × ((row_left (cond v (Changed (record t { core = Normal; stamp = cond (is_some t.shelved_until) t.stamp 0 })) (cond y (Annunciated (record t { core = Unack; stamp = n })) (Changed (record t { core = Normal; stamp = 0 }))))).stamp ≡ n)
freed-cases n t true y e = absurd (true≢false (sym e))
freed-cases n t false true e = (refl, refl)
freed-cases n t false false e = absurd (true≢false (sym e))

pub freed : (n : ℕ) (s : State) → is_annunciated (row_left (without_shelving n s)).core ≡ true → (annunciates (without_shelving n s) ≡ true) × ((row_left (without_shelving n s)).stamp ≡ n)
freed n s e = freed-cases n (record s { shelved_until = None }) (is_suppressed (record s { shelved_until = None })) s.active e

put-next : (q : Condensed) (i : ℕ) (o : Outcome) → annunciates o ≡ true → (with_outcome in_brief q i o).panel.next_stamp ≡ q.panel.next_stamp + 1
put-next q i (Annunciated s) e = refl
put-next q i (Changed s) e = absurd (true≢false (sym e))
put-next q i (Shelved s) e = absurd (true≢false (sym e))

touch-next : (q : Condensed) (i : ℕ) (f : Attr → State → Outcome) (a : Attr) (s : State) → slice_get q.panel.attrs i ≡ Some a → slice_get q.panel.rows i ≡ Some s → annunciates (f a s) ≡ true
    → (touch in_brief q i f).panel.next_stamp ≡ q.panel.next_stamp + 1
touch-next q i f a s has row e =
    ap (λ o. (with_touched_alarm in_brief q i f o (slice_get q.panel.rows i)).panel.next_stamp) has ∙ ap (λ o. (with_touched_alarm in_brief q i f (Some a) o).panel.next_stamp) row ∙ put-next q i (f a s) e

not-back : (key : ℕ → ℕ) (i j : ℕ) → Precedes key i j → Precedes key j i → ⊥
not-back key i j (inl a) (inl b) = omega (arith, a, b)
not-back key i j (inl a) (inr b) = omega (arith, a, b.0)
not-back key i j (inr a) (inl b) = omega (arith, a.0, b)
not-back key i j (inr a) (inr b) = omega (arith, a.1, b.1)

-- the earlier of two in the list has the lower stamp
fold-order : (key : ℕ → ℕ) (list : List ℕ) (q : Condensed) (i j : ℕ) (a b : Attr) (s t u v : State) → RisesByRecursion key list → Has i list → Has j list → Precedes key i j
    → slice_get q.panel.attrs i ≡ Some a → slice_get q.panel.rows i ≡ Some s → slice_get q.panel.attrs j ≡ Some b → slice_get q.panel.rows j ≡ Some u
    → slice_get (fold (unshelve in_brief) q list).panel.rows i ≡ Some t → slice_get (fold (unshelve in_brief) q list).panel.rows j ≡ Some v
    → is_annunciated t.core ≡ true → is_annunciated v.core ≡ true → t.stamp < v.stamp
fold-order key [] q i j a b s t u v rises hi hj before ai ri aj rj ti vj loud loud2 = absurd hi
fold-order key (k ∷ list) q i j a b s t u v rises hi hj before ai ri aj rj ti vj loud loud2 = elim (cases_eq k i) [
  | inl same ↦
      let next : Condensed = unshelve in_brief q k in
      let alone : Has i list → ⊥ = λ h. no-itself key i (subst (λ x. Precedes key x i) same (of_one (Precedes key k) list i rises.0 h)) in
      let here : slice_get next.panel.rows i ≡ Some (row_left (without_shelving q.panel.next_stamp s)) =
      subst (λ x. slice_get (unshelve in_brief q x).panel.rows i ≡ Some (row_left (without_shelving q.panel.next_stamp s))) (sym same) (touch-here q i (ending q) a s ai ri) in
      let is_t : t ≡ row_left (without_shelving q.panel.next_stamp s) = same_Some _ _ (sym ti ∙ fold-other list next i alone ∙ here) in
      let free = freed q.panel.next_stamp s (sym (ap (λ x. is_annunciated x.core) is_t) ∙ loud) in
      let apart : i ≢ j = λ e. no-itself key j (subst (λ x. Precedes key x j) e before) in
      let behind : Has j list = elim hj [ inl e ↦ absurd (apart (sym same ∙ e)) | inr h ↦ h ] in
      let off : k ≢ j = λ e. apart (sym same ∙ e) in
      let rest = fold-here key list next j b u rises.1 behind (ap (λ l. slice_get l j) (touch-attrs q k (ending q)) ∙ aj) (touch-other q k j (ending q) off ∙ rj) in
      let is_v : v ≡ row_left (without_shelving rest.0 u) = same_Some _ _ (sym vj ∙ rest.2) in
      let free2 = freed rest.0 u (sym (ap (λ x. is_annunciated x.core) is_v) ∙ loud2) in
      let up : next.panel.next_stamp ≡ q.panel.next_stamp + 1 =
      subst (λ x. (unshelve in_brief q x).panel.next_stamp ≡ q.panel.next_stamp + 1) (sym same) (touch-next q i (ending q) a s ai ri free.0) in
      let first : t.stamp ≡ q.panel.next_stamp = ap (λ x. x.stamp) is_t ∙ free.1 in
      let second : v.stamp ≡ rest.0 = ap (λ x. x.stamp) is_v ∙ free2.1 in
      let least = rest.1 in
      omega (arith, first, second, up, least)
  | inr d ↦
      let next : Condensed = unshelve in_brief q k in
      let behind : Has i list = elim hi [ inl e ↦ absurd (d e) | inr h ↦ h ] in
      elim (cases_eq k j) [
        | inl e ↦ absurd (not-back key i j before (subst (λ x. Precedes key x i) e (of_one (Precedes key k) list i rises.0 behind)))
        | inr off ↦
            let behind2 : Has j list = elim hj [ inl e ↦ absurd (off e) | inr h ↦ h ] in
            fold-order key list next i j a b s t u v rises.1 behind behind2 before
            (ap (λ l. slice_get l i) (touch-attrs q k (ending q)) ∙ ai) (touch-other q k i (ending q) d ∙ ri)
            (ap (λ l. slice_get l j) (touch-attrs q k (ending q)) ∙ aj) (touch-other q k j (ending q) off ∙ rj)
            ti vj loud loud2
      ]
]

is-due : (o : Option ℕ) (t d : ℕ) → o ≡ Some d → d ≤ t → (is_some o && nat_le (unwrap_or o 0) t) ≡ true
is-due (Some x) t d e l = let same = same_Some _ _ e in le-leb x t (omega (arith, same, l))
is-due None t d e l = absurd (none-some _ e)

due-has : (q : Condensed) (t i d : ℕ) (a : Attr) (s : State) → slice_get q.panel.attrs i ≡ Some a → slice_get q.panel.rows i ≡ Some s → s.shelved_until ≡ Some d → d ≤ t → Has i (due t q.panel)
due-has q t i d a s has row e l =
    Has-from i (due t q.panel) ((listed-members deadline (is_due t) q.panel.attrs q.panel.rows i).1
    (ap (λ o. passes (is_due t) o (slice_get q.panel.rows i)) has ∙ ap (passes (is_due t) (Some a)) row ∙ is-due s.shelved_until t d e l))

key-is : (q : Condensed) (i d : ℕ) (s : State) → slice_get q.panel.rows i ≡ Some s → s.shelved_until ≡ Some d → key_of deadline (slice_get q.panel.rows i) ≡ d
key-is q i d s row e = ap (key_of deadline) row ∙ ap (λ o. unwrap_or o 0) e

clock-order : (q : Condensed) (m i j d e : ℕ) (a b : Attr) (s t u v : State) → slice_get q.panel.attrs i ≡ Some a → slice_get q.panel.rows i ≡ Some s → slice_get q.panel.attrs j ≡ Some b → slice_get q.panel.rows j ≡ Some u
    → slice_get (step q (Clock m)).panel.rows i ≡ Some t → slice_get (step q (Clock m)).panel.rows j ≡ Some v
    → s.shelved_until ≡ Some d → u.shelved_until ≡ Some e → e ≤ m → (d < e) ⊎ ((d ≡ e) × (i < j)) → is_annunciated t.core ≡ true → is_annunciated v.core ≡ true → t.stamp < v.stamp
clock-order q m i j d e a b s t u v ai ri aj rj ti vj sd ue late first loud loud2 =
    let key : ℕ → ℕ = λ k. key_of deadline (slice_get q.panel.rows k) in
    let ki : key i ≡ d = key-is q i d s ri sd in
    let kj : key j ≡ e = key-is q j e u rj ue in
    let soon : d ≤ m = elim first [ inl l ↦ omega (arith, l, late) | inr h ↦ (let same = h.0 in omega (arith, same, late)) ] in
    let before : Precedes key i j = elim first [ inl l ↦ inl (omega (arith, ki, kj, l)) | inr h ↦ inr (ki ∙ h.0 ∙ sym kj, h.1) ] in
    fold-order key (due m q.panel) (later in_brief m (with_one_more q)) i j a b s t u v
    (rises-filter key (is_one (is_due m) q.panel.attrs q.panel.rows) 0 (length q.panel.rows))
    (due-has q m i d a s ai ri sd soon) (due-has q m j e b u aj rj ue late) before ai ri aj rj ti vj loud loud2

pub ended-in-order : (q : Condensed) (r : Request) (i j : ℕ) (s t u v : State) → Becomes q r i s t → Becomes q r j u v → EndInOrder r i s t j u v
ended-in-order q r i j s t u v x y m d e is sd ue late first loud loud2 =
    let a = alarm-at q i s x.rules x.before in
    let b = alarm-at q j u y.rules y.before in
    clock-order q m i j d e a.attr b.attr s t u v a.has x.before b.has y.before
    (ap (λ w. slice_get (step q w).panel.rows i) (sym is) ∙ x.after) (ap (λ w. slice_get (step q w).panel.rows j) (sym is) ∙ y.after) sd ue late first loud loud2

-- ---- what a console sets

pub part-set : {A : Type 0} (part : Attr → A) (test : Bool) (given : T test → Attr) (other : Attr) (x : A) → ((h : T test) → part (given h) ≡ x) → test ≡ true → part (where_passed test given other) ≡ x
part-set part true given other x f e = f tt
part-set part false given other x f e = absurd (true≢false (sym e))

pub part-kept : {A : Type 0} (part : Attr → A) (test : Bool) (given : T test → Attr) (other : Attr) → ((h : T test) → part (given h) ≡ part other) → part (where_passed test given other) ≡ part other
part-kept part true given other f = f tt
part-kept part false given other f = refl

priority-same : (n : ℕ) (a : Attr) → SameButPriority a (with_priority n a)
priority-same n a = record {
  kind = part-kept (λ x. x.kind) (nat_le 1 n && nat_le n 4) _ a (λ h. refl);
  setpoint = part-kept (λ x. x.setpoint) (nat_le 1 n && nat_le n 4) _ a (λ h. refl);
  deadband = part-kept (λ x. x.deadband) (nat_le 1 n && nat_le n 4) _ a (λ h. refl);
  area = part-kept (λ x. x.area) (nat_le 1 n && nat_le n 4) _ a (λ h. refl);
  latching = part-kept (λ x. x.latching) (nat_le 1 n && nat_le n 4) _ a (λ h. refl);
  max_shelve = part-kept (λ x. x.max_shelve) (nat_le 1 n && nat_le n 4) _ a (λ h. refl);
  tag = part-kept (λ x. x.tag) (nat_le 1 n && nat_le n 4) _ a (λ h. refl);
  text = part-kept (λ x. x.text) (nat_le 1 n && nat_le n 4) _ a (λ h. refl);
}

setpoint-same : (v : ℤ) (a : Attr) → SameButSetpoint a (with_setpoint v a)
setpoint-same v a = record {
  kind = part-kept (λ x. x.kind) (is_reading v) _ a (λ h. refl);
  deadband = part-kept (λ x. x.deadband) (is_reading v) _ a (λ h. refl);
  priority = part-kept (λ x. x.priority) (is_reading v) _ a (λ h. refl);
  area = part-kept (λ x. x.area) (is_reading v) _ a (λ h. refl);
  latching = part-kept (λ x. x.latching) (is_reading v) _ a (λ h. refl);
  max_shelve = part-kept (λ x. x.max_shelve) (is_reading v) _ a (λ h. refl);
  tag = part-kept (λ x. x.tag) (is_reading v) _ a (λ h. refl);
  text = part-kept (λ x. x.text) (is_reading v) _ a (λ h. refl);
}

pub priority-set : (q : Condensed) (i : AlarmId) (n : ℕ) (a b : Attr) → 1 ≤ n → n ≤ 4 → slice_get q.panel.attrs i.0 ≡ Some a → slice_get (step q (SetPriority i n)).panel.attrs i.0 ≡ Some b
    → (b.priority ≡ n) × SameButPriority a b
priority-set q i n a b low high has after =
    let c = change-at q.panel.attrs i.0 (with_priority n) b after in
    let is : with_priority n a ≡ b = ap (with_priority n) (same_Some _ _ (sym has ∙ c.1)) ∙ c.2 in
    subst (λ x. (x.priority ≡ n) × SameButPriority a x) is (part-set (λ x. x.priority) (nat_le 1 n && nat_le n 4) _ a n (λ h. refl) (rw (le-leb 1 n low, le-leb n 4 high) refl), priority-same n a)

pub setpoint-set : (q : Condensed) (i : AlarmId) (v : ℤ) (a b : Attr) → is_reading v ≡ true → slice_get q.panel.attrs i.0 ≡ Some a → slice_get (step q (SetSetpoint i v)).panel.attrs i.0 ≡ Some b
    → (b.setpoint ≡ v) × SameButSetpoint a b
setpoint-set q i v a b within has after =
    let c = change-at q.panel.attrs i.0 (with_setpoint v) b after in
    let is : with_setpoint v a ≡ b = ap (with_setpoint v) (same_Some _ _ (sym has ∙ c.1)) ∙ c.2 in
    subst (λ x. (x.setpoint ≡ v) × SameButSetpoint a x) is (part-set (λ x. x.setpoint) (is_reading v) _ a v (λ h. refl) within, setpoint-same v a)
