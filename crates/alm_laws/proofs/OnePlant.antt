-- The sentences leave one plant.
use Rattle.std.proofs.Common.{◌≡◌, ℕ, ◌+◌, ◌-◌, ◌<◌, Bool, true, false, not, cond, ◌&&◌, ◌||◌, List, [], ◌∷◌, length, get_or, take, suc, Option, Some, None, Ok, is_some, refl, sym, ap, ◌∙◌, subst, arith, inl, inr, ◌⊎◌, true≢false}
use Rattle.std.specs.Prelude.{◌↔◌, ◌==◌, slice_get, count_by, Contains, nat_lt}
use Rattle.std.proofs.lemmas.Bool.{cases_eq, cases_Bool, cases_lt, and_from, le-leb}
use Rattle.std.proofs.lemmas.Grind.{same_number_lists}
use Rattle.std.proofs.lemmas.Option.{none-some, same_Some, slice_get_within}
use Rattle.alm_types.specs.declared.attr.Attr.{Attr}
use Rattle.alm_types.specs.declared.alarm_id.AlarmId.{AlarmId}
use Rattle.alm_types.specs.declared.action.Action.{Action}
use Rattle.alm_types.specs.declared.action.Action.TheVariants.{Clock, Value, Ack, Reset, Shelve, Unshelve, Oos, Design, SetPriority, SetSetpoint}
use Rattle.alm_types.specs.declared.request.Request.{Request}
use Rattle.alm_types.specs.Wants.{wanted_action}
use Rattle.alm_types.specs.Actions.{alarm_of}
use Rattle.alm_lists.specs.Orders.{Precedes}
use Rattle.alm_state.specs.Rows.{State, is_suppressed}
use Rattle.alm_state.specs.declared.outcome.Outcome.{Outcome}
use Rattle.alm_model.specs.Plant.{Panel, Measures, Condensed}
use Rattle.alm_model.specs.Accept.{accept}
use Rattle.alm_model.specs.Lists.{key_of, stamp}
use Rattle.alm_model.specs.Rules.{KeepsRules}
use Rattle.alm_model.specs.Step.{step}
use Rattle.alm_model.proofs.Kept.{there}
use Rattle.alm_model.proofs.Members.{Has, Has-from, Contains-from, EachPair-from}
use Rattle.alm_model.proofs.Rising.{one-rising}
use Rattle.alm_laws.specs.Alarm.{row_left}
use Rattle.alm_laws.specs.Left.{IsLeft, is_annunciated_then, asks_left, shelving_left}
use Rattle.alm_laws.specs.Plant.{Names, ClockReaches, asker_of}
use Rattle.alm_laws.specs.Steps.{is_reached, is_annunciated_by, shelving_end, area_at, AreAnnunciatedInOrder, IsLeftWith, IsLeftBehind}
use Rattle.alm_laws.proofs.Left.{left-only}
use Rattle.alm_laws.proofs.Meeting.{step-meets}
use Rattle.alm_laws.proofs.Moving.{is_clock}
use Rattle.alm_laws.proofs.Plants.{asked-by}
use Rattle.alm_laws.proofs.SameAttr.{same-attr}

-- ---- equal by their parts

same-lists : {A : Type 0} (xs ys : List A) → length xs ≡ length ys → ((i : ℕ) (x y : A) → slice_get xs i ≡ Some x → slice_get ys i ≡ Some y → x ≡ y) → xs ≡ ys
same-lists [] [] e f = refl
same-lists [] (y ∷ ys) e f = absurd (omega (arith, e))
same-lists (x ∷ xs) [] e f = absurd (omega (arith, e))
same-lists (x ∷ xs) (y ∷ ys) e f =
    let head : x ≡ y = f 0 x y refl refl in
    let rest : xs ≡ ys = same-lists xs ys (omega (arith, e)) (λ i a b g h. f (suc i) a b g h) in
    cc

same-panel : (x y : Panel) → x.now ≡ y.now → x.count ≡ y.count → x.next_stamp ≡ y.next_stamp → x.attrs ≡ y.attrs → x.rows ≡ y.rows → x ≡ y
same-panel x y now count next attrs rows =
    let same : ◌≡◌ {A = Panel} (record { now = x.now; count = x.count; next_stamp = x.next_stamp; attrs = x.attrs; rows = x.rows }) (record { now = y.now; count = y.count; next_stamp = y.next_stamp; attrs = y.attrs; rows = y.rows }) = cc in same

same-measures : (x y : Measures) → x.ages ≡ y.ages → x.moments ≡ y.moments → x ≡ y
same-measures x y ages moments = let same : ◌≡◌ {A = Measures} (record { ages = x.ages; moments = x.moments }) (record { ages = y.ages; moments = y.moments }) = cc in same

same-plant : (x y : Condensed) → x.panel ≡ y.panel → x.kept ≡ y.kept → x.floods ≡ y.floods → x ≡ y
same-plant x y panel kept floods = let same : ◌≡◌ {A = Condensed} (record { panel = x.panel; kept = x.kept; floods = x.floods }) (record { panel = y.panel; kept = y.kept; floods = y.floods }) = cc in same

-- ---- the list of those that are annunciated

one-order : (q : Condensed) (action : Action) (xs ys : List ℕ) → AreAnnunciatedInOrder q action xs → AreAnnunciatedInOrder q action ys → xs ≡ ys
one-order q action xs ys h k =
    let key : ℕ → ℕ = λ i. shelving_end (slice_get q.panel.rows i) in
    one-rising key xs ys (EachPair-from (Precedes key) xs h.order) (EachPair-from (Precedes key) ys k.order)
    (λ x m. Has-from x ys ((k.those x).1 ((h.those x).0 (Contains-from x xs m)))) (λ x m. Has-from x xs ((h.those x).1 ((k.those x).0 (Contains-from x ys m))))

place-of : (xs : List ℕ) (i : ℕ) → Has i xs → (k : ℕ) × (slice_get xs k ≡ Some i)
place-of [] i h = absurd h
place-of (x ∷ xs) i (inl same) = (0, ap Some same)
place-of (x ∷ xs) i (inr h) = let r = place-of xs i h in (suc r.0, r.1)

-- ---- which alarm is named, and which is due

clock-or : (action : Action) → ((t : ℕ) × (action ≡ Clock t)) ⊎ (is_clock action ≡ false)
clock-or (Clock t) = inl (t, refl)
clock-or action = inr refl

names-or : (action : Action) (i : ℕ) → Names action i ⊎ (Names action i → ⊥)
names-or (Clock t) i = inr (λ h. h)
names-or (Value k v) i = cases_eq k.0 i
names-or (Ack k) i = cases_eq k.0 i
names-or (Reset k) i = cases_eq k.0 i
names-or (Shelve k n) i = cases_eq k.0 i
names-or (Unshelve k) i = cases_eq k.0 i
names-or (Oos k on) i = cases_eq k.0 i
names-or (Design k on) i = cases_eq k.0 i
names-or (SetPriority k n) i = cases_eq k.0 i
names-or (SetSetpoint k v) i = cases_eq k.0 i

abbrev IsDue : Request → State → Type 0
IsDue r s = (deadline : ℕ) × (s.shelved_until ≡ Some deadline) × ClockReaches r deadline

moment-in : (t u : ℕ) → Clock t ≡ Clock u → t ≡ u
moment-in t u e = cc

due-or : (q : Condensed) (r : Request) (s : State) → accept q.panel r ≡ Ok (wanted_action r) → IsDue r s ⊎ (IsDue r s → ⊥)
due-or q r s e = elim (clock-or (wanted_action r)) [
  | inl c ↦ shelved s.shelved_until refl c.0 c.1
  | inr isnt ↦ inr (λ h. true≢false (sym (ap is_clock h.2.1) ∙ isnt))
] where
  shelved : (o : Option ℕ) → s.shelved_until ≡ o → (t : ℕ) → (wanted_action r) ≡ Clock t → IsDue r s ⊎ (IsDue r s → ⊥)
  shelved None is t c = inr (λ h. none-some _ (sym is ∙ h.1))
  shelved (Some d) is t c = elim (cases_lt t d) [
    | inl early ↦ inr (λ h. (let same : d ≡ h.0 = same_Some _ _ (sym is ∙ h.1) in let at : t ≡ h.2.0 = moment-in t h.2.0 (sym c ∙ h.2.1) in let l = h.2.3 in absurd (omega (arith, same, at, l, early))))
    | inr late ↦ inl (d, is, (t, c, asked-by q.panel r e ∙ ap asker_of c, late))
  ]

-- ---- one alarm

free-from : (d o y z : Bool) → (not (d || o) && y && z) ≡ true → (not d && not o && y) ≡ true
free-from true o y z e = absurd (true≢false (sym e))
free-from false true y z e = absurd (true≢false (sym e))
free-from false false true z e = refl
free-from false false false z e = absurd (true≢false (sym e))

no-alarm : AlarmId
no-alarm = record { 0 = 0 }

-- without an annunciation the stamp at hand doesn't matter
other-stamp : (now m n : ℕ) (j : AlarmId) (a : Attr) (s : State) (o : Outcome) → is_annunciated_then now (Unshelve j) a s ≡ false → IsLeft now m (Unshelve j) a s o → IsLeft now n (Unshelve j) a s o
other-stamp now m n j a s o quiet h =
    let rest : ℕ = cond (asks_left now (Unshelve j) a s || is_some (shelving_left now (Unshelve j) s.shelved_until)) s.stamp 0 in
    record {
      condition = h.condition;
      shelving = h.shelving;
      design = h.design;
      service = h.service;
      suits = h.suits;
      holds = h.holds;
      waits = h.waits;
      asks = h.asks;
      stamp = h.stamp ∙ ap (λ b. cond (b || false) m rest) quiet ∙ sym (ap (λ b. cond (b || false) n rest) quiet);
      annunciated = h.annunciated;
      shelved = h.shelved;
    }

stamp-at-hand : (now n : ℕ) (j : AlarmId) (a : Attr) (s : State) (o : Outcome) → is_annunciated_then now (Unshelve j) a s ≡ true → IsLeft now n (Unshelve j) a s o → (row_left o).stamp ≡ n
stamp-at-hand now n j a s o loud h =
    h.stamp ∙ ap (λ b. cond (b || false) n (cond (asks_left now (Unshelve j) a s || is_some (shelving_left now (Unshelve j) s.shelved_until)) s.stamp 0)) loud

module _ (q : Condensed) (r : Request) (rules : KeepsRules q) (e : accept q.panel r ≡ Ok (wanted_action r)) (list : List ℕ) (order : AreAnnunciatedInOrder q (wanted_action r) list) (x y : Condensed) (h : IsLeftWith q r list x) (k : IsLeftWith q r list y) where
  due-same : (i : ℕ) (a : Attr) (s t u : State) → IsDue r s → slice_get q.panel.attrs i ≡ Some a → slice_get q.panel.rows i ≡ Some s → slice_get x.panel.rows i ≡ Some t → slice_get y.panel.rows i ≡ Some u → t ≡ u
  due-same i a s t u (d, until, reached) has row at_x at_y =
      let now : ℕ = q.panel.now in
      let f = (h.rows i a s t has row at_x).1 d no-alarm until reached in
      let g = (k.rows i a s u has row at_y).1 d no-alarm until reached in
      elim (cases_Bool (is_annunciated_then q.panel.now (Unshelve no-alarm) a s)) [
        | inl loud ↦
            let free = free-from s.by_design s.out_of_service s.active (is_suppressed s || not s.active) loud in
            let late : is_reached reached.0 s.shelved_until ≡ true = ap (is_reached reached.0) until ∙ (let l = reached.3 in le-leb d reached.0 l) in
            let by : is_annunciated_by q.panel.now (wanted_action r) i a s ≡ true = ap (λ w. is_annunciated_by q.panel.now w i a s) reached.1 ∙ and_from (is_reached reached.0 s.shelved_until) (not s.by_design && not s.out_of_service && s.active) late free in
            let place = place-of list i (Has-from i list ((order.those i).1 (a, s, has, row, by))) in
            let first : f.0 ≡ q.panel.next_stamp + place.0 = sym (stamp-at-hand q.panel.now f.0 no-alarm a s f.1 loud f.3) ∙ sym (ap (λ z. z.stamp) f.4) ∙ sym (ap (key_of stamp) at_x) ∙ h.stamps place.0 i place.1 in
            let second : g.0 ≡ q.panel.next_stamp + place.0 = sym (stamp-at-hand q.panel.now g.0 no-alarm a s g.1 loud g.3) ∙ sym (ap (λ z. z.stamp) g.4) ∙ sym (ap (key_of stamp) at_y) ∙ k.stamps place.0 i place.1 in
            let one : IsLeft q.panel.now f.0 (Unshelve no-alarm) a s g.1 = subst (λ n. IsLeft q.panel.now n (Unshelve no-alarm) a s g.1) (second ∙ sym first) g.3 in
            f.4 ∙ ap row_left (left-only q.panel.now f.0 (Unshelve no-alarm) a s f.1 f.3 ∙ sym (left-only q.panel.now f.0 (Unshelve no-alarm) a s g.1 one)) ∙ sym g.4
        | inr quiet ↦
            let one = other-stamp q.panel.now g.0 f.0 no-alarm a s g.1 quiet g.3 in
            f.4 ∙ ap row_left (left-only q.panel.now f.0 (Unshelve no-alarm) a s f.1 f.3 ∙ sym (left-only q.panel.now f.0 (Unshelve no-alarm) a s g.1 one)) ∙ sym g.4
      ]

  row-same : (i : ℕ) (t u : State) → slice_get x.panel.rows i ≡ Some t → slice_get y.panel.rows i ≡ Some u → t ≡ u
  row-same i t u at_x at_y =
      let inside = slice_get_within x.panel.rows i t at_x in
      let size = h.large.rows in
      let s = there q.panel.rows i (omega (arith, inside, size)) in
      let a = there q.panel.attrs i (let many = rules.attrs in omega (arith, inside, size, many)) in
      let f = h.rows i a.0 s.0 t a.1 s.1 at_x in
      let g = k.rows i a.0 s.0 u a.1 s.1 at_y in
      elim (names-or (wanted_action r) i) [
        | inl named ↦
            let m = f.0 named in
            let n = g.0 named in
            m.2 ∙ ap row_left (left-only q.panel.now q.panel.next_stamp (wanted_action r) a.0 s.0 m.0 m.1 ∙ sym (left-only q.panel.now q.panel.next_stamp (wanted_action r) a.0 s.0 n.0 n.1)) ∙ sym n.2
        | inr off ↦ elim (due-or q r s.0 e) [
          | inl due ↦ due-same i a.0 s.0 t u due a.1 s.1 at_x at_y
          | inr early ↦ f.2 off (λ d until reached. early (d, until, reached)) ∙ sym (g.2 off (λ d until reached. early (d, until, reached)))
        ]
      ]

  attr-same : (i : ℕ) (b c : Attr) → slice_get x.panel.attrs i ≡ Some b → slice_get y.panel.attrs i ≡ Some c → b ≡ c
  attr-same i b c at_x at_y =
      let inside = slice_get_within x.panel.attrs i b at_x in
      let size = h.large.attrs in
      let a = there q.panel.attrs i (omega (arith, inside, size)) in
      let f = h.attrs i a.0 b a.1 at_x in
      let g = k.attrs i a.0 c a.1 at_y in
      elim (cases_eq (alarm_of (wanted_action r)) i) [
        | inl named ↦ same-attr b c (f.kind ∙ sym g.kind) (f.setpoint named ∙ sym (g.setpoint named)) (f.deadband ∙ sym g.deadband) (f.priority named ∙ sym (g.priority named)) (f.area ∙ sym g.area) (f.latching ∙ sym g.latching)
            (f.max_shelve ∙ sym g.max_shelve) (f.tag ∙ sym g.tag) (f.text ∙ sym g.text)
        | inr off ↦ f.others off ∙ sym (g.others off)
      ]

  one-now : x.panel.now ≡ y.panel.now
  one-now = h.moment ∙ sym k.moment

  moments-same : (i : ℕ) (ms ns : List ℕ) → slice_get x.kept.moments i ≡ Some ms → slice_get y.kept.moments i ≡ Some ns → ms ≡ ns
  moments-same i ms ns at_x at_y =
      let inside = slice_get_within x.kept.moments i ms at_x in
      let size = h.large.moments in
      let many = rules.recent in
      let before = there q.kept.moments i (omega (arith, inside, size)) in
      let s = there q.panel.rows i (omega (arith, inside, size, many)) in
      let a = there q.panel.attrs i (let more = rules.attrs in omega (arith, inside, size, many, more)) in
      elim (cases_Bool (is_annunciated_by q.panel.now (wanted_action r) i a.0 s.0)) [
        | inl so ↦
            let has = (order.those i).1 (a.0, s.0, a.1, s.1, so) in
            same_Some _ _ (sym at_x ∙ h.annunciated i before.0 has before.1 ∙ ap (λ n. Some (take 3 (n ∷ before.0))) one-now ∙ sym (k.annunciated i before.0 has before.1) ∙ at_y)
        | inr isnt ↦
            let out : Contains list i → ⊥ = λ c. (let w = (order.those i).0 c in
            let attr : w.0 ≡ a.0 = same_Some _ _ (sym w.2 ∙ a.1) in
            let state : w.1 ≡ s.0 = same_Some _ _ (sym w.3 ∙ s.1) in
            true≢false (sym w.4 ∙ ap (λ z. is_annunciated_by q.panel.now (wanted_action r) i z w.1) attr ∙ ap (is_annunciated_by q.panel.now (wanted_action r) i a.0) state ∙ isnt)) in
            same_Some _ _ (sym at_x ∙ h.silent i out ∙ sym (k.silent i out) ∙ at_y)
      ]

  ages-same : (area : ℕ) (m n : List ℕ) → slice_get x.kept.ages area ≡ Some m → slice_get y.kept.ages area ≡ Some n → m ≡ n
  ages-same area m n at_x at_y =
      let inside = slice_get_within x.kept.ages area m at_x in
      let size = h.large.ages in
      let before = there q.kept.ages area (omega (arith, inside, size)) in
      let f = h.ages area before.0 m before.1 at_x in
      let g = k.ages area before.0 n before.1 at_y in
      let d = one-now in
      let long = f.long in
      same_number_lists m n (f.long ∙ sym g.long) (λ age l. (let within : age < 600 = omega (arith, l, long) in
      f.each age within ∙ ap (λ now. cond (nat_lt age (now - q.panel.now)) 0 (get_or before.0 (age - (now - q.panel.now)) 0) + cond (age == 0) (count_by (λ i. area_at (slice_get q.panel.attrs i) == area) list) 0) d ∙ sym (g.each age within)))

  one-ages : x.kept.ages ≡ y.kept.ages
  one-ages = same-lists x.kept.ages y.kept.ages (h.large.ages ∙ sym k.large.ages) ages-same

  flag-same : (area : ℕ) (b c : Bool) → slice_get x.floods area ≡ Some b → slice_get y.floods area ≡ Some c → b ≡ c
  flag-same area b c at_x at_y =
      let inside = slice_get_within x.floods area b at_x in
      let size = h.large.floods in
      let many = rules.measured in
      let wide = h.large.ages in
      let before = there q.floods area (omega (arith, inside, size)) in
      let ages = there x.kept.ages area (omega (arith, inside, size, many, wide)) in
      same_Some _ _ (sym at_x ∙ h.floods area ages.0 before.0 ages.1 before.1 ∙ sym (k.floods area ages.0 before.0 (ap (λ l. slice_get l area) (sym one-ages) ∙ ages.1) before.1) ∙ at_y)

  pub one-plant : x ≡ y
  one-plant = same-plant x y
      (same-panel x.panel y.panel one-now (h.count ∙ sym k.count) (h.next_stamp ∙ sym k.next_stamp) (same-lists x.panel.attrs y.panel.attrs (h.large.attrs ∙ sym k.large.attrs) attr-same)
      (same-lists x.panel.rows y.panel.rows (h.large.rows ∙ sym k.large.rows) row-same))
      (same-measures x.kept y.kept one-ages (same-lists x.kept.moments y.kept.moments (h.large.moments ∙ sym k.large.moments) moments-same))
      (same-lists x.floods y.floods (h.large.floods ∙ sym k.large.floods) flag-same)

pub plant-left : (q p : Condensed) (r : Request) → KeepsRules q → accept q.panel r ≡ Ok (wanted_action r) → IsLeftBehind q r p ↔ (p ≡ step q (wanted_action r))
plant-left q p r rules e = (
  λ h. (let m = step-meets q r rules e in
      let same : m.0 ≡ h.0 = one-order q (wanted_action r) m.0 h.0 m.1 h.1 in
      one-plant q r rules e h.0 h.1 p (step q (wanted_action r)) h.2 (subst (λ l. IsLeftWith q r l (step q (wanted_action r))) same m.2)),
  λ is. subst (IsLeftBehind q r) (sym is) (step-meets q r rules e),
)
