-- What an accepted action makes of the row of an alarm.
use Rattle.std.proofs.Common.{◌≡◌, ◌≢◌, ℕ, ◌<◌, ◌≤◌, Bool, true, false, ◌&&◌, List, [], ◌∷◌, length, Option, Some, None, refl, sym, ap, ◌∙◌, arith, inl, inr, ◌⊎◌, subst, true≢false}
use Rattle.std.specs.Prelude.{slice_get, fold, nat_le, is_some, unwrap_or}
use Rattle.std.proofs.lemmas.Bool.{cases_eq, cases_Bool, leb-true, leb-false}
use Rattle.std.proofs.lemmas.Option.{none-some, same_Some, slice_get_within}
use Rattle.alm_types.specs.declared.attr.Attr.{Attr}
use Rattle.alm_types.specs.declared.action.Action.{Action}
use Rattle.alm_types.specs.declared.action.Action.TheVariants.{Clock, Value, Ack, Reset, Shelve, Unshelve, Oos, Design, SetPriority, SetSetpoint}
use Rattle.alm_types.specs.declared.refusal.Refusal.{Refusal}
use Rattle.alm_types.specs.Actions.{alarm_of}
use Rattle.alm_state.specs.Rows.{State}
use Rattle.alm_state.specs.Outcome.{outcome, row_refusal, without_shelving, or_else}
use Rattle.alm_state.specs.declared.outcome.Outcome.{Outcome}
use Rattle.alm_state.specs.declared.outcome.Outcome.TheVariants.{Changed, Annunciated, Shelved}
use Rattle.alm_laws.specs.Alarm.{TakesAction, row_left}
use Rattle.alm_lists.specs.Orders.{Precedes, RisesByRecursion}
use Rattle.alm_lists.proofs.Sorted.{rises-filter}
use Rattle.alm_model.specs.Plant.{Condensed}
use Rattle.alm_model.specs.Accept.{alarm_refusal, own_refusal, refusal}
use Rattle.alm_model.specs.Lists.{due, is_due, is_one, passes, deadline, key_of}
use Rattle.alm_model.specs.Keeping.{in_brief}
use Rattle.alm_model.specs.Step.{with_outcome, with_touched_alarm, touch, unshelve, later, with_effect, with_one_more, step}
use Rattle.alm_model.specs.Rules.{KeepsRules, IsAlarm}
use Rattle.alm_model.proofs.Kept.{there}
use Rattle.alm_model.proofs.Listed.{listed-members}
use Rattle.alm_model.proofs.Members.{Has, Has-from, Contains-from, of_one}
use Rattle.alm_model.proofs.Stamps.{get-set-same, get-set-other}

-- ---- one alarm is touched

pub put-here : (q : Condensed) (i : ℕ) (s : State) (o : Outcome) → slice_get q.panel.rows i ≡ Some s → slice_get (with_outcome in_brief q i o).panel.rows i ≡ Some (row_left o)
put-here q i s (Changed t) e = get-set-same q.panel.rows i s t e
put-here q i s (Annunciated t) e = get-set-same q.panel.rows i s t e
put-here q i s (Shelved t) e = get-set-same q.panel.rows i s t e

pub put-other : (q : Condensed) (i j : ℕ) (o : Outcome) → i ≢ j → slice_get (with_outcome in_brief q i o).panel.rows j ≡ slice_get q.panel.rows j
put-other q i j (Changed t) d = get-set-other q.panel.rows i j t d
put-other q i j (Annunciated t) d = get-set-other q.panel.rows i j t d
put-other q i j (Shelved t) d = get-set-other q.panel.rows i j t d

put-stamp : (q : Condensed) (i : ℕ) (o : Outcome) → q.panel.next_stamp ≤ (with_outcome in_brief q i o).panel.next_stamp
put-stamp q i (Changed t) = omega arith
put-stamp q i (Annunciated t) = omega arith
put-stamp q i (Shelved t) = omega arith

put-attrs : (q : Condensed) (i : ℕ) (o : Outcome) → (with_outcome in_brief q i o).panel.attrs ≡ q.panel.attrs
put-attrs q i (Changed t) = refl
put-attrs q i (Annunciated t) = refl
put-attrs q i (Shelved t) = refl

touched-here : (q : Condensed) (i : ℕ) (f : Attr → State → Outcome) (a : Attr) (s : State) (oa : Option Attr) (os : Option State)
    → oa ≡ Some a → os ≡ Some s → slice_get q.panel.rows i ≡ Some s → slice_get (with_touched_alarm in_brief q i f oa os).panel.rows i ≡ Some (row_left (f a s))
touched-here q i f a s None os e g h = absurd (none-some _ e)
touched-here q i f a s (Some b) None e g h = absurd (none-some _ g)
touched-here q i f a s (Some b) (Some r) e g h =
    put-here q i s (f b r) h ∙ ap (λ x. Some (row_left (f x r))) (same_Some _ _ e) ∙ ap (λ x. Some (row_left (f a x))) (same_Some _ _ g)

pub touch-here : (q : Condensed) (i : ℕ) (f : Attr → State → Outcome) (a : Attr) (s : State)
    → slice_get q.panel.attrs i ≡ Some a → slice_get q.panel.rows i ≡ Some s → slice_get (touch in_brief q i f).panel.rows i ≡ Some (row_left (f a s))
touch-here q i f a s e g = touched-here q i f a s (slice_get q.panel.attrs i) (slice_get q.panel.rows i) e g g

touched-other : (q : Condensed) (i j : ℕ) (f : Attr → State → Outcome) (oa : Option Attr) (os : Option State) → i ≢ j → slice_get (with_touched_alarm in_brief q i f oa os).panel.rows j ≡ slice_get q.panel.rows j
touched-other q i j f None os d = refl
touched-other q i j f (Some a) None d = refl
touched-other q i j f (Some a) (Some s) d = put-other q i j (f a s) d

pub touch-other : (q : Condensed) (i j : ℕ) (f : Attr → State → Outcome) → i ≢ j → slice_get (touch in_brief q i f).panel.rows j ≡ slice_get q.panel.rows j
touch-other q i j f d = touched-other q i j f (slice_get q.panel.attrs i) (slice_get q.panel.rows i) d

touched-stamp : (q : Condensed) (i : ℕ) (f : Attr → State → Outcome) (oa : Option Attr) (os : Option State) → q.panel.next_stamp ≤ (with_touched_alarm in_brief q i f oa os).panel.next_stamp
touched-stamp q i f None os = omega arith
touched-stamp q i f (Some a) None = omega arith
touched-stamp q i f (Some a) (Some s) = put-stamp q i (f a s)

pub touch-stamp : (q : Condensed) (i : ℕ) (f : Attr → State → Outcome) → q.panel.next_stamp ≤ (touch in_brief q i f).panel.next_stamp
touch-stamp q i f = touched-stamp q i f (slice_get q.panel.attrs i) (slice_get q.panel.rows i)

touched-attrs : (q : Condensed) (i : ℕ) (f : Attr → State → Outcome) (oa : Option Attr) (os : Option State) → (with_touched_alarm in_brief q i f oa os).panel.attrs ≡ q.panel.attrs
touched-attrs q i f None os = refl
touched-attrs q i f (Some a) None = refl
touched-attrs q i f (Some a) (Some s) = put-attrs q i (f a s)

pub touch-attrs : (q : Condensed) (i : ℕ) (f : Attr → State → Outcome) → (touch in_brief q i f).panel.attrs ≡ q.panel.attrs
touch-attrs q i f = touched-attrs q i f (slice_get q.panel.attrs i) (slice_get q.panel.rows i)

-- ---- the shelvings that end, one after the other

abbrev pub ending : Condensed → Attr → State → Outcome
ending q a s = without_shelving q.panel.next_stamp s

fold-stamp : (list : List ℕ) (q : Condensed) → q.panel.next_stamp ≤ (fold (unshelve in_brief) q list).panel.next_stamp
fold-stamp [] q = omega arith
fold-stamp (j ∷ list) q = omega (arith, touch-stamp q j (ending q), fold-stamp list (unshelve in_brief q j))

pub fold-other : (list : List ℕ) (q : Condensed) (i : ℕ) → (Has i list → ⊥) → slice_get (fold (unshelve in_brief) q list).panel.rows i ≡ slice_get q.panel.rows i
fold-other [] q i out = refl
fold-other (j ∷ list) q i out = fold-other list (unshelve in_brief q j) i (λ h. out (inr h)) ∙ touch-other q j i (ending q) (λ e. out (inl e))

pub no-itself : (key : ℕ → ℕ) (i : ℕ) → Precedes key i i → ⊥
no-itself key i (inl l) = omega arith
no-itself key i (inr e) = omega (arith, e.1)

pub fold-here : (key : ℕ → ℕ) (list : List ℕ) (q : Condensed) (i : ℕ) (a : Attr) (s : State) → RisesByRecursion key list → Has i list → slice_get q.panel.attrs i ≡ Some a → slice_get q.panel.rows i ≡ Some s
    → (n : ℕ) × (q.panel.next_stamp ≤ n) × (slice_get (fold (unshelve in_brief) q list).panel.rows i ≡ Some (row_left (without_shelving n s)))
fold-here key [] q i a s rises has e g = absurd has
fold-here key (j ∷ list) q i a s rises has e g = elim (cases_eq j i) [
  | inl same ↦
      let alone : Has i list → ⊥ = λ h. no-itself key i (subst (λ k. Precedes key k i) same (of_one (Precedes key j) list i rises.0 h)) in
      let at : slice_get (unshelve in_brief q j).panel.rows i ≡ Some (row_left (without_shelving q.panel.next_stamp s)) =
      subst (λ k. slice_get (unshelve in_brief q k).panel.rows i ≡ Some (row_left (without_shelving q.panel.next_stamp s))) (sym same) (touch-here q i (ending q) a s e g) in
      (q.panel.next_stamp, omega arith, fold-other list (unshelve in_brief q j) i alone ∙ at)
  | inr d ↦
      let behind : Has i list = elim has [ inl same ↦ absurd (d same) | inr h ↦ h ] in
      let rest = fold-here key list (unshelve in_brief q j) i a s rises.1 behind (ap (λ l. slice_get l i) (touch-attrs q j (ending q)) ∙ e) (touch-other q j i (ending q) d ∙ g) in
      (rest.0, (let l = rest.1 in omega (arith, touch-stamp q j (ending q), l)), rest.2)
]

-- ---- what becomes of a row

abbrev pub is_clock : Action → Bool
is_clock (Clock t) = true
is_clock _ = false

-- it is named, and takes the action
pub record IsNamed (q : Condensed) (action : Action) (i : ℕ) (s t : State) : Type 0 where
  pub named : alarm_of action ≡ i
  pub timeless : is_clock action ≡ false
  pub attr : Attr
  pub has : slice_get q.panel.attrs i ≡ Some attr
  pub takes : TakesAction action attr s
  pub left : t ≡ row_left (outcome q.panel.now q.panel.next_stamp action attr s)

-- its shelving ends by the clock
pub record IsEnded (q : Condensed) (action : Action) (s t : State) : Type 0 where
  pub moment : ℕ
  pub clock : action ≡ Clock moment
  pub deadline : ℕ
  pub shelved : s.shelved_until ≡ Some deadline
  pub reached : deadline ≤ moment
  pub stamp : ℕ
  pub new : q.panel.next_stamp ≤ stamp
  pub left : t ≡ row_left (without_shelving stamp s)

-- it stays
pub record IsKept (action : Action) (s t : State) : Type 0 where
  pub same : t ≡ s
  pub early : (moment deadline : ℕ) → action ≡ Clock moment → s.shelved_until ≡ Some deadline → moment < deadline

abbrev pub Moves : Condensed → Action → ℕ → State → State → Type 0
Moves q action i s t = IsNamed q action i s t ⊎ IsEnded q action s t ⊎ IsKept action s t

abbrev moment_of : Action → ℕ
moment_of (Clock t) = t
moment_of _ = 0

-- what is due
due-is : (o : Option ℕ) (t : ℕ) → (is_some o && nat_le (unwrap_or o 0) t) ≡ true → (d : ℕ) × (o ≡ Some d) × (d ≤ t)
due-is None t e = absurd (true≢false (sym e))
due-is (Some d) t e = (d, refl, leb-true d t e)

due-not : (o : Option ℕ) (t d : ℕ) → o ≡ Some d → (is_some o && nat_le (unwrap_or o 0) t) ≡ false → t < d
due-not None t d e f = absurd (none-some d e)
due-not (Some x) t d e f = (let l = leb-false x t f in let same = same_Some _ _ e in omega (arith, l, same))

-- an alarm of a plant that keeps the rules
pub record AlarmAt (q : Condensed) (i : ℕ) (s : State) : Type 0 where
  pub attr : Attr
  pub has : slice_get q.panel.attrs i ≡ Some attr
  pub moments : List ℕ
  pub recorded : slice_get q.kept.moments i ≡ Some moments
  pub keeps : IsAlarm q.panel.now q.panel.next_stamp attr s moments

pub alarm-at : (q : Condensed) (i : ℕ) (s : State) → KeepsRules q → slice_get q.panel.rows i ≡ Some s → AlarmAt q i s
alarm-at q i s h e =
    let inside = slice_get_within q.panel.rows i s e in
    let a = there q.panel.attrs i (let r = h.attrs in omega arith) in
    let ms = there q.kept.moments i (let r = h.recent in omega arith) in
    record { attr = a.0; has = a.1; moments = ms.0; recorded = ms.1; keeps = h.alarms i a.0 s ms.0 a.1 e ms.1 }

pub own-first : (own last : Option Refusal) → or_else own last ≡ None → own ≡ None
own-first None last h = refl
own-first (Some r) last h = absurd (none-some _ (sym h))

no-clock : (action : Action) (s : State) → is_clock action ≡ false → (moment deadline : ℕ) → action ≡ Clock moment → s.shelved_until ≡ Some deadline → moment < deadline
no-clock action s e moment deadline same _ = absurd (true≢false (sym (ap is_clock same) ∙ e))

stays : (q : Condensed) (action : Action) (i : ℕ) (s t : State) → is_clock action ≡ false → Some t ≡ Some s → Moves q action i s t
stays q action i s t e same = inr (inr (record { same = same_Some _ _ same; early = no-clock action s e }))

touch-moves : (q : Condensed) (action : Action) (i : ℕ) (s t : State) → KeepsRules q → is_clock action ≡ false
    → alarm_refusal action (slice_get q.panel.attrs (alarm_of action)) (slice_get q.panel.rows (alarm_of action)) ≡ None
    → slice_get q.panel.rows i ≡ Some s
    → slice_get (touch in_brief (with_one_more q) (alarm_of action) (outcome q.panel.now q.panel.next_stamp action)).panel.rows i ≡ Some t
    → Moves q action i s t
touch-moves q action i s t h e free before after = elim (cases_eq (alarm_of action) i) [
  | inl same ↦
      let at = alarm-at q i s h before in
      let f = outcome q.panel.now q.panel.next_stamp action in
      let left : slice_get (touch in_brief (with_one_more q) (alarm_of action) f).panel.rows i ≡ Some (row_left (f at.attr s)) =
      subst (λ k. slice_get (touch in_brief (with_one_more q) k f).panel.rows i ≡ Some (row_left (f at.attr s))) (sym same) (touch-here (with_one_more q) i f at.attr s at.has before) in
      let admitted : row_refusal action at.attr s ≡ None =
      sym (ap (λ k. alarm_refusal action (slice_get q.panel.attrs k) (slice_get q.panel.rows k)) same ∙ ap (λ o. alarm_refusal action o (slice_get q.panel.rows i)) at.has ∙ ap (alarm_refusal action (Some at.attr)) before) ∙ free in
      inl (record { named = same; timeless = e; attr = at.attr; has = at.has; takes = record { state = at.keeps.state; admitted = admitted }; left = same_Some _ _ (sym after ∙ left) })
  | inr d ↦ stays q action i s t e (sym after ∙ touch-other (with_one_more q) (alarm_of action) i (outcome q.panel.now q.panel.next_stamp action) d ∙ before)
]

clock-moves : (q : Condensed) (moment i : ℕ) (s t : State) → KeepsRules q → slice_get q.panel.rows i ≡ Some s
    → slice_get (fold (unshelve in_brief) (later in_brief moment (with_one_more q)) (due moment q.panel)).panel.rows i ≡ Some t
    → Moves q (Clock moment) i s t
clock-moves q moment i s t h before after =
    let at = alarm-at q i s h before in
    let begun : Condensed = later in_brief moment (with_one_more q) in
    let key : ℕ → ℕ = λ j. key_of deadline (slice_get q.panel.rows j) in
    let test : is_one (is_due moment) q.panel.attrs q.panel.rows i ≡ is_due moment at.attr s =
    ap (λ o. passes (is_due moment) o (slice_get q.panel.rows i)) at.has ∙ ap (passes (is_due moment) (Some at.attr)) before in
    let members = listed-members deadline (is_due moment) q.panel.attrs q.panel.rows i in
    elim (cases_Bool (is_due moment at.attr s)) [
      | inl is ↦
          let has : Has i (due moment q.panel) = Has-from i (due moment q.panel) (members.1 (test ∙ is)) in
          let d = due-is s.shelved_until moment is in
          let left = fold-here key (due moment q.panel) begun i at.attr s (rises-filter key (is_one (is_due moment) q.panel.attrs q.panel.rows) 0 (length q.panel.rows)) has at.has before in
          inr (inl (record { moment = moment; clock = refl; deadline = d.0; shelved = d.1; reached = d.2; stamp = left.0; new = left.1; left = same_Some _ _ (sym after ∙ left.2) }))
      | inr isnt ↦
          let out : Has i (due moment q.panel) → ⊥ = λ k. true≢false (sym (members.0 (Contains-from i (due moment q.panel) k)) ∙ test ∙ isnt) in
          inr (inr (record {
            same = same_Some _ _ (sym after ∙ fold-other (due moment q.panel) begun i out ∙ before);
            early = λ m d e f. (let same : moment ≡ m = ap moment_of e in let l = due-not s.shelved_until moment d f isnt in omega (arith, same, l));
          }))
    ]

effect-moves : (q : Condensed) (action : Action) (i : ℕ) (s t : State) → KeepsRules q → own_refusal q.panel action ≡ None → slice_get q.panel.rows i ≡ Some s
    → slice_get (with_effect in_brief (with_one_more q) action).panel.rows i ≡ Some t → Moves q action i s t
effect-moves q (Clock m) i s t h free before after = clock-moves q m i s t h before after
effect-moves q (Value j v) i s t h free before after = touch-moves q (Value j v) i s t h refl free before after
effect-moves q (Ack j) i s t h free before after = touch-moves q (Ack j) i s t h refl free before after
effect-moves q (Reset j) i s t h free before after = touch-moves q (Reset j) i s t h refl free before after
effect-moves q (Shelve j n) i s t h free before after = touch-moves q (Shelve j n) i s t h refl free before after
effect-moves q (Unshelve j) i s t h free before after = touch-moves q (Unshelve j) i s t h refl free before after
effect-moves q (Oos j on) i s t h free before after = touch-moves q (Oos j on) i s t h refl free before after
effect-moves q (Design j on) i s t h free before after = touch-moves q (Design j on) i s t h refl free before after
effect-moves q (SetPriority j n) i s t h free before after = stays q (SetPriority j n) i s t refl (sym after ∙ before)
effect-moves q (SetSetpoint j v) i s t h free before after = stays q (SetSetpoint j v) i s t refl (sym after ∙ before)

pub step-moves : (q : Condensed) (action : Action) (i : ℕ) (s t : State) → KeepsRules q → refusal q.panel action ≡ None → slice_get q.panel.rows i ≡ Some s
    → slice_get (step q action).panel.rows i ≡ Some t → Moves q action i s t
step-moves q action i s t h free before after = effect-moves q action i s t h (own-first (own_refusal q.panel action) _ free) before after

effect-stamp : (q : Condensed) (action : Action) → q.panel.next_stamp ≤ (with_effect in_brief q action).panel.next_stamp
effect-stamp q (Clock m) = fold-stamp (due m q.panel) (later in_brief m q)
effect-stamp q (Value j v) = touch-stamp q j.0 (outcome q.panel.now q.panel.next_stamp (Value j v))
effect-stamp q (Ack j) = touch-stamp q j.0 (outcome q.panel.now q.panel.next_stamp (Ack j))
effect-stamp q (Reset j) = touch-stamp q j.0 (outcome q.panel.now q.panel.next_stamp (Reset j))
effect-stamp q (Shelve j n) = touch-stamp q j.0 (outcome q.panel.now q.panel.next_stamp (Shelve j n))
effect-stamp q (Unshelve j) = touch-stamp q j.0 (outcome q.panel.now q.panel.next_stamp (Unshelve j))
effect-stamp q (Oos j on) = touch-stamp q j.0 (outcome q.panel.now q.panel.next_stamp (Oos j on))
effect-stamp q (Design j on) = touch-stamp q j.0 (outcome q.panel.now q.panel.next_stamp (Design j on))
effect-stamp q (SetPriority j n) = omega arith
effect-stamp q (SetSetpoint j v) = omega arith

pub step-stamp : (q : Condensed) (action : Action) → q.panel.next_stamp ≤ (step q action).panel.next_stamp
step-stamp q action = effect-stamp (with_one_more q) action
