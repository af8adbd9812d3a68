-- The laws of the alarms of a plant.
use Rattle.std.proofs.Common.{◌≡◌, ◌≢◌, ℕ, ◌<◌, ◌≤◌, Bool, true, false, not, ◌&&◌, ◌||◌, Option, Some, None, Ok, refl, sym, ap, ◌∙◌, arith, inl, inr, ◌⊎◌, subst, is_some, true≢false}
use Rattle.std.specs.Prelude.{IsTrue}
use Rattle.std.proofs.lemmas.Bool.{cases_Bool}
use Rattle.std.proofs.lemmas.Option.{none-some, same_Some}
use Rattle.alm_types.specs.declared.attr.Attr.{Attr}
use Rattle.alm_types.specs.declared.action.Action.{Action}
use Rattle.alm_types.specs.declared.action.Action.TheVariants.{Clock, Value, Ack, Reset, Shelve, Unshelve, Oos, Design, SetPriority, SetSetpoint}
use Rattle.alm_types.specs.declared.refusal.Refusal.{Refusal}
use Rattle.alm_types.specs.declared.refusal.Refusal.TheVariants.{WrongRole}
use Rattle.alm_types.specs.declared.request.Request.{Request}
use Rattle.alm_types.specs.Wants.{wanted_action}
use Rattle.alm_types.specs.declared.role.Role.{Role}
use Rattle.alm_types.specs.declared.role.Role.TheVariants as role
use Rattle.alm_types.specs.Actions.{alarm_of}
use Rattle.alm_types.specs.Slots.{role_of}
use Rattle.alm_state.specs.Rows.{State, IsState, is_suppressed, is_annunciated}
use Rattle.alm_state.specs.Suits.{suits}
use Rattle.alm_state.specs.Outcome.{outcome, without_shelving, or_else, unless}
use Rattle.alm_state.specs.declared.outcome.Outcome.{Outcome}
use Rattle.alm_state.specs.declared.outcome.Outcome.TheVariants.{Changed, Annunciated, Shelved}
use Rattle.alm_state.specs.declared.core_state.Core.TheVariants.{Unack}
use Rattle.alm_state.proofs.OutcomeLaws.{IsOutcome, outcome-good, unshelved-good}
use Rattle.alm_laws.specs.Alarm.{row_left, annunciates, is_unacknowledged, is_latched, acknowledges, resets, unshelves, suppresses, condition_comes, last_flag_falls, IsAnnunciatedJustThen, WaitsWithStamp}
use Rattle.alm_laws.proofs.AlarmLaws.{acknowledged-only, latched-until, shelving-ends, annunciated-then, annunciated-waits, unshelved-then, flags-waits, flags-shelving, calm, not-both, under-shelving, unless-none}
use Rattle.alm_model.specs.Plant.{Panel, Condensed}
use Rattle.alm_model.specs.Accept.{accept, answer, may_ask, refusal, stamp_refusal}
use Rattle.alm_laws.specs.Plant.{Becomes, IsAcknowledgedByConsoleOrFlag, IsResetByConsoleOrFlag, ShelvingEndsOnlyByUnshelveOrClock, ClockEndsTheShelving, FreedIsAnnunciatedAnew, AnnunciatedOnlyThen, OthersStay, Names, asker_of}
use Rattle.alm_laws.proofs.Moving.{Moves, IsNamed, IsEnded, is_clock, alarm-at, step-moves}

names-it : (action : Action) (i : ℕ) → is_clock action ≡ false → alarm_of action ≡ i → Names action i
names-it (Clock t) i e h = true≢false e
names-it (Value k v) i e h = h
names-it (Ack k) i e h = h
names-it (Reset k) i e h = h
names-it (Shelve k n) i e h = h
names-it (Unshelve k) i e h = h
names-it (Oos k on) i e h = h
names-it (Design k on) i e h = h
names-it (SetPriority k n) i e h = h
names-it (SetSetpoint k v) i e h = h

-- ---- what is accepted

answer-ok : (a : Action) (o : Option Refusal) → answer a o ≡ Ok a → o ≡ None
answer-ok a None e = refl
answer-ok a (Some r) e = absurd cc

pub both-none : (o p : Option Refusal) → or_else o p ≡ None → (o ≡ None) × (p ≡ None)
both-none None p e = (refl, e)
both-none (Some r) p e = absurd (none-some _ (sym e))

pub accepted-parts : (p : Panel) (r : Request) → accept p r ≡ Ok (wanted_action r) → (may_ask (role_of r.slot) (wanted_action r) ≡ true) × (refusal p (wanted_action r) ≡ None)
accepted-parts p r e =
    let parts = both-none (unless (may_ask (role_of r.slot) (wanted_action r)) WrongRole) (or_else (refusal p (wanted_action r)) (stamp_refusal p r.want)) (answer-ok (wanted_action r) _ e) in
    (unless-none (may_ask (role_of r.slot) (wanted_action r)) WrongRole parts.0, (both-none (refusal p (wanted_action r)) (stamp_refusal p r.want) parts.1).0)

pub standing-part : (p : Panel) (r : Request) → accept p r ≡ Ok (wanted_action r) → stamp_refusal p r.want ≡ None
standing-part p r e =
    let parts = both-none (unless (may_ask (role_of r.slot) (wanted_action r)) WrongRole) (or_else (refusal p (wanted_action r)) (stamp_refusal p r.want)) (answer-ok (wanted_action r) _ e) in
    (both-none (refusal p (wanted_action r)) (stamp_refusal p r.want) parts.1).1

ask-role : (ro : Role) (action : Action) → may_ask ro action ≡ true → ro ≡ asker_of action
ask-role role.Clock (Clock t) e = refl
ask-role role.Feed (Value i v) e = refl
ask-role role.Feed (Design i on) e = refl
ask-role role.Console (Ack i) e = refl
ask-role role.Console (Reset i) e = refl
ask-role role.Console (Shelve i n) e = refl
ask-role role.Console (Unshelve i) e = refl
ask-role role.Console (Oos i on) e = refl
ask-role role.Console (SetPriority i n) e = refl
ask-role role.Console (SetSetpoint i v) e = refl
ask-role ro action e = absurd (true≢false (sym e))

pub asked-by : (p : Panel) (r : Request) → accept p r ≡ Ok (wanted_action r) → role_of r.slot ≡ asker_of (wanted_action r)
asked-by p r e = ask-role (role_of r.slot) (wanted_action r) (accepted-parts p r e).0

acknowledges-console : (action : Action) → acknowledges action ≡ true → asker_of action ≡ role.Console
acknowledges-console (Ack i) e = refl
acknowledges-console action e = absurd (true≢false (sym e))

resets-console : (action : Action) → resets action ≡ true → asker_of action ≡ role.Console
resets-console (Reset i) e = refl
resets-console action e = absurd (true≢false (sym e))

unshelves-console : (action : Action) → unshelves action ≡ true → asker_of action ≡ role.Console
unshelves-console (Unshelve i) e = refl
unshelves-console action e = absurd (true≢false (sym e))

or-either : (b c : Bool) → (b || c) ≡ true → (b ≡ true) ⊎ (c ≡ true)
or-either true c e = inl refl
or-either false c e = inr e

no-fall : (b x : Bool) → (b && not b) ≡ true → ⊥
no-fall true x e = true≢false (sym e)
no-fall false x e = true≢false (sym e)

or-second : (b c d : Bool) → c ≡ true → d ≡ true → (b || c && d) ≡ true
or-second true c d e f = refl
or-second false c d e f = rw (e, f) refl

-- a row that asks for the operator without being annunciated again keeps its stamp
pub outcome-stamp : (a : Attr) (now stamp : ℕ) (s : State) (o : Outcome) → IsOutcome a now stamp s o → annunciates o ≡ false → is_annunciated (row_left o).core ≡ true → (row_left o).stamp ≡ s.stamp
outcome-stamp a now stamp s (Changed t) good e loud = elim good.stamp [
  | inl same ↦ same
  | inr zero ↦ (let some : 0 < t.stamp = good.state.stamped.0 (rw loud refl) in absurd (omega (arith, some, zero)))
]
outcome-stamp a now stamp s (Annunciated t) good e loud = absurd (true≢false e)
outcome-stamp a now stamp s (Shelved t) good e loud = absurd (true≢false (sym loud ∙ good.quiet))

-- an outcome's stamp is the old one, none or the new one
pub outcome-stamps : (a : Attr) (now stamp : ℕ) (s : State) (o : Outcome) → IsOutcome a now stamp s o → ((row_left o).stamp ≡ s.stamp) ⊎ ((row_left o).stamp ≡ 0) ⊎ ((row_left o).stamp ≡ stamp)
outcome-stamps a now stamp s (Changed t) good = elim good.stamp [ inl e ↦ inl e | inr e ↦ inr (inl e) ]
outcome-stamps a now stamp s (Annunciated t) good = inr (inr good.new)
outcome-stamps a now stamp s (Shelved t) good = inr (inr good.new)

module _ (q : Condensed) (r : Request) (i : ℕ) (s t : State) (b : Becomes q r i s t) where
  moves : Moves q (wanted_action r) i s t
  moves = step-moves q (wanted_action r) i s t b.rules (accepted-parts q.panel r b.accepted).1 b.before b.after

  state : IsState s
  state = (alarm-at q i s b.rules b.before).keeps.state

  asked : role_of r.slot ≡ asker_of (wanted_action r)
  asked = asked-by q.panel r b.accepted

  clock-asked : (moment : ℕ) → (wanted_action r) ≡ Clock moment → role_of r.slot ≡ role.Clock
  clock-asked moment e = asked ∙ ap asker_of e

  ended-under : IsEnded q (wanted_action r) s t → is_suppressed s ≡ true
  ended-under h = under-shelving s (ap is_some h.shelved)

  named-good : (h : IsNamed q (wanted_action r) i s t) → IsOutcome h.attr q.panel.now q.panel.next_stamp s (outcome q.panel.now q.panel.next_stamp (wanted_action r) h.attr s)
  named-good h =
      let at = alarm-at q i s b.rules b.before in
      let same : at.attr ≡ h.attr = same_Some _ _ (sym at.has ∙ h.has) in
      outcome-good h.attr q.panel.now q.panel.next_stamp (wanted_action r) s (let f = b.rules.first_stamp in omega arith) state (subst (λ a. IsTrue (suits a.latching s.core)) same at.keeps.suits) h.takes.admitted

  ended-good : (h : IsEnded q (wanted_action r) s t) → IsOutcome (alarm-at q i s b.rules b.before).attr q.panel.now h.stamp s (without_shelving h.stamp s)
  ended-good h = unshelved-good (alarm-at q i s b.rules b.before).attr q.panel.now h.stamp s (let f = b.rules.first_stamp in let n = h.new in omega arith) state

  pub acknowledged-by : IsAcknowledgedByConsoleOrFlag r i s t
  acknowledged-by e f = elim moves [
    | inl h ↦ elim (or-either (acknowledges (wanted_action r)) (suppresses (wanted_action r)) (acknowledged-only q.panel.now q.panel.next_stamp (wanted_action r) h.attr s h.takes e (sym (ap (λ x. is_unacknowledged x.core) h.left) ∙ f))) [
      | inl ack ↦ inl (asked ∙ acknowledges-console (wanted_action r) ack, ack, h.named)
      | inr flag ↦ inr (flag, h.named)
    ]
    | inr other ↦ elim other [
      | inl h ↦ calm is_unacknowledged s state refl (ended-under h) e
      | inr h ↦ not-both (is_unacknowledged s.core) e (sym (ap (λ x. is_unacknowledged x.core) h.same) ∙ f)
    ]
  ]

  pub reset-by : IsResetByConsoleOrFlag r i s t
  reset-by e f = elim moves [
    | inl h ↦ elim (or-either (resets (wanted_action r)) (suppresses (wanted_action r)) (latched-until q.panel.now q.panel.next_stamp (wanted_action r) h.attr s h.takes e (sym (ap (λ x. x.core) h.left) ∙ f))) [
      | inl reset ↦ inl (asked ∙ resets-console (wanted_action r) reset, reset, h.named)
      | inr flag ↦ inr (flag, h.named)
    ]
    | inr other ↦ elim other [
      | inl h ↦ calm is_latched s state refl (ended-under h) e
      | inr h ↦ not-both (is_latched s.core) e (ap is_latched (sym (ap (λ x. x.core) h.same) ∙ f))
    ]
  ]

  ended-shelving : IsEnded q (wanted_action r) s t → t.shelved_until ≡ None
  ended-shelving h = ap (λ x. x.shelved_until) h.left ∙ flags-shelving h.stamp (record s { shelved_until = None })

  pub shelving-ends-by : ShelvingEndsOnlyByUnshelveOrClock r i s t
  shelving-ends-by deadline e differs = elim moves [
    | inl h ↦ elim (shelving-ends q.panel.now q.panel.next_stamp (wanted_action r) h.attr s h.takes (ap is_some e)) [
      | inl ended ↦ (ap (λ x. x.shelved_until) h.left ∙ ended.1, inl (asked ∙ unshelves-console (wanted_action r) ended.0, ended.0, h.named))
      | inr same ↦ absurd (differs (ap (λ x. x.shelved_until) h.left ∙ same.1 ∙ e))
    ]
    | inr other ↦ elim other [
      | inl h ↦ (let same : h.deadline ≡ deadline = same_Some _ _ (sym h.shelved ∙ e) in
          (ended-shelving h, inr (h.moment, h.clock, clock-asked h.moment h.clock, (let l = h.reached in omega (arith, same, l)))))
      | inr h ↦ absurd (differs (ap (λ x. x.shelved_until) h.same ∙ e))
    ]
  ]

  pub clock-ends : ClockEndsTheShelving r s t
  clock-ends deadline e reached = elim moves [
    | inl h ↦ absurd (true≢false (sym (ap is_clock reached.1) ∙ h.timeless))
    | inr other ↦ elim other [
      | inl h ↦ ended-shelving h
      | inr h ↦ (let early = h.early reached.0 deadline reached.1 e in let late = reached.3 in absurd (omega (arith, early, late)))
    ]
  ]

  annunciated-here : (o : Outcome) (stamp : ℕ) → t ≡ row_left o → IsAnnunciatedJustThen s o → WaitsWithStamp stamp o → q.panel.next_stamp ≤ stamp
      → last_flag_falls s t ≡ true → t.active ≡ true → (t.core ≡ Unack) × (q.panel.next_stamp ≤ t.stamp)
  annunciated-here o stamp left just waits new falls active =
      let loud : annunciates o ≡ true =
      just ∙ sym (ap (λ x. condition_comes s x || last_flag_falls s x && x.active) left) ∙ or-second (condition_comes s t) (last_flag_falls s t) t.active falls active in
      let w = waits loud in
      let same : t.stamp ≡ stamp = ap (λ x. x.stamp) left ∙ w.1 in
      (ap (λ x. x.core) left ∙ w.0, omega (arith, same, new))

  pub freed-anew : FreedIsAnnunciatedAnew q s t
  freed-anew falls active = elim moves [
    | inl h ↦ annunciated-here (outcome q.panel.now q.panel.next_stamp (wanted_action r) h.attr s) q.panel.next_stamp h.left (annunciated-then q.panel.now q.panel.next_stamp (wanted_action r) h.attr s h.takes) (annunciated-waits q.panel.now q.panel.next_stamp (wanted_action r) h.attr s) (omega arith) falls active
    | inr other ↦ elim other [
      | inl h ↦ annunciated-here (without_shelving h.stamp s) h.stamp h.left (unshelved-then h.stamp s (ap is_some h.shelved)) (flags-waits h.stamp (record s { shelved_until = None })) h.new falls active
      | inr h ↦ absurd (no-fall (is_suppressed s) t.active (sym (ap (λ x. last_flag_falls s x) h.same) ∙ falls))
    ]
  ]

  only-here : (o : Outcome) (a : Attr) (stamp : ℕ) → t ≡ row_left o → IsAnnunciatedJustThen s o → IsOutcome a q.panel.now stamp s o
      → is_annunciated t.core ≡ true → t.stamp ≢ s.stamp → (condition_comes s t || last_flag_falls s t && t.active) ≡ true
  only-here o a stamp left just good loud differs = elim (cases_Bool (annunciates o)) [
    | inl is ↦ ap (λ x. condition_comes s x || last_flag_falls s x && x.active) left ∙ sym just ∙ is
    | inr isnt ↦ absurd (differs (ap (λ x. x.stamp) left ∙ outcome-stamp a q.panel.now stamp s o good isnt (sym (ap (λ x. is_annunciated x.core) left) ∙ loud)))
  ]

  pub annunciated-only : AnnunciatedOnlyThen s t
  annunciated-only loud differs = elim moves [
    | inl h ↦ only-here (outcome q.panel.now q.panel.next_stamp (wanted_action r) h.attr s) h.attr q.panel.next_stamp h.left (annunciated-then q.panel.now q.panel.next_stamp (wanted_action r) h.attr s h.takes) (named-good h) loud differs
    | inr other ↦ elim other [
      | inl h ↦ only-here (without_shelving h.stamp s) (alarm-at q i s b.rules b.before).attr h.stamp h.left (unshelved-then h.stamp s (ap is_some h.shelved)) (ended-good h) loud differs
      | inr h ↦ absurd (differs (ap (λ x. x.stamp) h.same))
    ]
  ]

  pub others-stay : OthersStay r i s t
  others-stay named due = elim moves [
    | inl h ↦ absurd (named (names-it (wanted_action r) i h.timeless h.named))
    | inr other ↦ elim other [
      | inl h ↦ absurd (due h.deadline h.shelved (h.moment, h.clock, clock-asked h.moment h.clock, h.reached))
      | inr h ↦ h.same
    ]
  ]
