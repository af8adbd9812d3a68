-- Who moves what.
use Rattle.std.proofs.Common.{◌≡◌, ◌≢◌, ℕ, Bool, true, false, cond, List, [], ◌∷◌, Option, Some, None, Ok, refl, sym, ap, ◌∙◌, inl, inr, ◌⊎◌, is_some, true≢false}
use Rattle.std.specs.Prelude.{slice_get, fold}
use Rattle.std.proofs.lemmas.Bool.{cases_eq}
use Rattle.std.proofs.lemmas.Option.{none-some}
use Rattle.alm_types.specs.declared.attr.Attr.{Attr}
use Rattle.alm_types.specs.declared.action.Action.{Action}
use Rattle.alm_types.specs.declared.action.Action.TheVariants.{Clock, Value, Ack, Reset, Shelve, Unshelve, Oos, Design, SetPriority, SetSetpoint}
use Rattle.alm_types.specs.declared.request.Request.{Request}
use Rattle.alm_types.specs.Wants.{wanted_action}
use Rattle.alm_types.specs.declared.role.Role.TheVariants as role
use Rattle.alm_types.specs.Actions.{alarm_of}
use Rattle.alm_types.specs.Changes.{with_priority, with_setpoint}
use Rattle.alm_types.specs.Slots.{role_of}
use Rattle.alm_state.specs.Rows.{State, is_suppressed}
use Rattle.alm_state.specs.Table.{next_core}
use Rattle.alm_state.specs.Detection.{detection_of}
use Rattle.alm_state.specs.Outcome.{outcome, without_shelving, after_transition, after_flags, after_condition}
use Rattle.alm_state.specs.declared.core_state.Core.{Core}
use Rattle.alm_state.specs.declared.core_state.Core.TheVariants.{Normal, Unack, Acked, RtnUnack, LatchUnack, LatchAcked}
use Rattle.alm_state.specs.declared.happening.Happening.TheVariants as happening
use Rattle.alm_state.specs.declared.outcome.Outcome.{Outcome}
use Rattle.alm_state.specs.declared.outcome.Outcome.TheVariants.{Changed, Annunciated, Shelved}
use Rattle.alm_laws.specs.Alarm.{row_left, shelves}
use Rattle.alm_laws.proofs.AlarmLaws.{shelving-begins}
use Rattle.alm_model.specs.Plant.{Condensed}
use Rattle.alm_model.specs.Keeping.{in_brief, change}
use Rattle.alm_model.specs.Lists.{due}
use Rattle.alm_model.specs.Step.{with_outcome, with_touched_alarm, touch, unshelve, later, with_effect, with_one_more}
use Rattle.alm_model.proofs.Measured.{change-off}
use Rattle.alm_laws.specs.Plant.{Becomes, asker_of, moves_service, moves_design, sends_value, configures, ShelvedOnlyByAConsole, ServiceOnlyByAConsole, DesignOnlyByTheFeed, ConditionOnlyByTheFeed, TimeOnlyByTheClock, AttributesOnlyByAConsole}
use Rattle.alm_model.specs.Accept.{accept}
use Rattle.alm_laws.proofs.Moving.{Moves, step-moves}
use Rattle.alm_laws.proofs.Plants.{asked-by, accepted-parts}

-- ---- a part of a row that neither the core nor the stamp moves
module _ (A : Type 0) (part : State → A) (apart : (c : Core) (n : ℕ) (x : State) → part (record x { core = c; stamp = n }) ≡ part x) where
  part-led : (stamp : ℕ) (o : Option Core) (t : State) → part (row_left (after_transition stamp o t)) ≡ part t
  part-led stamp None t = refl
  part-led stamp (Some Normal) t = apart Normal 0 t
  part-led stamp (Some Unack) t = apart Unack stamp t
  part-led stamp (Some Acked) t = apart Acked t.stamp t
  part-led stamp (Some RtnUnack) t = apart RtnUnack t.stamp t
  part-led stamp (Some LatchUnack) t = apart LatchUnack t.stamp t
  part-led stamp (Some LatchAcked) t = apart LatchAcked t.stamp t

  part-flags-cases : (stamp : ℕ) (t : State) (v y : Bool)
      → part (row_left (cond v (Changed (record t { core = Normal; stamp = cond (is_some t.shelved_until) t.stamp 0 })) (cond y (Annunciated (record t { core = Unack; stamp = stamp })) (Changed (record t { core = Normal; stamp = 0 }))))) ≡ part t
  part-flags-cases stamp t true y = apart Normal (cond (is_some t.shelved_until) t.stamp 0) t
  part-flags-cases stamp t false true = apart Unack stamp t
  part-flags-cases stamp t false false = apart Normal 0 t

  pub part-flags : (stamp : ℕ) (t : State) → part (row_left (after_flags stamp t)) ≡ part t
  part-flags stamp t = part-flags-cases stamp t (is_suppressed t) t.active

  -- of the others it moves with a value alone
  part-value-cases : (stamp : ℕ) (a : Attr) (s : State) (active u : Bool) → part (record s { active = active }) ≡ part s
      → part (row_left (cond u (Changed (record s { active = active })) (after_transition stamp (next_core a.latching (cond active happening.Comes happening.Goes) s.core) (record s { active = active })))) ≡ part s
  part-value-cases stamp a s active true e = e
  part-value-cases stamp a s active false e = part-led stamp (next_core a.latching (cond active happening.Comes happening.Goes) s.core) (record s { active = active }) ∙ e

  part-value : (stamp : ℕ) (a : Attr) (s : State) (o : Option Bool) → ((active : Bool) → part (record s { active = active }) ≡ part s) → part (row_left (after_condition stamp a s o)) ≡ part s
  part-value stamp a s None e = refl
  part-value stamp a s (Some active) e = part-value-cases stamp a s active (is_suppressed s) (e active)

abbrev service_of : State → Bool
service_of s = s.out_of_service

abbrev design_of : State → Bool
design_of s = s.by_design

abbrev active_of : State → Bool
active_of s = s.active

either-service : (now stamp : ℕ) (action : Action) (a : Attr) (s : State) → (moves_service action ≡ true) ⊎ (service_of (row_left (outcome now stamp action a s)) ≡ service_of s)
either-service now stamp (Clock t) a s = inr refl
either-service now stamp (Value i v) a s = inr (part-value Bool service_of (λ c n x. refl) stamp a s (detection_of a s.active v) (λ b. refl))
either-service now stamp (Ack i) a s = inr (part-led Bool service_of (λ c n x. refl) stamp (next_core a.latching happening.Ack s.core) s)
either-service now stamp (Reset i) a s = inr (part-led Bool service_of (λ c n x. refl) stamp (next_core a.latching happening.Reset s.core) s)
either-service now stamp (Shelve i n) a s = inr refl
either-service now stamp (Unshelve i) a s = inr (part-flags Bool service_of (λ c n x. refl) stamp (record s { shelved_until = None }))
either-service now stamp (Oos i on) a s = inl refl
either-service now stamp (Design i on) a s = inr (part-flags Bool service_of (λ c n x. refl) stamp (record s { by_design = on }))
either-service now stamp (SetPriority i n) a s = inr refl
either-service now stamp (SetSetpoint i v) a s = inr refl

either-design : (now stamp : ℕ) (action : Action) (a : Attr) (s : State) → (moves_design action ≡ true) ⊎ (design_of (row_left (outcome now stamp action a s)) ≡ design_of s)
either-design now stamp (Clock t) a s = inr refl
either-design now stamp (Value i v) a s = inr (part-value Bool design_of (λ c n x. refl) stamp a s (detection_of a s.active v) (λ b. refl))
either-design now stamp (Ack i) a s = inr (part-led Bool design_of (λ c n x. refl) stamp (next_core a.latching happening.Ack s.core) s)
either-design now stamp (Reset i) a s = inr (part-led Bool design_of (λ c n x. refl) stamp (next_core a.latching happening.Reset s.core) s)
either-design now stamp (Shelve i n) a s = inr refl
either-design now stamp (Unshelve i) a s = inr (part-flags Bool design_of (λ c n x. refl) stamp (record s { shelved_until = None }))
either-design now stamp (Oos i on) a s = inr (part-flags Bool design_of (λ c n x. refl) stamp (record s { out_of_service = on }))
either-design now stamp (Design i on) a s = inl refl
either-design now stamp (SetPriority i n) a s = inr refl
either-design now stamp (SetSetpoint i v) a s = inr refl

pub either-active : (now stamp : ℕ) (action : Action) (a : Attr) (s : State) → (sends_value action ≡ true) ⊎ (active_of (row_left (outcome now stamp action a s)) ≡ active_of s)
either-active now stamp (Clock t) a s = inr refl
either-active now stamp (Value i v) a s = inl refl
either-active now stamp (Ack i) a s = inr (part-led Bool active_of (λ c n x. refl) stamp (next_core a.latching happening.Ack s.core) s)
either-active now stamp (Reset i) a s = inr (part-led Bool active_of (λ c n x. refl) stamp (next_core a.latching happening.Reset s.core) s)
either-active now stamp (Shelve i n) a s = inr refl
either-active now stamp (Unshelve i) a s = inr (part-flags Bool active_of (λ c n x. refl) stamp (record s { shelved_until = None }))
either-active now stamp (Oos i on) a s = inr (part-flags Bool active_of (λ c n x. refl) stamp (record s { out_of_service = on }))
either-active now stamp (Design i on) a s = inr (part-flags Bool active_of (λ c n x. refl) stamp (record s { by_design = on }))
either-active now stamp (SetPriority i n) a s = inr refl
either-active now stamp (SetSetpoint i v) a s = inr refl

service-console : (action : Action) → moves_service action ≡ true → asker_of action ≡ role.Console
service-console (Oos i on) e = refl
service-console action e = absurd (true≢false (sym e))

shelves-console : (action : Action) → shelves action ≡ true → asker_of action ≡ role.Console
shelves-console (Shelve i n) e = refl
shelves-console action e = absurd (true≢false (sym e))

design-feed : (action : Action) → moves_design action ≡ true → asker_of action ≡ role.Feed
design-feed (Design i on) e = refl
design-feed action e = absurd (true≢false (sym e))

value-feed : (action : Action) → sends_value action ≡ true → asker_of action ≡ role.Feed
value-feed (Value i v) e = refl
value-feed action e = absurd (true≢false (sym e))

configures-console : (action : Action) → configures action ≡ true → asker_of action ≡ role.Console
configures-console (SetPriority i n) e = refl
configures-console (SetSetpoint i v) e = refl
configures-console action e = absurd (true≢false (sym e))

some-there : (o : Option ℕ) → o ≢ None → is_some o ≡ true
some-there None d = absurd (d refl)
some-there (Some x) d = refl

module _ (q : Condensed) (r : Request) (i : ℕ) (s t : State) (b : Becomes q r i s t) where
  moves : Moves q (wanted_action r) i s t
  moves = step-moves q (wanted_action r) i s t b.rules (accepted-parts q.panel r b.accepted).1 b.before b.after

  asked : role_of r.slot ≡ asker_of (wanted_action r)
  asked = asked-by q.panel r b.accepted

  -- a part that moves with some actions alone, and with no shelving's end
  by-named : (part : State → Bool) (test : Action → Bool) → ((now stamp : ℕ) (action : Action) (a : Attr) (x : State) → (test action ≡ true) ⊎ (part (row_left (outcome now stamp action a x)) ≡ part x))
      → ((stamp : ℕ) (x : State) → part (row_left (without_shelving stamp x)) ≡ part x) → part t ≢ part s → (test (wanted_action r) ≡ true) × (alarm_of (wanted_action r) ≡ i)
  by-named part test either ended differs = elim moves [
    | inl h ↦ elim (either q.panel.now q.panel.next_stamp (wanted_action r) h.attr s) [
      | inl is ↦ (is, h.named)
      | inr same ↦ absurd (differs (ap part h.left ∙ same))
    ]
    | inr other ↦ elim other [
      | inl h ↦ absurd (differs (ap part h.left ∙ ended h.stamp s))
      | inr h ↦ absurd (differs (ap part h.same))
    ]
  ]

  pub service-by : ServiceOnlyByAConsole r i s t
  service-by differs = let n = by-named service_of moves_service either-service (λ stamp x. part-flags Bool service_of (λ c n x. refl) stamp (record x { shelved_until = None })) differs in (asked ∙ service-console (wanted_action r) n.0, n.0, n.1)

  pub design-by : DesignOnlyByTheFeed r i s t
  design-by differs = let n = by-named design_of moves_design either-design (λ stamp x. part-flags Bool design_of (λ c n x. refl) stamp (record x { shelved_until = None })) differs in (asked ∙ design-feed (wanted_action r) n.0, n.0, n.1)

  pub condition-by : ConditionOnlyByTheFeed r i s t
  condition-by differs = let n = by-named active_of sends_value either-active (λ stamp x. part-flags Bool active_of (λ c n x. refl) stamp (record x { shelved_until = None })) differs in (asked ∙ value-feed (wanted_action r) n.0, n.0, n.1)

  pub shelved-by : ShelvedOnlyByAConsole r i s t
  shelved-by none differs = elim moves [
    | inl h ↦ (let is = shelving-begins q.panel.now q.panel.next_stamp (wanted_action r) h.attr s (ap is_some none) (sym (ap (λ x. is_some x.shelved_until) h.left) ∙ some-there t.shelved_until differs) in (asked ∙ shelves-console (wanted_action r) is, is, h.named))
    | inr other ↦ elim other [
      | inl h ↦ absurd (none-some h.deadline (sym none ∙ h.shelved))
      | inr h ↦ absurd (differs (ap (λ x. x.shelved_until) h.same ∙ none))
    ]
  ]

-- ---- the clock and the attributes

put-keeps : (q : Condensed) (i : ℕ) (o : Outcome) → ((with_outcome in_brief q i o).panel.now ≡ q.panel.now) × ((with_outcome in_brief q i o).panel.attrs ≡ q.panel.attrs)
put-keeps q i (Changed s) = (refl, refl)
put-keeps q i (Annunciated s) = (refl, refl)
put-keeps q i (Shelved s) = (refl, refl)

touched-keeps : (q : Condensed) (i : ℕ) (f : Attr → State → Outcome) (a : Option Attr) (s : Option State) → ((with_touched_alarm in_brief q i f a s).panel.now ≡ q.panel.now) × ((with_touched_alarm in_brief q i f a s).panel.attrs ≡ q.panel.attrs)
touched-keeps q i f (Some a) (Some s) = put-keeps q i (f a s)
touched-keeps q i f (Some a) None = (refl, refl)
touched-keeps q i f None s = (refl, refl)

pub touch-keeps : (q : Condensed) (i : ℕ) (f : Attr → State → Outcome) → ((touch in_brief q i f).panel.now ≡ q.panel.now) × ((touch in_brief q i f).panel.attrs ≡ q.panel.attrs)
touch-keeps q i f = touched-keeps q i f (slice_get q.panel.attrs i) (slice_get q.panel.rows i)

fold-attrs : (list : List ℕ) (q : Condensed) → (fold (unshelve in_brief) q list).panel.attrs ≡ q.panel.attrs
fold-attrs [] q = refl
fold-attrs (j ∷ list) q = fold-attrs list (unshelve in_brief q j) ∙ (touch-keeps q j (λ a s. without_shelving q.panel.next_stamp s)).1

effect-now : (q : Condensed) (action : Action) → (asker_of action ≡ role.Clock) ⊎ ((with_effect in_brief q action).panel.now ≡ q.panel.now)
effect-now q (Clock t) = inl refl
effect-now q (Value i v) = inr (touch-keeps q i.0 (outcome q.panel.now q.panel.next_stamp (Value i v))).0
effect-now q (Ack i) = inr (touch-keeps q i.0 (outcome q.panel.now q.panel.next_stamp (Ack i))).0
effect-now q (Reset i) = inr (touch-keeps q i.0 (outcome q.panel.now q.panel.next_stamp (Reset i))).0
effect-now q (Shelve i n) = inr (touch-keeps q i.0 (outcome q.panel.now q.panel.next_stamp (Shelve i n))).0
effect-now q (Unshelve i) = inr (touch-keeps q i.0 (outcome q.panel.now q.panel.next_stamp (Unshelve i))).0
effect-now q (Oos i on) = inr (touch-keeps q i.0 (outcome q.panel.now q.panel.next_stamp (Oos i on))).0
effect-now q (Design i on) = inr (touch-keeps q i.0 (outcome q.panel.now q.panel.next_stamp (Design i on))).0
effect-now q (SetPriority i n) = inr refl
effect-now q (SetSetpoint i v) = inr refl

pub time-by : (q : Condensed) (r : Request) → accept q.panel r ≡ Ok (wanted_action r) → TimeOnlyByTheClock q r
time-by q r e differs = elim (effect-now (with_one_more q) (wanted_action r)) [
  | inl clock ↦ asked-by q.panel r e ∙ clock
  | inr same ↦ absurd (differs same)
]

set-attr : (q : Condensed) (k j : ℕ) (f : Attr → Attr) → (k ≡ j) ⊎ (slice_get (change q.panel.attrs k f) j ≡ slice_get q.panel.attrs j)
set-attr q k j f = elim (cases_eq k j) [ inl same ↦ inl same | inr d ↦ inr (change-off q.panel.attrs k j f d) ]

pub effect-attrs : (q : Condensed) (action : Action) (j : ℕ) → ((configures action ≡ true) × (alarm_of action ≡ j)) ⊎ (slice_get (with_effect in_brief q action).panel.attrs j ≡ slice_get q.panel.attrs j)
effect-attrs q (Clock t) j = inr (ap (λ l. slice_get l j) (fold-attrs (due t q.panel) (later in_brief t q)))
effect-attrs q (Value i v) j = inr (ap (λ l. slice_get l j) (touch-keeps q i.0 (outcome q.panel.now q.panel.next_stamp (Value i v))).1)
effect-attrs q (Ack i) j = inr (ap (λ l. slice_get l j) (touch-keeps q i.0 (outcome q.panel.now q.panel.next_stamp (Ack i))).1)
effect-attrs q (Reset i) j = inr (ap (λ l. slice_get l j) (touch-keeps q i.0 (outcome q.panel.now q.panel.next_stamp (Reset i))).1)
effect-attrs q (Shelve i n) j = inr (ap (λ l. slice_get l j) (touch-keeps q i.0 (outcome q.panel.now q.panel.next_stamp (Shelve i n))).1)
effect-attrs q (Unshelve i) j = inr (ap (λ l. slice_get l j) (touch-keeps q i.0 (outcome q.panel.now q.panel.next_stamp (Unshelve i))).1)
effect-attrs q (Oos i on) j = inr (ap (λ l. slice_get l j) (touch-keeps q i.0 (outcome q.panel.now q.panel.next_stamp (Oos i on))).1)
effect-attrs q (Design i on) j = inr (ap (λ l. slice_get l j) (touch-keeps q i.0 (outcome q.panel.now q.panel.next_stamp (Design i on))).1)
effect-attrs q (SetPriority i n) j = elim (set-attr q i.0 j (with_priority n)) [ inl same ↦ inl (refl, same) | inr e ↦ inr e ]
effect-attrs q (SetSetpoint i v) j = elim (set-attr q i.0 j (with_setpoint v)) [ inl same ↦ inl (refl, same) | inr e ↦ inr e ]

pub attributes-by : (q : Condensed) (r : Request) → accept q.panel r ≡ Ok (wanted_action r) → (i : ℕ) → AttributesOnlyByAConsole q r i
attributes-by q r e i differs = elim (effect-attrs (with_one_more q) (wanted_action r) i) [
  | inl is ↦ (asked-by q.panel r e ∙ configures-console (wanted_action r) is.0, is.0, is.1)
  | inr same ↦ absurd (differs same)
]
