-- What an accepted action makes of each alarm of a plant.
use Rattle.std.proofs.Common.{◌≡◌, ℕ, ◌+◌, ◌<◌, ◌≤◌, Bool, true, false, not, ◌&&◌, ◌||◌, List, Option, Some, None, is_some, IsTrue, refl, sym, ap, ◌∙◌, subst, arith, inl, inr, ◌⊎◌, true≢false}
use Rattle.std.specs.Prelude.{slice_get}
use Rattle.std.proofs.lemmas.Bool.{cases_Bool}
use Rattle.std.proofs.lemmas.Option.{none-some, same_Some}
use Rattle.alm_types.specs.declared.attr.Attr.{Attr}
use Rattle.alm_types.specs.declared.action.Action.{Action}
use Rattle.alm_types.specs.declared.action.Action.TheVariants.{Clock, Value, Ack, Reset, Shelve, Unshelve, Oos, Design, SetPriority, SetSetpoint}
use Rattle.alm_types.specs.declared.request.Request.{Request}
use Rattle.alm_types.specs.Wants.{wanted_action}
use Rattle.alm_types.specs.declared.role.Role.TheVariants as role
use Rattle.alm_types.specs.Actions.{alarm_of}
use Rattle.alm_state.specs.Rows.{State, IsState, is_suppressed, is_annunciated}
use Rattle.alm_state.specs.Suits.{suits, IsAhead}
use Rattle.alm_state.specs.Outcome.{outcome, row_refusal}
use Rattle.alm_state.specs.declared.outcome.Outcome.{Outcome}
use Rattle.alm_model.specs.Plant.{Condensed}
use Rattle.alm_model.specs.Accept.{own_refusal, alarm_refusal}
use Rattle.alm_model.specs.Step.{with_one_more, step, run}
use Rattle.alm_model.specs.Rules.{KeepsRules, AreAdmitted}
use Rattle.alm_model.proofs.Kept.{run-keeps}
use Rattle.alm_laws.specs.Alarm.{TakesAction, row_left, annunciates, is_unacknowledged, acknowledges, resets, shelves, suppresses}
use Rattle.alm_laws.specs.Left.{IsLeft, shelving_left, is_suppressed_left, is_annunciated_then, is_unacknowledged_left, is_active_left}
use Rattle.alm_laws.specs.Plant.{Names, Becomes, IsAlarmOf, asker_of}
use Rattle.alm_laws.specs.Moved.{LeftByItsAction, LeftByTheClock, EndsOnlyByReset, ShelvedAsAsked, FlaggedAsAsked, seconds_of}
use Rattle.alm_laws.proofs.AlarmLaws.{calm, not-both, under-shelving}
use Rattle.alm_laws.proofs.Asking.{shelved-by}
use Rattle.alm_laws.proofs.Left.{one-row}
use Rattle.alm_laws.proofs.Moving.{Moves, is_clock, alarm-at, step-moves, touch-here, own-first}
use Rattle.alm_laws.proofs.Plants.{accepted-parts, asked-by}

-- ---- the alarm that is named

names-alarm : (action : Action) (i : ℕ) → Names action i → (alarm_of action ≡ i) × (is_clock action ≡ false)
names-alarm (Clock t) i h = absurd h
names-alarm (Value j v) i h = (h, refl)
names-alarm (Ack j) i h = (h, refl)
names-alarm (Reset j) i h = (h, refl)
names-alarm (Shelve j n) i h = (h, refl)
names-alarm (Unshelve j) i h = (h, refl)
names-alarm (Oos j on) i h = (h, refl)
names-alarm (Design j on) i h = (h, refl)
names-alarm (SetPriority j n) i h = (h, refl)
names-alarm (SetSetpoint j v) i h = (h, refl)

-- the row that it has then
pub row-then : (q : Condensed) (action : Action) (a : Attr) (s t : State) → is_clock action ≡ false → slice_get q.panel.attrs (alarm_of action) ≡ Some a → slice_get q.panel.rows (alarm_of action) ≡ Some s
    → slice_get (step q action).panel.rows (alarm_of action) ≡ Some t → t ≡ row_left (outcome q.panel.now q.panel.next_stamp action a s)
row-then q (Clock m) a s t e has before after = absurd (true≢false e)
row-then q (Value j v) a s t e has before after = same_Some _ _ (sym after ∙ touch-here (with_one_more q) j.0 (outcome q.panel.now q.panel.next_stamp (Value j v)) a s has before)
row-then q (Ack j) a s t e has before after = same_Some _ _ (sym after ∙ touch-here (with_one_more q) j.0 (outcome q.panel.now q.panel.next_stamp (Ack j)) a s has before)
row-then q (Reset j) a s t e has before after = same_Some _ _ (sym after ∙ touch-here (with_one_more q) j.0 (outcome q.panel.now q.panel.next_stamp (Reset j)) a s has before)
row-then q (Shelve j n) a s t e has before after = same_Some _ _ (sym after ∙ touch-here (with_one_more q) j.0 (outcome q.panel.now q.panel.next_stamp (Shelve j n)) a s has before)
row-then q (Unshelve j) a s t e has before after = same_Some _ _ (sym after ∙ touch-here (with_one_more q) j.0 (outcome q.panel.now q.panel.next_stamp (Unshelve j)) a s has before)
row-then q (Oos j on) a s t e has before after = same_Some _ _ (sym after ∙ touch-here (with_one_more q) j.0 (outcome q.panel.now q.panel.next_stamp (Oos j on)) a s has before)
row-then q (Design j on) a s t e has before after = same_Some _ _ (sym after ∙ touch-here (with_one_more q) j.0 (outcome q.panel.now q.panel.next_stamp (Design j on)) a s has before)
row-then q (SetPriority j n) a s t e has before after = same_Some _ _ (sym after ∙ before)
row-then q (SetSetpoint j v) a s t e has before after = same_Some _ _ (sym after ∙ before)

pub admitted-by : (q : Condensed) (action : Action) (a : Attr) (s : State) → is_clock action ≡ false → own_refusal q.panel action ≡ None → slice_get q.panel.attrs (alarm_of action) ≡ Some a → slice_get q.panel.rows (alarm_of action) ≡ Some s
    → row_refusal action a s ≡ None
admitted-by q (Clock m) a s e free has before = absurd (true≢false e)
admitted-by q (Value j v) a s e free has before = sym (ap (λ o. alarm_refusal (Value j v) o (slice_get q.panel.rows j.0)) has ∙ ap (alarm_refusal (Value j v) (Some a)) before) ∙ free
admitted-by q (Ack j) a s e free has before = sym (ap (λ o. alarm_refusal (Ack j) o (slice_get q.panel.rows j.0)) has ∙ ap (alarm_refusal (Ack j) (Some a)) before) ∙ free
admitted-by q (Reset j) a s e free has before = sym (ap (λ o. alarm_refusal (Reset j) o (slice_get q.panel.rows j.0)) has ∙ ap (alarm_refusal (Reset j) (Some a)) before) ∙ free
admitted-by q (Shelve j n) a s e free has before = sym (ap (λ o. alarm_refusal (Shelve j n) o (slice_get q.panel.rows j.0)) has ∙ ap (alarm_refusal (Shelve j n) (Some a)) before) ∙ free
admitted-by q (Unshelve j) a s e free has before = sym (ap (λ o. alarm_refusal (Unshelve j) o (slice_get q.panel.rows j.0)) has ∙ ap (alarm_refusal (Unshelve j) (Some a)) before) ∙ free
admitted-by q (Oos j on) a s e free has before = sym (ap (λ o. alarm_refusal (Oos j on) o (slice_get q.panel.rows j.0)) has ∙ ap (alarm_refusal (Oos j on) (Some a)) before) ∙ free
admitted-by q (Design j on) a s e free has before = sym (ap (λ o. alarm_refusal (Design j on) o (slice_get q.panel.rows j.0)) has ∙ ap (alarm_refusal (Design j on) (Some a)) before) ∙ free
admitted-by q (SetPriority j n) a s e free has before = sym (ap (λ o. alarm_refusal (SetPriority j n) o (slice_get q.panel.rows j.0)) has ∙ ap (alarm_refusal (SetPriority j n) (Some a)) before) ∙ free
admitted-by q (SetSetpoint j v) a s e free has before = sym (ap (λ o. alarm_refusal (SetSetpoint j v) o (slice_get q.panel.rows j.0)) has ∙ ap (alarm_refusal (SetSetpoint j v) (Some a)) before) ∙ free

module _ (q : Condensed) (r : Request) (i : ℕ) (a : Attr) (s t : State) (b : Becomes q r i s t) (has : slice_get q.panel.attrs i ≡ Some a) where
  state : IsState s
  state = (alarm-at q i s b.rules b.before).keeps.state

  fits : IsTrue (suits a.latching s.core)
  fits = let at = alarm-at q i s b.rules b.before in subst (λ x. IsTrue (suits x.latching s.core)) (same_Some _ _ (sym at.has ∙ has)) at.keeps.suits

  pub by-action : LeftByItsAction q r i a s t
  by-action named =
      let n = names-alarm (wanted_action r) i named in
      let has_it : slice_get q.panel.attrs (alarm_of (wanted_action r)) ≡ Some a = ap (slice_get q.panel.attrs) n.0 ∙ has in
      let before : slice_get q.panel.rows (alarm_of (wanted_action r)) ≡ Some s = ap (slice_get q.panel.rows) n.0 ∙ b.before in
      let after : slice_get (step q (wanted_action r)).panel.rows (alarm_of (wanted_action r)) ≡ Some t = ap (slice_get (step q (wanted_action r)).panel.rows) n.0 ∙ b.after in
      let free : own_refusal q.panel (wanted_action r) ≡ None = own-first (own_refusal q.panel (wanted_action r)) _ (accepted-parts q.panel r b.accepted).1 in
      let takes : TakesAction (wanted_action r) a s = record { state = state; admitted = admitted-by q (wanted_action r) a s n.1 free has_it before } in
      (outcome q.panel.now q.panel.next_stamp (wanted_action r) a s, (one-row q.panel.now q.panel.next_stamp (wanted_action r) a s _ takes fits).1 refl, row-then q (wanted_action r) a s t n.1 has_it before after)

  some-shelving : (o : Option ℕ) (d : ℕ) → o ≡ Some d → is_some o ≡ true
  some-shelving (Some x) d e = refl
  some-shelving None d e = absurd (none-some _ e)

  pub by-clock : LeftByTheClock q r a s t
  by-clock deadline j shelved reached =
      let moves : Moves q (wanted_action r) i s t = step-moves q (wanted_action r) i s t b.rules (accepted-parts q.panel r b.accepted).1 b.before b.after in
      elim moves [
        | inl h ↦ absurd (true≢false (sym (ap is_clock reached.1) ∙ h.timeless))
        | inr other ↦ elim other [
          | inl h ↦
              let takes : TakesAction (Unshelve j) a s = record { state = state; admitted = rw (some-shelving s.shelved_until deadline shelved) refl } in
              (h.stamp, outcome q.panel.now h.stamp (Unshelve j) a s, h.new, (one-row q.panel.now h.stamp (Unshelve j) a s _ takes fits).1 refl, h.left)
          | inr h ↦ (let early = h.early reached.0 deadline reached.1 shelved in let late = reached.3 in absurd (omega (arith, early, late)))
        ]
      ]

  pub flagged-so : FlaggedAsAsked r i s t
  flagged-so named = let l = by-action named in (ap (λ x. x.by_design) l.2 ∙ l.1.design, ap (λ x. x.out_of_service) l.2 ∙ l.1.service)

-- ---- one alarm

-- what sets a flag where none is
none-set : (o : Option ℕ) (d e : Bool) → (is_some o || d || e) ≡ false → (is_some o ≡ false) × (d ≡ false) × (e ≡ false)
none-set None false false h = (refl, refl, refl)
none-set None false true h = absurd (true≢false h)
none-set None true e h = absurd (true≢false h)
none-set (Some n) d e h = absurd (true≢false h)

sets-flag : (now : ℕ) (action : Action) (s : State) → is_suppressed s ≡ false → is_suppressed_left now action s ≡ true → suppresses action ≡ true
sets-flag now (Shelve i n) s f e = refl
sets-flag now (Unshelve i) s f e = let n = none-set s.shelved_until s.by_design s.out_of_service f in absurd (true≢false (sym e ∙ rw (n.1, n.2) refl))
sets-flag now (Oos i on) s f e = let n = none-set s.shelved_until s.by_design s.out_of_service f in sym (rw (n.0, n.1) refl) ∙ e
sets-flag now (Design i on) s f e = let n = none-set s.shelved_until s.by_design s.out_of_service f in sym (rw (n.0, n.2) (or-none on)) ∙ e where
  or-none : (b : Bool) → (b || false) ≡ b
  or-none true = refl
  or-none false = refl
sets-flag now (Clock m) s f e = not-both (is_suppressed s) e f
sets-flag now (Value i v) s f e = not-both (is_suppressed s) e f
sets-flag now (Ack i) s f e = not-both (is_suppressed s) e f
sets-flag now (Reset i) s f e = not-both (is_suppressed s) e f
sets-flag now (SetPriority i n) s f e = not-both (is_suppressed s) e f
sets-flag now (SetSetpoint i v) s f e = not-both (is_suppressed s) e f

ends-how : (p w u l z r : Bool) → l ≡ true → z ≡ true → (p || w || not u && l && z && not r) ≡ false → (u ≡ true) ⊎ (r ≡ true)
ends-how p w true l z r e f h = inl refl
ends-how p w false l z true e f h = inr refl
ends-how true w false l z false e f h = absurd (true≢false h)
ends-how false true false l z false e f h = absurd (true≢false h)
ends-how false false false true true false e f h = absurd (true≢false h)
ends-how false false false false z false e f h = absurd (true≢false (sym e))
ends-how false false false true false false e f h = absurd (true≢false (sym f))

-- a latching alarm that asks for the operator goes on, but for RESET and a flag
latching-left : (now stamp : ℕ) (action : Action) (a : Attr) (s : State) (o : Outcome) → IsState s → IsLeft now stamp action a s o → a.latching ≡ true → is_annunciated s.core ≡ true → is_annunciated (row_left o).core ≡ false
    → (resets action ≡ true) ⊎ (suppresses action ≡ true)
latching-left now stamp action a s o state h latch loud quiet =
    elim (ends-how (is_active_left now action a s) (is_unacknowledged_left now action a s) (is_suppressed_left now action s) a.latching (is_annunciated s.core) (resets action) latch loud (sym h.asks ∙ quiet)) [
      | inr r ↦ inl r
      | inl u ↦ elim (cases_Bool (is_suppressed s)) [
        | inl is ↦ calm is_annunciated s state refl is loud
        | inr isnt ↦ inr (sets-flag now action s isnt u)
      ]
    ]

waits-how : (u z b c : Bool) → b ≡ false → (not u && (z || b && c)) ≡ true → z ≡ true
waits-how u true b c e h = refl
waits-how false false false c e h = absurd (true≢false (sym h))
waits-how false false true c e h = absurd (true≢false e)
waits-how true false b c e h = absurd (true≢false (sym h))

-- what is acknowledged is unacknowledged again only by an annunciation
pub anew-only : (now stamp : ℕ) (action : Action) (a : Attr) (s : State) → TakesAction action a s → IsTrue (suits a.latching s.core) → is_unacknowledged s.core ≡ false → is_unacknowledged (row_left (outcome now stamp action a s)).core ≡ true
    → annunciates (outcome now stamp action a s) ≡ true
anew-only now stamp action a s takes fits known waits =
    let h = (one-row now stamp action a s (outcome now stamp action a s) takes fits).1 refl in
    h.annunciated ∙ waits-how (is_suppressed_left now action s) (is_annunciated_then now action a s) (is_unacknowledged s.core) (not (acknowledges action)) known (sym h.waits ∙ waits)

-- ---- alarms of a plant

resets-console : (action : Action) (i : ℕ) → resets action ≡ true → alarm_of action ≡ i → (asker_of action ≡ role.Console) × Names action i
resets-console (Reset j) i e n = (refl, n)
resets-console action i e n = absurd (true≢false (sym e))

pub latching-ends : (q : Condensed) (r : Request) (i : ℕ) (a : Attr) (s t : State) → Becomes q r i s t → slice_get q.panel.attrs i ≡ Some a → a.latching ≡ true → EndsOnlyByReset r i s t
latching-ends q r i a s t b has latch loud quiet =
    let moves : Moves q (wanted_action r) i s t = step-moves q (wanted_action r) i s t b.rules (accepted-parts q.panel r b.accepted).1 b.before b.after in
    let at = alarm-at q i s b.rules b.before in
    elim moves [
      | inl h ↦
          let same : h.attr ≡ a = same_Some _ _ (sym h.has ∙ has) in
          let fit : IsTrue (suits h.attr.latching s.core) = subst (λ x. IsTrue (suits x.latching s.core)) (same_Some _ _ (sym at.has ∙ h.has)) at.keeps.suits in
          let left = (one-row q.panel.now q.panel.next_stamp (wanted_action r) h.attr s _ h.takes fit).1 refl in
          elim (latching-left q.panel.now q.panel.next_stamp (wanted_action r) h.attr s _ at.keeps.state left (ap (λ x. x.latching) same ∙ latch) loud (sym (ap (λ x. is_annunciated x.core) h.left) ∙ quiet)) [
            | inl reset ↦ inl (asked-by q.panel r b.accepted ∙ (resets-console (wanted_action r) i reset h.named).0, reset, h.named)
            | inr flag ↦ inr (flag, h.named)
          ]
      | inr other ↦ elim other [
        | inl h ↦ calm is_annunciated s at.keeps.state refl (under-shelving s (ap is_some h.shelved)) loud
        | inr h ↦ not-both (is_annunciated s.core) loud (sym (ap (λ x. is_annunciated x.core) h.same) ∙ quiet)
      ]
    ]

until-asked : (now : ℕ) (action : Action) (before : Option ℕ) (d : ℕ) → before ≡ None → shelving_left now action before ≡ Some d → d ≡ now + seconds_of action
until-asked now (Shelve i n) before d none e = sym (same_Some _ _ e)
until-asked now (Unshelve i) before d none e = absurd (none-some _ e)
until-asked now action before d none e = absurd (none-some _ (sym none ∙ e))

shelves-names : (action : Action) (i : ℕ) → shelves action ≡ true → alarm_of action ≡ i → Names action i
shelves-names (Shelve j n) i e h = h
shelves-names action i e h = absurd (true≢false (sym e))

pub shelved-so : (q : Condensed) (r : Request) (i : ℕ) (s t : State) → Becomes q r i s t → ShelvedAsAsked q r i s t
shelved-so q r i s t b none d e =
    let at = alarm-at q i s b.rules b.before in
    let by = shelved-by q r i s t b none (λ x. none-some _ (sym x ∙ e)) in
    let l = by-action q r i at.attr s t b at.has (shelves-names (wanted_action r) i by.1 by.2) in
    (by, until-asked q.panel.now (wanted_action r) s.shelved_until d none (sym (ap (λ x. x.shelved_until) l.2 ∙ l.1.shelving) ∙ e))

pub shelved-ahead : (q : Condensed) (i d : ℕ) (a : Attr) (s : State) → IsAlarmOf q i a s → s.shelved_until ≡ Some d → (q.panel.now < d) × (d ≤ q.panel.now + a.max_shelve)
shelved-ahead q i d a s h e =
    let at = alarm-at q i s h.rules h.row in
    subst (λ x. (q.panel.now < d) × (d ≤ q.panel.now + x.max_shelve)) (same_Some _ _ (sym at.has ∙ h.attr)) (subst (IsAhead q.panel.now at.attr.max_shelve) e at.keeps.deadline)

pub never-overdue : (q : Condensed) (actions : List Action) (i d : ℕ) (s : State) → KeepsRules q → AreAdmitted q actions → slice_get (run q actions).panel.rows i ≡ Some s → s.shelved_until ≡ Some d
    → (run q actions).panel.now < d
never-overdue q actions i d s h all has e =
    let at = alarm-at (run q actions) i s (run-keeps q actions h all) has in
    (subst (IsAhead (run q actions).panel.now at.attr.max_shelve) e at.keeps.deadline).0
