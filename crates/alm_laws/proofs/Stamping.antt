-- Stamps over a run, and the lists of suppressed alarms.
use Rattle.std.proofs.Common.{◌≡◌, ◌≢◌, ℕ, ◌+◌, ◌<◌, ◌≤◌, Bool, true, false, cond, List, [], ◌∷◌, length, Option, Some, None, refl, sym, ap, ◌∙◌, arith, inl, inr, ◌⊎◌, subst, is_some, true≢false}
use Rattle.std.specs.Prelude.{slice_get, fold, IsTrue, Contains}
use Rattle.std.proofs.lemmas.Option.{none-some, same_Some, slice_get_within}
use Rattle.alm_types.specs.declared.attr.Attr.{Attr}
use Rattle.alm_types.specs.declared.action.Action.{Action}
use Rattle.alm_types.specs.declared.action.Action.TheVariants.{Clock, Value, Ack, Reset, Shelve, Unshelve, Oos, Design, SetPriority, SetSetpoint}
use Rattle.alm_types.specs.declared.refusal.Refusal.{Refusal}
use Rattle.alm_state.specs.Rows.{State, is_suppressed, is_annunciated}
use Rattle.alm_state.specs.Table.{next_core}
use Rattle.alm_state.specs.Detection.{detection_of}
use Rattle.alm_state.specs.Outcome.{outcome, without_shelving, after_transition, after_flags, after_condition, or_else}
use Rattle.alm_state.specs.declared.core_state.Core.{Core}
use Rattle.alm_state.specs.declared.core_state.Core.TheVariants.{Normal, Unack, Acked, RtnUnack, LatchUnack, LatchAcked}
use Rattle.alm_state.specs.declared.happening.Happening.TheVariants as happening
use Rattle.alm_state.specs.declared.outcome.Outcome.{Outcome}
use Rattle.alm_state.specs.declared.outcome.Outcome.TheVariants.{Changed, Annunciated, Shelved}
use Rattle.alm_state.specs.Suits.{suits}
use Rattle.alm_state.proofs.OutcomeLaws.{outcome-good, unshelved-good}
use Rattle.alm_laws.specs.Alarm.{row_left, shelves}
use Rattle.alm_model.specs.Plant.{Panel, RecordedPlant, Condensed}
use Rattle.alm_model.specs.Accept.{refusal, own_refusal, alarm_refusal}
use Rattle.alm_model.specs.Keeping.{in_full}
use Rattle.alm_model.specs.Lists.{due, key_of, stamp, stands_in, passes, list_of, stamp_of}
use Rattle.alm_model.specs.declared.list.List.TheVariants.{Priority}
use Rattle.alm_model.specs.Counted.{run_whole}
use Rattle.alm_model.specs.Step.{with_outcome, with_touched_alarm, touch, unshelve, later, with_effect, with_one_more, step, run, after}
use Rattle.alm_model.specs.Rules.{KeepsRules, AreAdmitted}
use Rattle.alm_model.proofs.Kept.{there, step-keeps, run-keeps}
use Rattle.alm_model.proofs.Listed.{listed-members}
use Rattle.alm_model.proofs.Runs.{run_sizes}
use Rattle.alm_laws.specs.Plant.{StampsAreNew, StampsAreOfOneAlarm, AreTaken, StampsAreCounted}
use Rattle.alm_laws.proofs.Moving.{Moves, alarm-at, step-moves, step-stamp}
use Rattle.alm_laws.proofs.Plants.{outcome-stamps}

-- ---- one step

stamps-moved : (q : Condensed) (action : Action) (i : ℕ) (s t : State) → KeepsRules q → slice_get q.panel.rows i ≡ Some s → Moves q action i s t
    → (t.stamp ≡ s.stamp) ⊎ (t.stamp ≡ 0) ⊎ (q.panel.next_stamp ≤ t.stamp)
stamps-moved q action i s t h before (inl m) =
    let at = alarm-at q i s h before in
    let same : at.attr ≡ m.attr = same_Some _ _ (sym at.has ∙ m.has) in
    let good = outcome-good m.attr q.panel.now q.panel.next_stamp action s (let f = h.first_stamp in omega arith) at.keeps.state (subst (λ a. IsTrue (suits a.latching s.core)) same at.keeps.suits) m.takes.admitted in
    let left : t.stamp ≡ (row_left (outcome q.panel.now q.panel.next_stamp action m.attr s)).stamp = ap (λ x. x.stamp) m.left in
    elim (outcome-stamps m.attr q.panel.now q.panel.next_stamp s _ good) [
      | inl e ↦ inl (left ∙ e)
      | inr other ↦ elim other [ inl e ↦ inr (inl (left ∙ e)) | inr e ↦ inr (inr (omega (arith, left, e))) ]
    ]
stamps-moved q action i s t h before (inr (inl m)) =
    let at = alarm-at q i s h before in
    let good = unshelved-good at.attr q.panel.now m.stamp s (let f = h.first_stamp in let n = m.new in omega arith) at.keeps.state in
    let left : t.stamp ≡ (row_left (without_shelving m.stamp s)).stamp = ap (λ x. x.stamp) m.left in
    elim (outcome-stamps at.attr q.panel.now m.stamp s _ good) [
      | inl e ↦ inl (left ∙ e)
      | inr other ↦ elim other [ inl e ↦ inr (inl (left ∙ e)) | inr e ↦ inr (inr (let n = m.new in omega (arith, left, e, n))) ]
    ]
stamps-moved q action i s t h before (inr (inr m)) = inl (ap (λ x. x.stamp) m.same)

there-before : (q : Condensed) (action : Action) (i : ℕ) (t : State) → KeepsRules q → slice_get (step q action).panel.rows i ≡ Some t → (s : State) × (slice_get q.panel.rows i ≡ Some s)
there-before q action i t h e =
    let size : length (step q action).panel.rows ≡ length q.panel.rows = (run_sizes q (action ∷ []) h.measured).0 in
    let within = slice_get_within (step q action).panel.rows i t e in
    there q.panel.rows i (omega (arith, size, within))

step-new : (q : Condensed) (action : Action) → KeepsRules q → refusal q.panel action ≡ None → StampsAreNew q.panel (step q action).panel
step-new q action h free i = go (slice_get (step q action).panel.rows i) refl where
  go : (o : Option State) → slice_get (step q action).panel.rows i ≡ o → (stamp_of (step q action).panel i ≡ stamp_of q.panel i) ⊎ (stamp_of (step q action).panel i ≡ 0) ⊎ (q.panel.next_stamp ≤ stamp_of (step q action).panel i)
  go None e = inr (inl (ap (key_of stamp) e))
  go (Some t) e =
      let s = there-before q action i t h e in
      let now : stamp_of (step q action).panel i ≡ t.stamp = ap (key_of stamp) e in
      let was : stamp_of q.panel i ≡ s.0.stamp = ap (key_of stamp) s.1 in
      elim (stamps-moved q action i s.0 t h s.1 (step-moves q action i s.0 t h free s.1 e)) [
        | inl same ↦ inl (now ∙ same ∙ sym was)
        | inr other ↦ elim other [ inl none ↦ inr (inl (now ∙ none)) | inr new ↦ inr (inr (omega (arith, now, new))) ]
      ]

-- ---- a run

run-stamp : (q : Condensed) (actions : List Action) → q.panel.next_stamp ≤ (run q actions).panel.next_stamp
run-stamp q [] = omega arith
run-stamp q (a ∷ actions) = omega (arith, step-stamp q a, run-stamp (step q a) actions)

then-new : (p q r : Panel) → p.next_stamp ≤ q.next_stamp → StampsAreNew p q → StampsAreNew q r → StampsAreNew p r
then-new p q r le first second i = elim (second i) [
  | inl same ↦ elim (first i) [
    | inl e ↦ inl (same ∙ e)
    | inr other ↦ elim other [ inl e ↦ inr (inl (same ∙ e)) | inr l ↦ inr (inr (omega (arith, same, l))) ]
  ]
  | inr other ↦ elim other [ inl e ↦ inr (inl e) | inr l ↦ inr (inr (omega (arith, le, l))) ]
]

pub run-new : (q : Condensed) (actions : List Action) → KeepsRules q → AreAdmitted q actions → StampsAreNew q.panel (run q actions).panel
run-new q [] h all i = inl refl
run-new q (a ∷ actions) h all i = then-new q.panel (step q a).panel (run (step q a) actions).panel (step-stamp q a) (step-new q a h all.1) (run-new (step q a) actions (step-keeps q a h all.0 all.1) all.2) i

-- every stamp is below the next one
below-next : (q : Condensed) (i : ℕ) → KeepsRules q → stamp_of q.panel i < q.panel.next_stamp
below-next q i h = go (slice_get q.panel.rows i) refl where
  go : (o : Option State) → slice_get q.panel.rows i ≡ o → stamp_of q.panel i < q.panel.next_stamp
  go None e = (let none : stamp_of q.panel i ≡ 0 = ap (key_of stamp) e in let f = h.first_stamp in omega (arith, none, f))
  go (Some s) e = (let same : stamp_of q.panel i ≡ s.stamp = ap (key_of stamp) e in let l = (alarm-at q i s h e).keeps.stamp in omega (arith, same, l))

pub run-one : (q : Condensed) (actions : List Action) → KeepsRules q → AreAdmitted q actions → StampsAreOfOneAlarm q.panel (run q actions).panel
run-one q actions h all i j some same = elim (run-new q actions h all j) [
  | inl e ↦ h.distinct i j some (same ∙ e)
  | inr other ↦ elim other [
    | inl none ↦ absurd (omega (arith, some, same, none))
    | inr new ↦ absurd (omega (arith, same, new, below-next q i h))
  ]
]

-- a stamp that an alarm has lost is never given again
pub run-never : (q : Condensed) (first more : List Action) → KeepsRules q → AreAdmitted q first → AreAdmitted (run q first) more → (i j : ℕ) → 0 < stamp_of q.panel i
    → stamp_of (run q first).panel i ≢ stamp_of q.panel i → stamp_of (run (run q first) more).panel j ≢ stamp_of q.panel i
run-never q first more h all then i j some lost back =
    let one : i ≡ j = elim (run-new (run q first) more (run-keeps q first h all) then j) [
      | inl e ↦ run-one q first h all i j some (sym back ∙ e)
      | inr other ↦ elim other [
        | inl none ↦ absurd (omega (arith, some, back, none))
        | inr new ↦ absurd (omega (arith, back, new, run-stamp q first, below-next q i h))
      ]
    ] in
    elim (run-new (run q first) more (run-keeps q first h all) then j) [
      | inl e ↦ lost (ap (stamp_of (run q first).panel) one ∙ sym e ∙ back)
      | inr other ↦ elim other [
        | inl none ↦ omega (arith, some, back, none)
        | inr new ↦ omega (arith, back, new, run-stamp q first, below-next q i h)
      ]
    ]

-- ---- how many stamps are given

abbrev shelved : Outcome → ℕ
shelved (Changed s) = 0
shelved (Annunciated s) = 0
shelved (Shelved s) = 1

abbrev Counts : RecordedPlant → RecordedPlant → ℕ → Type 0
Counts p q n = q.panel.next_stamp + length p.kept ≡ p.panel.next_stamp + length q.kept + n

put-counts : (q : RecordedPlant) (i : ℕ) (o : Outcome) → Counts q (with_outcome in_full q i o) (shelved o)
put-counts q i (Changed s) = omega arith
put-counts q i (Annunciated s) = omega arith
put-counts q i (Shelved s) = omega arith

led-never : (n : ℕ) (o : Option Core) (t : State) → shelved (after_transition n o t) ≡ 0
led-never n None t = refl
led-never n (Some Normal) t = refl
led-never n (Some Unack) t = refl
led-never n (Some Acked) t = refl
led-never n (Some RtnUnack) t = refl
led-never n (Some LatchUnack) t = refl
led-never n (Some LatchAcked) t = refl

flags-never-cases : (n : ℕ) (t : State) (v y : Bool)
    → shelved (cond v (Changed (record t { core = Normal; stamp = cond (is_some t.shelved_until) t.stamp 0 })) (cond y (Annunciated (record t { core = Unack; stamp = n })) (Changed (record t { core = Normal; stamp = 0 })))) ≡ 0
flags-never-cases n t true y = refl
flags-never-cases n t false true = refl
flags-never-cases n t false false = refl

flags-never : (n : ℕ) (t : State) → shelved (after_flags n t) ≡ 0
flags-never n t = flags-never-cases n t (is_suppressed t) t.active

value-never-cases : (n : ℕ) (a : Attr) (s : State) (active u : Bool)
    → shelved (cond u (Changed (record s { active = active })) (after_transition n (next_core a.latching (cond active happening.Comes happening.Goes) s.core) (record s { active = active }))) ≡ 0
value-never-cases n a s active true = refl
value-never-cases n a s active false = led-never n (next_core a.latching (cond active happening.Comes happening.Goes) s.core) (record s { active = active })

value-never : (n : ℕ) (a : Attr) (s : State) (o : Option Bool) → shelved (after_condition n a s o) ≡ 0
value-never n a s None = refl
value-never n a s (Some active) = value-never-cases n a s active (is_suppressed s)

-- of an alarm that exists, or of an action that shelves none
touched-counts : (q : RecordedPlant) (i n : ℕ) (f : Attr → State → Outcome) (oa : Option Attr) (os : Option State) → ((a : Attr) (s : State) → shelved (f a s) ≡ n)
    → (n ≡ 0) ⊎ ((is_some oa ≡ true) × (is_some os ≡ true)) → Counts q (with_touched_alarm in_full q i f oa os) n
touched-counts q i n f (Some a) (Some s) each there = omega (arith, put-counts q i (f a s), each a s)
touched-counts q i n f (Some a) None each (inl none) = omega (arith, none)
touched-counts q i n f (Some a) None each (inr h) = absurd (true≢false (sym h.1))
touched-counts q i n f None os each (inl none) = omega (arith, none)
touched-counts q i n f None os each (inr h) = absurd (true≢false (sym h.0))

touch-counts : (q : RecordedPlant) (i n : ℕ) (f : Attr → State → Outcome) → ((a : Attr) (s : State) → shelved (f a s) ≡ n)
    → (n ≡ 0) ⊎ ((is_some (slice_get q.panel.attrs i) ≡ true) × (is_some (slice_get q.panel.rows i) ≡ true)) → Counts q (touch in_full q i f) n
touch-counts q i n f each there = touched-counts q i n f (slice_get q.panel.attrs i) (slice_get q.panel.rows i) each there

fold-counts : (list : List ℕ) (q : RecordedPlant) → Counts q (fold (unshelve in_full) q list) 0
fold-counts [] q = omega arith
fold-counts (j ∷ list) q =
    omega (arith, fold-counts list (unshelve in_full q j), touch-counts q j 0 (λ a s. without_shelving q.panel.next_stamp s) (λ a s. flags-never q.panel.next_stamp (record s { shelved_until = None })) (inl refl))

-- a shelving that is admitted is of an existing alarm
there-alarm : (action : Action) (oa : Option Attr) (os : Option State) → alarm_refusal action oa os ≡ None → (is_some oa ≡ true) × (is_some os ≡ true)
there-alarm action (Some a) (Some s) e = (refl, refl)
there-alarm action (Some a) None e = absurd (none-some _ (sym e))
there-alarm action None os e = absurd (none-some _ (sym e))

own-first : (own last : Option Refusal) → or_else own last ≡ None → own ≡ None
own-first None last h = refl
own-first (Some r) last h = absurd (none-some _ (sym h))

abbrev one_if : Bool → ℕ
one_if b = cond b 1 0

effect-counts : (q : RecordedPlant) (action : Action) → own_refusal q.panel action ≡ None → Counts q (with_effect in_full q action) (one_if (shelves action))
effect-counts q (Clock t) free = omega (arith, fold-counts (due t q.panel) (later in_full t q))
effect-counts q (Value i v) free = touch-counts q i.0 0 (outcome q.panel.now q.panel.next_stamp (Value i v)) (λ a s. value-never q.panel.next_stamp a s (detection_of a s.active v)) (inl refl)
effect-counts q (Ack i) free = touch-counts q i.0 0 (outcome q.panel.now q.panel.next_stamp (Ack i)) (λ a s. led-never q.panel.next_stamp (next_core a.latching happening.Ack s.core) s) (inl refl)
effect-counts q (Reset i) free = touch-counts q i.0 0 (outcome q.panel.now q.panel.next_stamp (Reset i)) (λ a s. led-never q.panel.next_stamp (next_core a.latching happening.Reset s.core) s) (inl refl)
effect-counts q (Shelve i n) free = touch-counts q i.0 1 (outcome q.panel.now q.panel.next_stamp (Shelve i n)) (λ a s. refl) (inr (there-alarm (Shelve i n) (slice_get q.panel.attrs i.0) (slice_get q.panel.rows i.0) free))
effect-counts q (Unshelve i) free = touch-counts q i.0 0 (outcome q.panel.now q.panel.next_stamp (Unshelve i)) (λ a s. flags-never q.panel.next_stamp (record s { shelved_until = None })) (inl refl)
effect-counts q (Oos i on) free = touch-counts q i.0 0 (outcome q.panel.now q.panel.next_stamp (Oos i on)) (λ a s. flags-never q.panel.next_stamp (record s { out_of_service = on })) (inl refl)
effect-counts q (Design i on) free = touch-counts q i.0 0 (outcome q.panel.now q.panel.next_stamp (Design i on)) (λ a s. flags-never q.panel.next_stamp (record s { by_design = on })) (inl refl)
effect-counts q (SetPriority i n) free = omega arith
effect-counts q (SetSetpoint i v) free = omega arith

own-more : (q : RecordedPlant) (action : Action) → own_refusal q.panel action ≡ None → own_refusal (with_one_more q).panel action ≡ None
own-more q (Clock t) e = e
own-more q (Value i v) e = e
own-more q (Ack i) e = e
own-more q (Reset i) e = e
own-more q (Shelve i n) e = e
own-more q (Unshelve i) e = e
own-more q (Oos i on) e = e
own-more q (Design i on) e = e
own-more q (SetPriority i n) e = e
own-more q (SetSetpoint i v) e = e

step-counts : (q : RecordedPlant) (action : Action) → refusal q.panel action ≡ None → Counts q (after q action) (one_if (shelves action))
step-counts q action free = effect-counts (with_one_more q) action (own-more q action (own-first (own_refusal q.panel action) _ free))

pub run-counts : (p : RecordedPlant) (actions : List Action) → AreTaken p actions → StampsAreCounted p actions (run_whole p actions)
run-counts p [] all = omega arith
run-counts p (a ∷ actions) all = omega (arith, step-counts p a all.0, run-counts (after p a) actions all.1)

-- ---- the lists of suppressed alarms

quiet-none : (n : ℕ) (oa : Option Attr) (s : State) → is_annunciated s.core ≡ false → passes (stands_in (Priority n)) oa (Some s) ≡ false
quiet-none n None s e = refl
quiet-none n (Some a) s e = rw e refl

pub suppressed-listed : (q : Condensed) (i n : ℕ) (s : State) → KeepsRules q → slice_get q.panel.rows i ≡ Some s → is_suppressed s ≡ true → (s.core ≡ Normal) × (Contains (list_of (Priority n) q) i → ⊥)
suppressed-listed q i n s h e under =
    let core : s.core ≡ Normal = (alarm-at q i s h e).keeps.state.suppressed under in
    (core, λ has. true≢false (sym ((listed-members stamp (stands_in (Priority n)) q.panel.attrs q.panel.rows i).0 has) ∙ ap (passes (stands_in (Priority n)) (slice_get q.panel.attrs i)) e ∙ quiet-none n (slice_get q.panel.attrs i) s (ap is_annunciated core)))
