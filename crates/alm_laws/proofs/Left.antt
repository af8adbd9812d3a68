-- The row that an action leaves is the one that its laws describe, and no other.
use Rattle.std.proofs.Common.{◌≡◌, ℕ, ℤ, ◌<◌, Bool, true, false, not, ◌&&◌, ◌||◌, cond, is_some, IsTrue, Option, Some, None, zero, suc, inl, inr, refl, sym, ap, ◌∙◌, subst, arith, true≢false}
use Rattle.std.specs.Prelude.{◌↔◌, int_le, int_lt, pos, ◌-ℤ◌, ◌+ℤ◌}
use Rattle.std.specs.Ordering.{int_eq}
use Rattle.std.proofs.lemmas.Int.{ints}
use Rattle.std.proofs.lemmas.Bool.{cases_Bool}
use Rattle.std.proofs.lemmas.Option.{none-some}
use Rattle.alm_types.specs.declared.attr.Attr.{Attr}
use Rattle.alm_types.specs.declared.kind.Kind.{Kind}
use Rattle.alm_types.specs.declared.kind.Kind.TheVariants.{High, Low, Discrete}
use Rattle.alm_types.specs.declared.action.Action.{Action}
use Rattle.alm_types.specs.declared.action.Action.TheVariants.{Clock, Value, Ack, Reset, Shelve, Unshelve, Oos, Design, SetPriority, SetSetpoint}
use Rattle.alm_types.specs.declared.refusal.Refusal.TheVariants.{NoChange, NotUnacknowledged, NotResettable, NotShelved}
use Rattle.alm_state.specs.Rows.{State, IsState, is_suppressed, is_annunciated, is_active_core}
use Rattle.alm_state.specs.Suits.{suits}
use Rattle.alm_state.specs.Table.{next_core}
use Rattle.alm_state.specs.Detection.{detection_of, comes, goes}
use Rattle.alm_state.specs.Outcome.{outcome, after_flags, after_condition, after_transition, flag_refusal}
use Rattle.alm_state.specs.declared.core_state.Core.{Core}
use Rattle.alm_state.specs.declared.core_state.Core.TheVariants.{Normal, Unack, Acked, RtnUnack, LatchUnack, LatchAcked}
use Rattle.alm_state.specs.declared.happening.Happening.TheVariants as happening
use Rattle.alm_state.specs.declared.outcome.Outcome.{Outcome}
use Rattle.alm_state.specs.declared.outcome.Outcome.TheVariants.{Changed, Annunciated, Shelved}
use Rattle.alm_laws.specs.Alarm.{TakesAction, row_left, annunciates, is_unacknowledged, resets, shelves}
use Rattle.alm_laws.specs.Left.{is_beyond, is_back, condition_left, shelving_left, design_left, service_left, is_suppressed_left, is_annunciated_then, is_unacknowledged_left, is_active_left, asks_left, stamp_left, is_shelved_then, IsLeft}
use Rattle.alm_laws.proofs.AlarmLaws.{unless-none}

-- ---- the row that the laws describe

-- the core state, by whether it latches, asks, is unacknowledged, and holds
abbrev core_by : Bool → Bool → Bool → Bool → Core
core_by l false waits holds = Normal
core_by l true true true = Unack
core_by l true false true = Acked
core_by true true true false = LatchUnack
core_by false true true false = RtnUnack
core_by l true false false = LatchAcked

abbrev outcome_by : Bool → Bool → State → Outcome
outcome_by true shelves t = Annunciated t
outcome_by false true t = Shelved t
outcome_by false false t = Changed t

abbrev row_by : Bool → Bool → Bool → Bool → ℕ → Bool → Option ℕ → Bool → Bool → State
row_by l asks waits holds stamp x sh d e = record { active = x; core = core_by l asks waits holds; shelved_until = sh; by_design = d; out_of_service = e; stamp = stamp }

abbrev described : ℕ → ℕ → Action → Attr → State → Outcome
described now stamp action a s =
    outcome_by (is_annunciated_then now action a s) (shelves action)
    (row_by a.latching (asks_left now action a s) (is_unacknowledged_left now action a s) (is_active_left now action a s) (stamp_left now stamp action a s)
    (condition_left action a s.active) (shelving_left now action s.shelved_until) (design_left action s.by_design) (service_left action s.out_of_service))

core-by-is : (l : Bool) (c : Core) → suits l c ≡ true → core_by l (is_annunciated c) (is_unacknowledged c) (is_active_core c) ≡ c
core-by-is true Normal e = refl
core-by-is false Normal e = refl
core-by-is true Unack e = refl
core-by-is false Unack e = refl
core-by-is true Acked e = refl
core-by-is false Acked e = refl
core-by-is true RtnUnack e = absurd (true≢false (sym e))
core-by-is false RtnUnack e = refl
core-by-is true LatchUnack e = refl
core-by-is false LatchUnack e = absurd (true≢false (sym e))
core-by-is true LatchAcked e = refl
core-by-is false LatchAcked e = absurd (true≢false (sym e))

outcome-by-is : (o : Outcome) → outcome_by (annunciates o) (is_shelved_then o) (row_left o) ≡ o
outcome-by-is (Changed t) = refl
outcome-by-is (Annunciated t) = refl
outcome-by-is (Shelved t) = refl

row-by-is : (l : Bool) (t : State) → suits l t.core ≡ true
    → row_by l (is_annunciated t.core) (is_unacknowledged t.core) (is_active_core t.core) t.stamp t.active t.shelved_until t.by_design t.out_of_service ≡ t
row-by-is l t e = ap (λ c. record t { core = c }) (core-by-is l t.core e)

same-parts : (l : Bool) (z1 z2 y1 y2 k1 k2 w1 w2 h1 h2 x1 x2 d1 d2 e1 e2 : Bool) (n1 n2 : ℕ) (sh1 sh2 : Option ℕ)
    → z1 ≡ z2 → y1 ≡ y2 → k1 ≡ k2 → w1 ≡ w2 → h1 ≡ h2 → n1 ≡ n2 → x1 ≡ x2 → sh1 ≡ sh2 → d1 ≡ d2 → e1 ≡ e2
    → outcome_by z1 y1 (row_by l k1 w1 h1 n1 x1 sh1 d1 e1) ≡ outcome_by z2 y2 (row_by l k2 w2 h2 n2 x2 sh2 d2 e2)
same-parts l z1 z2 y1 y2 k1 k2 w1 w2 h1 h2 x1 x2 d1 d2 e1 e2 n1 n2 sh1 sh2 z y k w h n x sh d e = rw (z, y, k, w, h, n, x, sh, d, e) refl

-- no other outcome meets them
pub left-only : (now stamp : ℕ) (action : Action) (a : Attr) (s : State) (o : Outcome) → IsLeft now stamp action a s o → o ≡ described now stamp action a s
left-only now stamp action a s o h =
    sym (outcome-by-is o) ∙ ap (outcome_by (annunciates o) (is_shelved_then o)) (sym (row-by-is a.latching (row_left o) h.suits))
    ∙ same-parts a.latching _ _ _ _ _ _ _ _ _ _ _ _ _ _ _ _ _ _ _ _ h.annunciated h.shelved h.asks h.waits h.holds h.stamp h.condition h.shelving h.design h.service

-- ---- what they describe meets them

-- the three questions have the answers that were asked for
core-answers : (l h w k : Bool) → (k ≡ true → l ≡ true)
    → (suits l (core_by l (h || w || k) w h) ≡ true) × (is_active_core (core_by l (h || w || k) w h) ≡ h) × (is_unacknowledged (core_by l (h || w || k) w h) ≡ w) × (is_annunciated (core_by l (h || w || k) w h) ≡ (h || w || k))
core-answers true true true k f = (refl, refl, refl, refl)
core-answers false true true k f = (refl, refl, refl, refl)
core-answers true true false k f = (refl, refl, refl, refl)
core-answers false true false k f = (refl, refl, refl, refl)
core-answers true false true k f = (refl, refl, refl, refl)
core-answers false false true k f = (refl, refl, refl, refl)
core-answers true false false true f = (refl, refl, refl, refl)
core-answers false false false true f = absurd (true≢false (sym (f refl)))
core-answers true false false false f = (refl, refl, refl, refl)
core-answers false false false false f = (refl, refl, refl, refl)

latches-by : (u l z r : Bool) → (not u && l && z && r) ≡ true → l ≡ true
latches-by false true z r e = refl
latches-by true l z r e = absurd (true≢false (sym e))
latches-by false false z r e = absurd (true≢false (sym e))

described-row : (z y : Bool) (t : State) → row_left (outcome_by z y t) ≡ t
described-row true y t = refl
described-row false true t = refl
described-row false false t = refl

described-loud : (z y : Bool) (t : State) → annunciates (outcome_by z y t) ≡ z
described-loud true y t = refl
described-loud false true t = refl
described-loud false false t = refl

-- a shelving annunciates nothing
shelves-quiet : (now : ℕ) (action : Action) (a : Attr) (s : State) → shelves action ≡ true → is_annunciated_then now action a s ≡ false
shelves-quiet now (Shelve i n) a s e = refl
shelves-quiet now action a s e = absurd (true≢false (sym e))

described-shelved : (z y : Bool) (t : State) → (y ≡ true → z ≡ false) → is_shelved_then (outcome_by z y t) ≡ y
described-shelved true true t f = absurd (true≢false (f refl))
described-shelved true false t f = refl
described-shelved false true t f = refl
described-shelved false false t f = refl

pub left-so : (now stamp : ℕ) (action : Action) (a : Attr) (s : State) → IsLeft now stamp action a s (described now stamp action a s)
left-so now stamp action a s =
    let t : State = row_by a.latching (asks_left now action a s) (is_unacknowledged_left now action a s) (is_active_left now action a s) (stamp_left now stamp action a s)
    (condition_left action a s.active) (shelving_left now action s.shelved_until) (design_left action s.by_design) (service_left action s.out_of_service) in
    let row : row_left (described now stamp action a s) ≡ t = described-row (is_annunciated_then now action a s) (shelves action) t in
    let core = core-answers a.latching (is_active_left now action a s) (is_unacknowledged_left now action a s) (not (is_suppressed_left now action s) && a.latching && is_annunciated s.core && not (resets action)) (latches-by (is_suppressed_left now action s) a.latching (is_annunciated s.core) (not (resets action))) in
    record {
      condition = ap (λ x. x.active) row;
      shelving = ap (λ x. x.shelved_until) row;
      design = ap (λ x. x.by_design) row;
      service = ap (λ x. x.out_of_service) row;
      suits = ap (λ x. suits a.latching x.core) row ∙ core.0;
      holds = ap (λ x. is_active_core x.core) row ∙ core.1;
      waits = ap (λ x. is_unacknowledged x.core) row ∙ core.2;
      asks = ap (λ x. is_annunciated x.core) row ∙ core.3;
      stamp = ap (λ x. x.stamp) row;
      annunciated = described-loud (is_annunciated_then now action a s) (shelves action) t;
      shelved = described-shelved (is_annunciated_then now action a s) (shelves action) t (shelves-quiet now action a s);
    }

-- ---- an action leaves what they describe

abbrev free : Core → ℕ → State
free c n = record { active = is_active_core c; core = c; shelved_until = None; by_design = false; out_of_service = false; stamp = n }

abbrev under : Bool → Option ℕ → Bool → Bool → ℕ → State
under x sh d e n = record { active = x; core = Normal; shelved_until = sh; by_design = d; out_of_service = e; stamp = n }

-- what is described of an action that acknowledges, resets or shelves, and of what it leaves of condition and flags
abbrev with : ℕ → Bool → State → Bool → Bool → Bool → Bool → Option ℕ → Bool → Bool → Outcome
with stamp l s acks resetting shelving x sh d e =
    let u : Bool = is_some sh || d || e in
    let z : Bool = not u && x && (is_suppressed s || not s.active) in
    let w : Bool = not u && (z || is_unacknowledged s.core && not acks) in
    let h : Bool = not u && x in
    let k : Bool = h || w || not u && l && is_annunciated s.core && not resetting in
    outcome_by z shelving (row_by l k w h (cond (z || shelving) stamp (cond (k || is_some sh) s.stamp 0)) x sh d e)

-- without a flag
free-kept : (stamp n : ℕ) (l : Bool) (c : Core) → suits l c ≡ true → (c ≡ Normal → n ≡ 0) → Changed (free c n) ≡ with stamp l (free c n) false false false (is_active_core c) None false false
free-kept stamp n true Normal e f = ap (λ m. Changed (free Normal m)) (f refl)
free-kept stamp n false Normal e f = ap (λ m. Changed (free Normal m)) (f refl)
free-kept stamp n true Unack e f = refl
free-kept stamp n false Unack e f = refl
free-kept stamp n true Acked e f = refl
free-kept stamp n false Acked e f = refl
free-kept stamp n true RtnUnack e f = absurd (true≢false (sym e))
free-kept stamp n false RtnUnack e f = refl
free-kept stamp n true LatchUnack e f = refl
free-kept stamp n false LatchUnack e f = absurd (true≢false (sym e))
free-kept stamp n true LatchAcked e f = refl
free-kept stamp n false LatchAcked e f = absurd (true≢false (sym e))

free-moved : (stamp n : ℕ) (l : Bool) (c : Core) → suits l c ≡ true
    → after_transition stamp (next_core l (cond (not (is_active_core c)) happening.Comes happening.Goes) c) (record (free c n) { active = not (is_active_core c) })
    ≡ with stamp l (free c n) false false false (not (is_active_core c)) None false false
free-moved stamp n true Normal e = refl
free-moved stamp n false Normal e = refl
free-moved stamp n true Unack e = refl
free-moved stamp n false Unack e = refl
free-moved stamp n true Acked e = refl
free-moved stamp n false Acked e = refl
free-moved stamp n true RtnUnack e = absurd (true≢false (sym e))
free-moved stamp n false RtnUnack e = refl
free-moved stamp n true LatchUnack e = refl
free-moved stamp n false LatchUnack e = absurd (true≢false (sym e))
free-moved stamp n true LatchAcked e = refl
free-moved stamp n false LatchAcked e = absurd (true≢false (sym e))

free-acknowledged : (stamp n : ℕ) (l : Bool) (c : Core) → suits l c ≡ true → is_some (next_core l happening.Ack c) ≡ true
    → after_transition stamp (next_core l happening.Ack c) (free c n) ≡ with stamp l (free c n) true false false (is_active_core c) None false false
free-acknowledged stamp n true Unack e f = refl
free-acknowledged stamp n false Unack e f = refl
free-acknowledged stamp n false RtnUnack e f = refl
free-acknowledged stamp n true LatchUnack e f = refl
free-acknowledged stamp n true Normal e f = absurd (true≢false (sym f))
free-acknowledged stamp n false Normal e f = absurd (true≢false (sym f))
free-acknowledged stamp n true Acked e f = absurd (true≢false (sym f))
free-acknowledged stamp n false Acked e f = absurd (true≢false (sym f))
free-acknowledged stamp n true RtnUnack e f = absurd (true≢false (sym f))
free-acknowledged stamp n false LatchUnack e f = absurd (true≢false (sym f))
free-acknowledged stamp n true LatchAcked e f = absurd (true≢false (sym f))
free-acknowledged stamp n false LatchAcked e f = absurd (true≢false (sym f))

free-reset : (stamp n : ℕ) (l : Bool) (c : Core) → is_some (next_core l happening.Reset c) ≡ true
    → after_transition stamp (next_core l happening.Reset c) (free c n) ≡ with stamp l (free c n) false true false (is_active_core c) None false false
free-reset stamp n true LatchAcked f = refl
free-reset stamp n true Normal f = absurd (true≢false (sym f))
free-reset stamp n false Normal f = absurd (true≢false (sym f))
free-reset stamp n true Unack f = absurd (true≢false (sym f))
free-reset stamp n false Unack f = absurd (true≢false (sym f))
free-reset stamp n true Acked f = absurd (true≢false (sym f))
free-reset stamp n false Acked f = absurd (true≢false (sym f))
free-reset stamp n true RtnUnack f = absurd (true≢false (sym f))
free-reset stamp n false RtnUnack f = absurd (true≢false (sym f))
free-reset stamp n true LatchUnack f = absurd (true≢false (sym f))
free-reset stamp n false LatchUnack f = absurd (true≢false (sym f))
free-reset stamp n false LatchAcked f = absurd (true≢false (sym f))

-- flags that are set: the first, the second, the third
abbrev flagged : Option ℕ → Bool → Bool → Bool
flagged sh d e = is_some sh || d || e

under-kept : (stamp n : ℕ) (l x y : Bool) (sh : Option ℕ) (d e : Bool) → flagged sh d e ≡ true → (is_some sh ≡ false → n ≡ 0)
    → Changed (under y sh d e n) ≡ with stamp l (under x sh d e n) false false false y sh d e
under-kept stamp n l x y (Some k) d e h f = refl
under-kept stamp n l x y None true e h f = ap (λ m. Changed (under y None true e m)) (f refl)
under-kept stamp n l x y None false true h f = ap (λ m. Changed (under y None false true m)) (f refl)
under-kept stamp n l x y None false false h f = absurd (true≢false (sym h))

-- other flags; under none any more an active alarm is annunciated
flags-moved : (stamp n : ℕ) (l x : Bool) (sh to : Option ℕ) (d e f g : Bool) → flagged sh d e ≡ true → (is_some to ≡ true → is_some sh ≡ true)
    → after_flags stamp (under x to f g n) ≡ with stamp l (under x sh d e n) false false false x to f g
flags-moved stamp n l x sh (Some k) d e f g h j = refl
flags-moved stamp n l x sh None d e true g h j = refl
flags-moved stamp n l x sh None d e false true h j = refl
flags-moved stamp n l true (Some k) None d e false false h j = refl
flags-moved stamp n l true None None true e false false h j = refl
flags-moved stamp n l true None None false true false false h j = refl
flags-moved stamp n l true None None false false false false h j = absurd (true≢false (sym h))
flags-moved stamp n true false sh None d e false false h j = refl
flags-moved stamp n false false sh None d e false false h j = refl

-- a first flag
free-flagged : (stamp n : ℕ) (l : Bool) (c : Core) (f g : Bool) → flagged None f g ≡ true
    → after_flags stamp (record (free c n) { by_design = f; out_of_service = g }) ≡ with stamp l (free c n) false false false (is_active_core c) None f g
free-flagged stamp n l c true g h = refl
free-flagged stamp n l c false true h = refl
free-flagged stamp n l c false false h = absurd (true≢false (sym h))

under-moved : (stamp n : ℕ) (a : Attr) (x y : Bool) (sh : Option ℕ) (d e : Bool) → flagged sh d e ≡ true → (is_some sh ≡ false → n ≡ 0)
    → after_condition stamp a (under x sh d e n) (Some y) ≡ with stamp a.latching (under x sh d e n) false false false y sh d e
under-moved stamp n a x y (Some k) d e h f = refl
under-moved stamp n a x y None true e h f = ap (λ m. Changed (under y None true e m)) (f refl)
under-moved stamp n a x y None false true h f = ap (λ m. Changed (under y None false true m)) (f refl)
under-moved stamp n a x y None false false h f = absurd (true≢false (sym h))

-- ---- a row is one of the two

free-by : (x : Bool) (c : Core) (sh : Option ℕ) (d e : Bool) (n : ℕ) → flagged sh d e ≡ false → x ≡ is_active_core c
    → record { active = x; core = c; shelved_until = sh; by_design = d; out_of_service = e; stamp = n } ≡ free c n
free-by x c None false false n h f = ap (λ y. record (free c n) { active = y }) f
free-by x c None false true n h f = absurd (true≢false h)
free-by x c None true e n h f = absurd (true≢false h)
free-by x c (Some k) d e n h f = absurd (true≢false h)

free-is : (s : State) → IsState s → is_suppressed s ≡ false → s ≡ free s.core s.stamp
free-is s h f = free-by s.active s.core s.shelved_until s.by_design s.out_of_service s.stamp f (h.active f)

under-is : (s : State) → s.core ≡ Normal → s ≡ under s.active s.shelved_until s.by_design s.out_of_service s.stamp
under-is s e = ap (λ c. record s { core = c }) e

zero-by : (n : ℕ) (b : Bool) → (0 < n → b ≡ true) → b ≡ false → n ≡ 0
zero-by zero b f e = refl
zero-by (suc n) b f e = absurd (true≢false (sym (f (omega arith)) ∙ e))

-- without annunciation and shelving there is no stamp
unstamped : (s : State) → IsState s → s.core ≡ Normal → is_some s.shelved_until ≡ false → s.stamp ≡ 0
unstamped s h core none = zero-by s.stamp (is_annunciated s.core || is_some s.shelved_until) h.stamped.1 (rw (core, none) refl)

free-unstamped : (s : State) → IsState s → is_suppressed s ≡ false → s.core ≡ Normal → s.stamp ≡ 0
free-unstamped s h f core = unstamped s h core (ap (λ x. is_some x.shelved_until) (free-is s h f))

-- ---- the condition by a value

pub comes-is : (k : Kind) (p v : ℤ) → comes k p v ≡ is_beyond k p v
comes-is High p v = refl
comes-is Low p v = refl
comes-is Discrete p v = refl

pub goes-is : (k : Kind) (p : ℤ) (d : ℕ) (v : ℤ) → goes k p d v ≡ is_back k p d v
goes-is High p d v = refl
goes-is Low p d v = refl
goes-is Discrete p d v = refl

back-low : (p v : ℤ) (d : ℕ) → int_lt v (p -ℤ pos d) ≡ true → int_le p v ≡ false
back-low p v d e = grind (arith, ints)

back-high : (p v : ℤ) (d : ℕ) → int_lt (p +ℤ pos d) v ≡ true → int_le v p ≡ false
back-high p v d e = grind (arith, ints)

not-true : (b : Bool) → not b ≡ true → b ≡ false
not-true true e = absurd (true≢false (sym e))
not-true false e = refl

pub back-isnt : (k : Kind) (p : ℤ) (d : ℕ) (v : ℤ) → is_back k p d v ≡ true → is_beyond k p v ≡ false
back-isnt High p d v e = back-low p v d e
back-isnt Low p d v e = back-high p v d e
back-isnt Discrete p d v e = not-true (int_eq v p) e

some-by : (b y : Bool) → is_some (cond b (Some y) None) ≡ true → b ≡ true
some-by true y e = refl
some-by false y e = absurd (true≢false (sym e))

abbrev condition_by : Attr → ℤ → Bool → Bool
condition_by a v before = cond (is_beyond a.kind a.setpoint v) true (cond (is_back a.kind a.setpoint a.deadband v) false before)

detected : (a : Attr) (before : Bool) (v : ℤ) → is_some (detection_of a before v) ≡ true → (detection_of a before v ≡ Some (not before)) × (condition_by a v before ≡ not before)
detected a false v e =
    let is : comes a.kind a.setpoint v ≡ true = some-by (comes a.kind a.setpoint v) true e in
    (ap (λ b. cond b (Some true) None) is, ap (λ b. cond b true (cond (is_back a.kind a.setpoint a.deadband v) false false)) (sym (comes-is a.kind a.setpoint v) ∙ is))
detected a true v e =
    let is : goes a.kind a.setpoint a.deadband v ≡ true = some-by (goes a.kind a.setpoint a.deadband v) false e in
    let back : is_back a.kind a.setpoint a.deadband v ≡ true = sym (goes-is a.kind a.setpoint a.deadband v) ∙ is in
    (ap (λ b. cond b (Some false) None) is, ap (λ b. cond b true (cond (is_back a.kind a.setpoint a.deadband v) false true)) (back-isnt a.kind a.setpoint a.deadband v back) ∙ ap (λ b. cond b false true) back)

-- ---- each action

module _ (now stamp : ℕ) (a : Attr) (s : State) (state : IsState s) (fits : suits a.latching s.core ≡ true) where
  -- by whether a flag is set
  module _ (P : State → Type 0) where
    by-flags : (is_suppressed s ≡ false → P (free s.core s.stamp)) → (is_suppressed s ≡ true → P (under s.active s.shelved_until s.by_design s.out_of_service s.stamp)) → P s
    by-flags f g = elim (cases_Bool (is_suppressed s)) [
      | inl is ↦ subst P (sym (under-is s (state.suppressed is))) (g is)
      | inr isnt ↦ subst P (sym (free-is s state isnt)) (f isnt)
    ]

  kept : Changed s ≡ with stamp a.latching s false false false s.active s.shelved_until s.by_design s.out_of_service
  kept = by-flags (λ t. Changed t ≡ with stamp a.latching t false false false t.active t.shelved_until t.by_design t.out_of_service)
      (λ f. free-kept stamp s.stamp a.latching s.core fits (free-unstamped s state f))
      (λ u. under-kept stamp s.stamp a.latching s.active s.active s.shelved_until s.by_design s.out_of_service u (unstamped s state (state.suppressed u)))

  moved : after_condition stamp a s (Some (not s.active)) ≡ with stamp a.latching s false false false (not s.active) s.shelved_until s.by_design s.out_of_service
  moved = by-flags (λ t. after_condition stamp a t (Some (not t.active)) ≡ with stamp a.latching t false false false (not t.active) t.shelved_until t.by_design t.out_of_service)
      (λ f. free-moved stamp s.stamp a.latching s.core fits)
      (λ u. under-moved stamp s.stamp a s.active (not s.active) s.shelved_until s.by_design s.out_of_service u (unstamped s state (state.suppressed u)))

  valued : (v : ℤ) → is_some (detection_of a s.active v) ≡ true
      → after_condition stamp a s (detection_of a s.active v) ≡ with stamp a.latching s false false false (condition_by a v s.active) s.shelved_until s.by_design s.out_of_service
  valued v e =
      let d = detected a s.active v e in
      ap (after_condition stamp a s) d.0 ∙ moved ∙ sym (ap (λ x. with stamp a.latching s false false false x s.shelved_until s.by_design s.out_of_service) d.1)

  unacknowledged-none : (l : Bool) → is_some (next_core l happening.Ack Normal) ≡ false
  unacknowledged-none true = refl
  unacknowledged-none false = refl

  reset-none : (l : Bool) → is_some (next_core l happening.Reset Normal) ≡ false
  reset-none true = refl
  reset-none false = refl

  acknowledged : is_some (next_core a.latching happening.Ack s.core) ≡ true
      → after_transition stamp (next_core a.latching happening.Ack s.core) s ≡ with stamp a.latching s true false false s.active s.shelved_until s.by_design s.out_of_service
  acknowledged e = by-flags (λ t. after_transition stamp (next_core a.latching happening.Ack t.core) t ≡ with stamp a.latching t true false false t.active t.shelved_until t.by_design t.out_of_service)
      (λ f. free-acknowledged stamp s.stamp a.latching s.core fits e)
      (λ u. absurd (true≢false (sym e ∙ ap (λ c. is_some (next_core a.latching happening.Ack c)) (state.suppressed u) ∙ unacknowledged-none a.latching)))

  reset : is_some (next_core a.latching happening.Reset s.core) ≡ true
      → after_transition stamp (next_core a.latching happening.Reset s.core) s ≡ with stamp a.latching s false true false s.active s.shelved_until s.by_design s.out_of_service
  reset e = by-flags (λ t. after_transition stamp (next_core a.latching happening.Reset t.core) t ≡ with stamp a.latching t false true false t.active t.shelved_until t.by_design t.out_of_service)
      (λ f. free-reset stamp s.stamp a.latching s.core e)
      (λ u. absurd (true≢false (sym e ∙ ap (λ c. is_some (next_core a.latching happening.Reset c)) (state.suppressed u) ∙ reset-none a.latching)))

  shelved-under : (o : Option ℕ) (d e : Bool) → is_some o ≡ true → flagged o d e ≡ true
  shelved-under (Some k) d e h = refl
  shelved-under None d e h = absurd (true≢false (sym h))

  unshelved : is_some s.shelved_until ≡ true
      → after_flags stamp (record s { shelved_until = None }) ≡ with stamp a.latching s false false false s.active None s.by_design s.out_of_service
  unshelved e =
      let under : is_suppressed s ≡ true = shelved-under s.shelved_until s.by_design s.out_of_service e in
      subst (λ t. after_flags stamp (record t { shelved_until = None }) ≡ with stamp a.latching t false false false t.active None t.by_design t.out_of_service)
      (sym (under-is s (state.suppressed under)))
      (flags-moved stamp s.stamp a.latching s.active s.shelved_until None s.by_design s.out_of_service s.by_design s.out_of_service under (λ n. absurd (true≢false (sym n))))

  first-on : (on : Bool) → flag_refusal on false ≡ None → on ≡ true
  first-on true e = refl
  first-on false e = absurd (none-some _ (sym e))

  serviced : (on : Bool) → flag_refusal on s.out_of_service ≡ None
      → after_flags stamp (record s { out_of_service = on }) ≡ with stamp a.latching s false false false s.active s.shelved_until s.by_design on
  serviced on e = by-flags (λ t. flag_refusal on t.out_of_service ≡ None → after_flags stamp (record t { out_of_service = on }) ≡ with stamp a.latching t false false false t.active t.shelved_until t.by_design on)
      (λ f h. free-flagged stamp s.stamp a.latching s.core false on (first-on on h))
      (λ u h. flags-moved stamp s.stamp a.latching s.active s.shelved_until s.shelved_until s.by_design s.out_of_service s.by_design on u (λ x. x)) e

  or-first : (b : Bool) → (b || false) ≡ b
  or-first true = refl
  or-first false = refl

  designed : (on : Bool) → flag_refusal on s.by_design ≡ None
      → after_flags stamp (record s { by_design = on }) ≡ with stamp a.latching s false false false s.active s.shelved_until on s.out_of_service
  designed on e = by-flags (λ t. flag_refusal on t.by_design ≡ None → after_flags stamp (record t { by_design = on }) ≡ with stamp a.latching t false false false t.active t.shelved_until on t.out_of_service)
      (λ f h. free-flagged stamp s.stamp a.latching s.core on false (or-first on ∙ first-on on h))
      (λ u h. flags-moved stamp s.stamp a.latching s.active s.shelved_until s.shelved_until s.by_design s.out_of_service on s.out_of_service u (λ x. x)) e

outcome-described : (now stamp : ℕ) (action : Action) (a : Attr) (s : State) → TakesAction action a s → suits a.latching s.core ≡ true → outcome now stamp action a s ≡ described now stamp action a s
outcome-described now stamp (Clock t) a s h fits = kept now stamp a s h.state fits
outcome-described now stamp (Value i v) a s h fits = valued now stamp a s h.state fits v (unless-none (is_some (detection_of a s.active v)) NoChange h.admitted)
outcome-described now stamp (Ack i) a s h fits = acknowledged now stamp a s h.state fits (unless-none (is_some (next_core a.latching happening.Ack s.core)) NotUnacknowledged h.admitted)
outcome-described now stamp (Reset i) a s h fits = reset now stamp a s h.state fits (unless-none (is_some (next_core a.latching happening.Reset s.core)) NotResettable h.admitted)
outcome-described now stamp (Shelve i n) a s h fits = refl
outcome-described now stamp (Unshelve i) a s h fits = unshelved now stamp a s h.state fits (unless-none (is_some s.shelved_until) NotShelved h.admitted)
outcome-described now stamp (Oos i on) a s h fits = serviced now stamp a s h.state fits on h.admitted
outcome-described now stamp (Design i on) a s h fits = designed now stamp a s h.state fits on h.admitted
outcome-described now stamp (SetPriority i n) a s h fits = kept now stamp a s h.state fits
outcome-described now stamp (SetSetpoint i v) a s h fits = kept now stamp a s h.state fits

pub one-row : (now stamp : ℕ) (action : Action) (a : Attr) (s : State) (o : Outcome) → TakesAction action a s → IsTrue (suits a.latching s.core)
    → IsLeft now stamp action a s o ↔ (o ≡ outcome now stamp action a s)
one-row now stamp action a s o h fits =
    let same : outcome now stamp action a s ≡ described now stamp action a s = outcome-described now stamp action a s h fits in (
      λ meets. left-only now stamp action a s o meets ∙ sym same,
      λ is. subst (IsLeft now stamp action a s) (sym (is ∙ same)) (left-so now stamp action a s),
    )
