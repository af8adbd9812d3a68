-- The laws of one alarm.
use Rattle.std.proofs.Common.{◌≡◌, ℕ, Bool, true, false, not, ◌&&◌, ◌||◌, cond, is_some, is_none, unwrap_or, IsTrue, Option, Some, None, ℤ, refl, sym, ap, ◌∙◌, subst, inl, inr, true≢false}
use Rattle.std.proofs.lemmas.Option.{none-some, same_Some}
use Rattle.alm_types.specs.declared.attr.Attr.{Attr}
use Rattle.alm_types.specs.declared.action.Action.{Action}
use Rattle.alm_types.specs.declared.action.Action.TheVariants.{Clock, Value, Ack, Reset, Shelve, Unshelve, Oos, Design, SetPriority, SetSetpoint}
use Rattle.alm_types.specs.declared.refusal.Refusal.{Refusal}
use Rattle.alm_types.specs.declared.refusal.Refusal.TheVariants.{NotUnacknowledged, NotResettable, NotShelved, AlreadyShelved}
use Rattle.alm_state.specs.Rows.{State, IsState, is_suppressed, is_annunciated, is_active_core}
use Rattle.alm_state.specs.Suits.{suits}
use Rattle.alm_state.specs.Table.{next_core}
use Rattle.alm_state.specs.Detection.{detection_of, comes, goes}
use Rattle.alm_state.specs.Outcome.{outcome, row_refusal, after_flags, after_condition, after_transition, without_shelving, flag_refusal, unless, or_else}
use Rattle.alm_laws.specs.Alarm.{TakesAction, row_left, is_unacknowledged, is_latched, acknowledges, resets, suppresses, condition_comes, last_flag_falls, LeavesUnacknowledgedOnlyByAckOrFlag, LeavesLatchOnlyByResetOrFlag, IsAnnunciatedJustThen, WaitsWithStamp, EndsShelvingJustByUnshelve, BeginsShelvingOnlyByShelve}
use Rattle.alm_state.specs.declared.core_state.Core.{Core}
use Rattle.alm_state.specs.declared.core_state.Core.TheVariants.{Normal, Unack, Acked, RtnUnack, LatchUnack, LatchAcked}
use Rattle.alm_state.specs.declared.happening.Happening.{Happening}
use Rattle.alm_state.specs.declared.happening.Happening.TheVariants as happening
use Rattle.alm_state.specs.declared.outcome.Outcome.TheVariants.{Changed, Annunciated}

-- (in alm_state these two are OutcomeLaws', made public)
pub unless-none : (b : Bool) (r : Refusal) → unless b r ≡ None → b ≡ true
unless-none true r h = refl
unless-none false r h = absurd (none-some _ (sym h))

detected-new : (a : Attr) (before : Bool) (v : ℤ) (after : Bool) → detection_of a before v ≡ Some after → before ≡ not after
detected-new a false v after = elim (comes a.kind a.setpoint v) as (λ b. cond b (Some true) None ≡ Some after → false ≡ not after) [
  | true ↦ λ h. ap not (same_Some _ _ h)
  | false ↦ λ h. absurd (none-some _ h)
]
detected-new a true v after = elim (goes a.kind a.setpoint a.deadband v) as (λ b. cond b (Some false) None ≡ Some after → true ≡ not after) [
  | true ↦ λ h. ap not (same_Some _ _ h)
  | false ↦ λ h. absurd (none-some _ h)
]

pub not-both : {A : Type 0} (b : Bool) → b ≡ true → b ≡ false → A
not-both b t f = absurd (true≢false (sym t ∙ f))

-- a flag that an action takes away was set
cleared : (flag : Bool) → flag_refusal false flag ≡ None → flag ≡ true
cleared true h = refl
cleared false h = absurd (none-some _ (sym h))

or-middle : (b c : Bool) → (b || true || c) ≡ true
or-middle true c = refl
or-middle false c = refl

under-by_design : (s : State) → s.by_design ≡ true → is_suppressed s ≡ true
under-by_design s e = rw e (or-middle (is_some s.shelved_until) s.out_of_service)

or-last : (b c : Bool) → (b || c || true) ≡ true
or-last true c = refl
or-last false true = refl
or-last false false = refl

under-oos : (s : State) → s.out_of_service ≡ true → is_suppressed s ≡ true
under-oos s e = rw e (or-last (is_some s.shelved_until) s.by_design)

pub under-shelving : (s : State) → is_some s.shelved_until ≡ true → is_suppressed s ≡ true
under-shelving s e = rw e refl

-- an alarm under a flag is in no state that asks for the operator
pub calm : {A : Type 0} (asks : Core → Bool) (s : State) → IsState s → asks Normal ≡ false → is_suppressed s ≡ true → asks s.core ≡ true → A
calm asks s state quiet under h = absurd (true≢false (sym h ∙ ap asks (state.suppressed under) ∙ quiet))

-- the next core state by the table
led-core : (stamp : ℕ) (o : Option Core) (t : State) → (row_left (after_transition stamp o t)).core ≡ unwrap_or o t.core
led-core stamp None t = refl
led-core stamp (Some Normal) t = refl
led-core stamp (Some Unack) t = refl
led-core stamp (Some Acked) t = refl
led-core stamp (Some RtnUnack) t = refl
led-core stamp (Some LatchUnack) t = refl
led-core stamp (Some LatchAcked) t = refl

-- a condition that comes or goes, and RESET, leave the unacknowledged so
abbrev keeps-unacknowledged : Happening → Bool
keeps-unacknowledged happening.Ack = false
keeps-unacknowledged _ = true

led-unacknowledged : (l : Bool) (h : Happening) (c : Core) → keeps-unacknowledged h ≡ true → is_unacknowledged c ≡ true → is_unacknowledged (unwrap_or (next_core l h c) c) ≡ true
led-unacknowledged true happening.Comes Unack k e = refl
led-unacknowledged false happening.Comes Unack k e = refl
led-unacknowledged true happening.Comes RtnUnack k e = refl
led-unacknowledged false happening.Comes RtnUnack k e = refl
led-unacknowledged true happening.Comes LatchUnack k e = refl
led-unacknowledged false happening.Comes LatchUnack k e = refl
led-unacknowledged true happening.Goes Unack k e = refl
led-unacknowledged false happening.Goes Unack k e = refl
led-unacknowledged true happening.Goes RtnUnack k e = refl
led-unacknowledged false happening.Goes RtnUnack k e = refl
led-unacknowledged true happening.Goes LatchUnack k e = refl
led-unacknowledged false happening.Goes LatchUnack k e = refl
led-unacknowledged true happening.Reset Unack k e = refl
led-unacknowledged false happening.Reset Unack k e = refl
led-unacknowledged true happening.Reset RtnUnack k e = refl
led-unacknowledged false happening.Reset RtnUnack k e = refl
led-unacknowledged true happening.Reset LatchUnack k e = refl
led-unacknowledged false happening.Reset LatchUnack k e = refl
led-unacknowledged l happening.Ack c k e = absurd (true≢false (sym k))
led-unacknowledged l h Normal k e = absurd (true≢false (sym e))
led-unacknowledged l h Acked k e = absurd (true≢false (sym e))
led-unacknowledged l h LatchAcked k e = absurd (true≢false (sym e))

left-unacknowledged : (stamp : ℕ) (l : Bool) (h : Happening) (s : State) (active : Bool) → keeps-unacknowledged h ≡ true → is_unacknowledged s.core ≡ true
    → is_unacknowledged (row_left (after_transition stamp (next_core l h s.core) (record s { active = active }))).core ≡ true
left-unacknowledged stamp l h s active k e = ap is_unacknowledged (led-core stamp (next_core l h s.core) (record s { active = active })) ∙ led-unacknowledged l h s.core k e

-- a value moves an alarm only as its condition comes or goes
abbrev moved-by : Bool → Happening
moved-by active = cond active happening.Comes happening.Goes

moved-keeps : (active : Bool) → keeps-unacknowledged (moved-by active) ≡ true
moved-keeps true = refl
moved-keeps false = refl

value-unacknowledged : (stamp : ℕ) (a : Attr) (s : State) (o : Option Bool) → is_unacknowledged s.core ≡ true → is_unacknowledged (row_left (after_condition stamp a s o)).core ≡ true
value-unacknowledged stamp a s None e = e
value-unacknowledged stamp a s (Some active) e =
    elim (is_suppressed s) as (λ b. is_unacknowledged (row_left (cond b (Changed (record s { active = active })) (after_transition stamp (next_core a.latching (moved-by active) s.core) (record s { active = active })))).core ≡ true) [
      | true ↦ e
      | false ↦ left-unacknowledged stamp a.latching (moved-by active) s active (moved-keeps active) e
    ]

-- no action acknowledges for the operator
pub acknowledged-only : (now stamp : ℕ) (action : Action) (a : Attr) (s : State) → TakesAction action a s → LeavesUnacknowledgedOnlyByAckOrFlag action s (row_left (outcome now stamp action a s))
acknowledged-only now stamp (Clock t) a s h e f = not-both _ e f
acknowledged-only now stamp (Value i v) a s h e f = not-both _ (value-unacknowledged stamp a s (detection_of a s.active v) e) f
acknowledged-only now stamp (Ack i) a s h e f = refl
acknowledged-only now stamp (Reset i) a s h e f = not-both _ (left-unacknowledged stamp a.latching happening.Reset s s.active refl e) f
acknowledged-only now stamp (Shelve i seconds) a s h e f = refl
acknowledged-only now stamp (Unshelve i) a s h e f = calm is_unacknowledged s h.state refl (under-shelving s (unless-none (is_some s.shelved_until) NotShelved h.admitted)) e
acknowledged-only now stamp (Oos i true) a s h e f = refl
acknowledged-only now stamp (Oos i false) a s h e f = calm is_unacknowledged s h.state refl (under-oos s (cleared s.out_of_service h.admitted)) e
acknowledged-only now stamp (Design i true) a s h e f = refl
acknowledged-only now stamp (Design i false) a s h e f = calm is_unacknowledged s h.state refl (under-by_design s (cleared s.by_design h.admitted)) e
acknowledged-only now stamp (SetPriority i priority) a s h e f = not-both _ e f
acknowledged-only now stamp (SetSetpoint i setpoint) a s h e f = not-both _ e f

-- what is latched stays annunciated until it is reset
abbrev keeps-latch : Happening → Bool
keeps-latch happening.Reset = false
keeps-latch _ = true

led-latched : (l : Bool) (h : Happening) (c : Core) → keeps-latch h ≡ true → is_latched c ≡ true → is_annunciated (unwrap_or (next_core l h c) c) ≡ true
led-latched true happening.Comes LatchUnack k e = refl
led-latched false happening.Comes LatchUnack k e = refl
led-latched true happening.Comes LatchAcked k e = refl
led-latched false happening.Comes LatchAcked k e = refl
led-latched true happening.Goes LatchUnack k e = refl
led-latched false happening.Goes LatchUnack k e = refl
led-latched true happening.Goes LatchAcked k e = refl
led-latched false happening.Goes LatchAcked k e = refl
led-latched true happening.Ack LatchUnack k e = refl
led-latched false happening.Ack LatchUnack k e = refl
led-latched true happening.Ack LatchAcked k e = refl
led-latched false happening.Ack LatchAcked k e = refl
led-latched l happening.Reset c k e = absurd (true≢false (sym k))
led-latched l h Normal k e = absurd (true≢false (sym e))
led-latched l h Unack k e = absurd (true≢false (sym e))
led-latched l h Acked k e = absurd (true≢false (sym e))
led-latched l h RtnUnack k e = absurd (true≢false (sym e))

left-latched : (stamp : ℕ) (l : Bool) (h : Happening) (s : State) (active : Bool) → keeps-latch h ≡ true → is_latched s.core ≡ true
    → is_annunciated (row_left (after_transition stamp (next_core l h s.core) (record s { active = active }))).core ≡ true
left-latched stamp l h s active k e = ap is_annunciated (led-core stamp (next_core l h s.core) (record s { active = active })) ∙ led-latched l h s.core k e

moved-latch : (active : Bool) → keeps-latch (moved-by active) ≡ true
moved-latch true = refl
moved-latch false = refl

latched-loud : (c : Core) → is_latched c ≡ true → is_annunciated c ≡ true
latched-loud LatchUnack e = refl
latched-loud LatchAcked e = refl
latched-loud Normal e = absurd (true≢false (sym e))
latched-loud Unack e = absurd (true≢false (sym e))
latched-loud Acked e = absurd (true≢false (sym e))
latched-loud RtnUnack e = absurd (true≢false (sym e))

value-latched : (stamp : ℕ) (a : Attr) (s : State) (o : Option Bool) → is_latched s.core ≡ true → is_annunciated (row_left (after_condition stamp a s o)).core ≡ true
value-latched stamp a s None e = latched-loud s.core e
value-latched stamp a s (Some active) e =
    elim (is_suppressed s) as (λ b. is_annunciated (row_left (cond b (Changed (record s { active = active })) (after_transition stamp (next_core a.latching (moved-by active) s.core) (record s { active = active })))).core ≡ true) [
      | true ↦ latched-loud s.core e
      | false ↦ left-latched stamp a.latching (moved-by active) s active (moved-latch active) e
    ]

loud-normal : {A : Type 0} (c : Core) → is_annunciated c ≡ true → c ≡ Normal → A
loud-normal c loud e = absurd (true≢false (sym loud ∙ ap is_annunciated e))

pub latched-until : (now stamp : ℕ) (action : Action) (a : Attr) (s : State) → TakesAction action a s → LeavesLatchOnlyByResetOrFlag action s (row_left (outcome now stamp action a s))
latched-until now stamp (Clock t) a s h e f = loud-normal _ (latched-loud s.core e) f
latched-until now stamp (Value i v) a s h e f = loud-normal _ (value-latched stamp a s (detection_of a s.active v) e) f
latched-until now stamp (Ack i) a s h e f = loud-normal _ (left-latched stamp a.latching happening.Ack s s.active refl e) f
latched-until now stamp (Reset i) a s h e f = refl
latched-until now stamp (Shelve i seconds) a s h e f = refl
latched-until now stamp (Unshelve i) a s h e f = calm is_latched s h.state refl (under-shelving s (unless-none (is_some s.shelved_until) NotShelved h.admitted)) e
latched-until now stamp (Oos i true) a s h e f = refl
latched-until now stamp (Oos i false) a s h e f = calm is_latched s h.state refl (under-oos s (cleared s.out_of_service h.admitted)) e
latched-until now stamp (Design i true) a s h e f = refl
latched-until now stamp (Design i false) a s h e f = calm is_latched s h.state refl (under-by_design s (cleared s.by_design h.admitted)) e
latched-until now stamp (SetPriority i priority) a s h e f = loud-normal _ (latched-loud s.core e) f
latched-until now stamp (SetSetpoint i setpoint) a s h e f = loud-normal _ (latched-loud s.core e) f

-- ---- when an alarm is annunciated again

quiet : (u x y : Bool) → (not x && y) ≡ false → false ≡ (not u && not x && y || (u && not u) && y)
quiet true x y e = refl
quiet false false false e = refl
quiet false true y e = refl
quiet false false true e = absurd (true≢false e)

quiet-under : (u x y : Bool) → u ≡ true → false ≡ (not u && not x && y || (u && not u) && y)
quiet-under true x y e = refl
quiet-under false x y e = absurd (true≢false (sym e))

comes-loud : (u x : Bool) → u ≡ false → x ≡ false → true ≡ (not u && not x && true || (u && not u) && true)
comes-loud false false e f = refl
comes-loud true x e f = absurd (true≢false e)
comes-loud false true e f = absurd (true≢false f)

same-active : (x : Bool) → (not x && x) ≡ false
same-active true = refl
same-active false = refl

-- whether the table leads to an annunciation
abbrev wakes : Option Core → Bool
wakes (Some Unack) = true
wakes _ = false

led-quiet : (stamp : ℕ) (s : State) (o : Option Core) (active : Bool) → wakes o ≡ false → (not s.active && active) ≡ false → IsAnnunciatedJustThen s (after_transition stamp o (record s { active = active }))
led-quiet stamp s None active w e = quiet (is_suppressed s) s.active active e
led-quiet stamp s (Some Normal) active w e = quiet (is_suppressed s) s.active active e
led-quiet stamp s (Some Unack) active w e = absurd (true≢false w)
led-quiet stamp s (Some Acked) active w e = quiet (is_suppressed s) s.active active e
led-quiet stamp s (Some RtnUnack) active w e = quiet (is_suppressed s) s.active active e
led-quiet stamp s (Some LatchUnack) active w e = quiet (is_suppressed s) s.active active e
led-quiet stamp s (Some LatchAcked) active w e = quiet (is_suppressed s) s.active active e

goes-quiet : (l : Bool) (c : Core) → wakes (next_core l happening.Goes c) ≡ false
goes-quiet true Normal = refl
goes-quiet true Unack = refl
goes-quiet true Acked = refl
goes-quiet true RtnUnack = refl
goes-quiet true LatchUnack = refl
goes-quiet true LatchAcked = refl
goes-quiet false Normal = refl
goes-quiet false Unack = refl
goes-quiet false Acked = refl
goes-quiet false RtnUnack = refl
goes-quiet false LatchUnack = refl
goes-quiet false LatchAcked = refl

ack-quiet : (l : Bool) (c : Core) → wakes (next_core l happening.Ack c) ≡ false
ack-quiet true Normal = refl
ack-quiet true Unack = refl
ack-quiet true Acked = refl
ack-quiet true RtnUnack = refl
ack-quiet true LatchUnack = refl
ack-quiet true LatchAcked = refl
ack-quiet false Normal = refl
ack-quiet false Unack = refl
ack-quiet false Acked = refl
ack-quiet false RtnUnack = refl
ack-quiet false LatchUnack = refl
ack-quiet false LatchAcked = refl

reset-quiet : (l : Bool) (c : Core) → wakes (next_core l happening.Reset c) ≡ false
reset-quiet true Normal = refl
reset-quiet true Unack = refl
reset-quiet true Acked = refl
reset-quiet true RtnUnack = refl
reset-quiet true LatchUnack = refl
reset-quiet true LatchAcked = refl
reset-quiet false Normal = refl
reset-quiet false Unack = refl
reset-quiet false Acked = refl
reset-quiet false RtnUnack = refl
reset-quiet false LatchUnack = refl
reset-quiet false LatchAcked = refl

comes-wakes : (l : Bool) (c : Core) → is_active_core c ≡ false → Some Unack ≡ next_core l happening.Comes c
comes-wakes true Normal e = refl
comes-wakes false Normal e = refl
comes-wakes true RtnUnack e = refl
comes-wakes false RtnUnack e = refl
comes-wakes true LatchUnack e = refl
comes-wakes false LatchUnack e = refl
comes-wakes true LatchAcked e = refl
comes-wakes false LatchAcked e = refl
comes-wakes l Unack e = absurd (true≢false e)
comes-wakes l Acked e = absurd (true≢false e)

value-cases : (stamp : ℕ) (a : Attr) (s : State) (active u : Bool) → IsState s → is_suppressed s ≡ u → s.active ≡ not active
    → IsAnnunciatedJustThen s (cond u (Changed (record s { active = active })) (after_transition stamp (next_core a.latching (moved-by active) s.core) (record s { active = active })))
value-cases stamp a s active true state p e = quiet-under (is_suppressed s) s.active active p
value-cases stamp a s true false state p e =
    subst (λ o. IsAnnunciatedJustThen s (after_transition stamp o (record s { active = true }))) (comes-wakes a.latching s.core (sym (state.active p) ∙ e)) (comes-loud (is_suppressed s) s.active p e)
value-cases stamp a s false false state p e = led-quiet stamp s (next_core a.latching happening.Goes s.core) false (goes-quiet a.latching s.core) (ap (λ x. not x && false) e)

value-then : (stamp : ℕ) (a : Attr) (s : State) (v : ℤ) (o : Option Bool) → IsState s → detection_of a s.active v ≡ o → IsAnnunciatedJustThen s (after_condition stamp a s o)
value-then stamp a s v None state e = quiet (is_suppressed s) s.active s.active (same-active s.active)
value-then stamp a s v (Some active) state e = value-cases stamp a s active (is_suppressed s) state refl (detected-new a s.active v active e)

falls : (u v x : Bool) → u ≡ true → (not v && x) ≡ (not u && not x && x || (u && not v) && x)
falls true v x e = refl
falls false v x e = absurd (true≢false (sym e))

set-quiet : (u v x : Bool) → v ≡ true → (not v && x) ≡ (not u && not x && x || (u && not v) && x)
set-quiet true true x e = refl
set-quiet false true true e = refl
set-quiet false true false e = refl
set-quiet u false x e = absurd (true≢false (sym e))

flags-cases : (stamp : ℕ) (s t : State) (v y : Bool) → is_suppressed t ≡ v → t.active ≡ y
    → (not (is_suppressed t) && t.active) ≡ (condition_comes s t || last_flag_falls s t && t.active)
    → IsAnnunciatedJustThen s (cond v (Changed (record t { core = Normal; stamp = cond (is_some t.shelved_until) t.stamp 0 })) (cond y (Annunciated (record t { core = Unack; stamp = stamp })) (Changed (record t { core = Normal; stamp = 0 }))))
flags-cases stamp s t true y p q e = sym (ap (λ b. not b && t.active) p) ∙ e
flags-cases stamp s t false true p q e = sym (ap (λ b. not b && t.active) p ∙ q) ∙ e
flags-cases stamp s t false false p q e = sym (ap (λ b. not b && t.active) p ∙ q) ∙ e

flags-then : (stamp : ℕ) (s t : State) → (not (is_suppressed t) && t.active) ≡ (condition_comes s t || last_flag_falls s t && t.active) → IsAnnunciatedJustThen s (after_flags stamp t)
flags-then stamp s t e = flags-cases stamp s t (is_suppressed t) t.active refl refl e

shelve-quiet : (u x : Bool) → false ≡ (not u && not x && x || (u && false) && x)
shelve-quiet true x = refl
shelve-quiet false true = refl
shelve-quiet false false = refl

pub annunciated-then : (now stamp : ℕ) (action : Action) (a : Attr) (s : State) → TakesAction action a s → IsAnnunciatedJustThen s (outcome now stamp action a s)
annunciated-then now stamp (Clock t) a s h = quiet (is_suppressed s) s.active s.active (same-active s.active)
annunciated-then now stamp (Value i v) a s h = value-then stamp a s v (detection_of a s.active v) h.state refl
annunciated-then now stamp (Ack i) a s h = led-quiet stamp s (next_core a.latching happening.Ack s.core) s.active (ack-quiet a.latching s.core) (same-active s.active)
annunciated-then now stamp (Reset i) a s h = led-quiet stamp s (next_core a.latching happening.Reset s.core) s.active (reset-quiet a.latching s.core) (same-active s.active)
annunciated-then now stamp (Shelve i seconds) a s h = shelve-quiet (is_suppressed s) s.active
annunciated-then now stamp (Unshelve i) a s h =
    let t : State = record s { shelved_until = None } in
    flags-then stamp s t (falls (is_suppressed s) (is_suppressed t) s.active (under-shelving s (unless-none (is_some s.shelved_until) NotShelved h.admitted)))
annunciated-then now stamp (Oos i true) a s h =
    let t : State = record s { out_of_service = true } in
    flags-then stamp s t (set-quiet (is_suppressed s) (is_suppressed t) s.active (under-oos t refl))
annunciated-then now stamp (Oos i false) a s h =
    let t : State = record s { out_of_service = false } in
    flags-then stamp s t (falls (is_suppressed s) (is_suppressed t) s.active (under-oos s (cleared s.out_of_service h.admitted)))
annunciated-then now stamp (Design i true) a s h =
    let t : State = record s { by_design = true } in
    flags-then stamp s t (set-quiet (is_suppressed s) (is_suppressed t) s.active (under-by_design t refl))
annunciated-then now stamp (Design i false) a s h =
    let t : State = record s { by_design = false } in
    flags-then stamp s t (falls (is_suppressed s) (is_suppressed t) s.active (under-by_design s (cleared s.by_design h.admitted)))
annunciated-then now stamp (SetPriority i priority) a s h = quiet (is_suppressed s) s.active s.active (same-active s.active)
annunciated-then now stamp (SetSetpoint i setpoint) a s h = quiet (is_suppressed s) s.active s.active (same-active s.active)

-- only the end of a shelving, for the clock
pub unshelved-then : (stamp : ℕ) (s : State) → is_some s.shelved_until ≡ true → IsAnnunciatedJustThen s (without_shelving stamp s)
unshelved-then stamp s e =
    let t : State = record s { shelved_until = None } in
    flags-then stamp s t (falls (is_suppressed s) (is_suppressed t) s.active (under-shelving s e))

-- ---- with the next stamp

led-waits : (stamp : ℕ) (o : Option Core) (t : State) → WaitsWithStamp stamp (after_transition stamp o t)
led-waits stamp None t e = absurd (true≢false (sym e))
led-waits stamp (Some Normal) t e = absurd (true≢false (sym e))
led-waits stamp (Some Unack) t e = (refl, refl)
led-waits stamp (Some Acked) t e = absurd (true≢false (sym e))
led-waits stamp (Some RtnUnack) t e = absurd (true≢false (sym e))
led-waits stamp (Some LatchUnack) t e = absurd (true≢false (sym e))
led-waits stamp (Some LatchAcked) t e = absurd (true≢false (sym e))

flags-waits-cases : (stamp : ℕ) (t : State) (v y : Bool)
    → WaitsWithStamp stamp (cond v (Changed (record t { core = Normal; stamp = cond (is_some t.shelved_until) t.stamp 0 })) (cond y (Annunciated (record t { core = Unack; stamp = stamp })) (Changed (record t { core = Normal; stamp = 0 }))))
flags-waits-cases stamp t true y e = absurd (true≢false (sym e))
flags-waits-cases stamp t false true e = (refl, refl)
flags-waits-cases stamp t false false e = absurd (true≢false (sym e))

pub flags-waits : (stamp : ℕ) (t : State) → WaitsWithStamp stamp (after_flags stamp t)
flags-waits stamp t = flags-waits-cases stamp t (is_suppressed t) t.active

value-waits-cases : (stamp : ℕ) (a : Attr) (s : State) (active u : Bool)
    → WaitsWithStamp stamp (cond u (Changed (record s { active = active })) (after_transition stamp (next_core a.latching (moved-by active) s.core) (record s { active = active })))
value-waits-cases stamp a s active true e = absurd (true≢false (sym e))
value-waits-cases stamp a s active false e = led-waits stamp (next_core a.latching (moved-by active) s.core) (record s { active = active }) e

value-waits : (stamp : ℕ) (a : Attr) (s : State) (o : Option Bool) → WaitsWithStamp stamp (after_condition stamp a s o)
value-waits stamp a s None e = absurd (true≢false (sym e))
value-waits stamp a s (Some active) e = value-waits-cases stamp a s active (is_suppressed s) e

pub annunciated-waits : (now stamp : ℕ) (action : Action) (a : Attr) (s : State) → WaitsWithStamp stamp (outcome now stamp action a s)
annunciated-waits now stamp (Clock t) a s e = absurd (true≢false (sym e))
annunciated-waits now stamp (Value i v) a s e = value-waits stamp a s (detection_of a s.active v) e
annunciated-waits now stamp (Ack i) a s e = led-waits stamp (next_core a.latching happening.Ack s.core) s e
annunciated-waits now stamp (Reset i) a s e = led-waits stamp (next_core a.latching happening.Reset s.core) s e
annunciated-waits now stamp (Shelve i seconds) a s e = absurd (true≢false (sym e))
annunciated-waits now stamp (Unshelve i) a s e = flags-waits stamp (record s { shelved_until = None }) e
annunciated-waits now stamp (Oos i on) a s e = flags-waits stamp (record s { out_of_service = on }) e
annunciated-waits now stamp (Design i on) a s e = flags-waits stamp (record s { by_design = on }) e
annunciated-waits now stamp (SetPriority i priority) a s e = absurd (true≢false (sym e))
annunciated-waits now stamp (SetSetpoint i setpoint) a s e = absurd (true≢false (sym e))

-- ---- shelvings

led-shelving : (stamp : ℕ) (o : Option Core) (t : State) → (row_left (after_transition stamp o t)).shelved_until ≡ t.shelved_until
led-shelving stamp None t = refl
led-shelving stamp (Some Normal) t = refl
led-shelving stamp (Some Unack) t = refl
led-shelving stamp (Some Acked) t = refl
led-shelving stamp (Some RtnUnack) t = refl
led-shelving stamp (Some LatchUnack) t = refl
led-shelving stamp (Some LatchAcked) t = refl

flags-shelving-cases : (stamp : ℕ) (t : State) (v y : Bool)
    → (row_left (cond v (Changed (record t { core = Normal; stamp = cond (is_some t.shelved_until) t.stamp 0 })) (cond y (Annunciated (record t { core = Unack; stamp = stamp })) (Changed (record t { core = Normal; stamp = 0 }))))).shelved_until ≡ t.shelved_until
flags-shelving-cases stamp t true y = refl
flags-shelving-cases stamp t false true = refl
flags-shelving-cases stamp t false false = refl

pub flags-shelving : (stamp : ℕ) (t : State) → (row_left (after_flags stamp t)).shelved_until ≡ t.shelved_until
flags-shelving stamp t = flags-shelving-cases stamp t (is_suppressed t) t.active

value-shelving : (stamp : ℕ) (a : Attr) (s : State) (o : Option Bool) → (row_left (after_condition stamp a s o)).shelved_until ≡ s.shelved_until
value-shelving stamp a s None = refl
value-shelving stamp a s (Some active) =
    elim (is_suppressed s) as (λ b. (row_left (cond b (Changed (record s { active = active })) (after_transition stamp (next_core a.latching (moved-by active) s.core) (record s { active = active })))).shelved_until ≡ s.shelved_until) [
      | true ↦ refl
      | false ↦ led-shelving stamp (next_core a.latching (moved-by active) s.core) (record s { active = active })
    ]

-- SHELVE needs an alarm that is not shelved
shelve-free : (o : Option ℕ) (p : Option Refusal) → or_else (unless (is_none o) AlreadyShelved) p ≡ None → is_some o ≡ false
shelve-free None p e = refl
shelve-free (Some d) p e = absurd (none-some _ (sym e))

pub shelving-ends : (now stamp : ℕ) (action : Action) (a : Attr) (s : State) → TakesAction action a s → EndsShelvingJustByUnshelve action s (row_left (outcome now stamp action a s))
shelving-ends now stamp (Clock t) a s h e = inr (refl, refl)
shelving-ends now stamp (Value i v) a s h e = inr (refl, value-shelving stamp a s (detection_of a s.active v))
shelving-ends now stamp (Ack i) a s h e = inr (refl, led-shelving stamp (next_core a.latching happening.Ack s.core) s)
shelving-ends now stamp (Reset i) a s h e = inr (refl, led-shelving stamp (next_core a.latching happening.Reset s.core) s)
shelving-ends now stamp (Shelve i seconds) a s h e = absurd (true≢false (sym e ∙ shelve-free s.shelved_until _ h.admitted))
shelving-ends now stamp (Unshelve i) a s h e = inl (refl, flags-shelving stamp (record s { shelved_until = None }))
shelving-ends now stamp (Oos i on) a s h e = inr (refl, flags-shelving stamp (record s { out_of_service = on }))
shelving-ends now stamp (Design i on) a s h e = inr (refl, flags-shelving stamp (record s { by_design = on }))
shelving-ends now stamp (SetPriority i priority) a s h e = inr (refl, refl)
shelving-ends now stamp (SetSetpoint i setpoint) a s h e = inr (refl, refl)

still : {A : Type 0} (o p : Option ℕ) → p ≡ o → is_some o ≡ false → is_some p ≡ true → A
still o p same none some = absurd (true≢false (sym some ∙ ap is_some same ∙ none))

pub shelving-begins : (now stamp : ℕ) (action : Action) (a : Attr) (s : State) → BeginsShelvingOnlyByShelve action s (row_left (outcome now stamp action a s))
shelving-begins now stamp (Clock t) a s e f = still s.shelved_until _ refl e f
shelving-begins now stamp (Value i v) a s e f = still s.shelved_until _ (value-shelving stamp a s (detection_of a s.active v)) e f
shelving-begins now stamp (Ack i) a s e f = still s.shelved_until _ (led-shelving stamp (next_core a.latching happening.Ack s.core) s) e f
shelving-begins now stamp (Reset i) a s e f = still s.shelved_until _ (led-shelving stamp (next_core a.latching happening.Reset s.core) s) e f
shelving-begins now stamp (Shelve i seconds) a s e f = refl
shelving-begins now stamp (Unshelve i) a s e f = still None _ (flags-shelving stamp (record s { shelved_until = None })) refl f
shelving-begins now stamp (Oos i on) a s e f = still s.shelved_until _ (flags-shelving stamp (record s { out_of_service = on })) e f
shelving-begins now stamp (Design i on) a s e f = still s.shelved_until _ (flags-shelving stamp (record s { by_design = on })) e f
shelving-begins now stamp (SetPriority i priority) a s e f = still s.shelved_until _ refl e f
shelving-begins now stamp (SetSetpoint i setpoint) a s e f = still s.shelved_until _ refl e f

-- ---- suppressed alarms

flags-suppressed-cases : (stamp : ℕ) (t : State) (v y : Bool) → is_suppressed t ≡ true → is_suppressed t ≡ v
    → is_suppressed (row_left (cond v (Changed (record t { core = Normal; stamp = cond (is_some t.shelved_until) t.stamp 0 })) (cond y (Annunciated (record t { core = Unack; stamp = stamp })) (Changed (record t { core = Normal; stamp = 0 }))))) ≡ true
flags-suppressed-cases stamp t true y p q = p
flags-suppressed-cases stamp t false y p q = not-both _ p q

flags-suppressed : (stamp : ℕ) (t : State) → is_suppressed t ≡ true → is_suppressed (row_left (after_flags stamp t)) ≡ true
flags-suppressed stamp t p = flags-suppressed-cases stamp t (is_suppressed t) t.active p refl

pub suppressed-left : (now stamp : ℕ) (action : Action) (a : Attr) (s : State) → suppresses action ≡ true → is_suppressed (row_left (outcome now stamp action a s)) ≡ true
suppressed-left now stamp (Shelve i seconds) a s e = refl
suppressed-left now stamp (Oos i true) a s e = flags-suppressed stamp (record s { out_of_service = true }) (under-oos (record s { out_of_service = true }) refl)
suppressed-left now stamp (Design i true) a s e = flags-suppressed stamp (record s { by_design = true }) (under-by_design (record s { by_design = true }) refl)
suppressed-left now stamp (Oos i false) a s e = absurd (true≢false (sym e))
suppressed-left now stamp (Design i false) a s e = absurd (true≢false (sym e))
suppressed-left now stamp (Clock t) a s e = absurd (true≢false (sym e))
suppressed-left now stamp (Value i v) a s e = absurd (true≢false (sym e))
suppressed-left now stamp (Ack i) a s e = absurd (true≢false (sym e))
suppressed-left now stamp (Reset i) a s e = absurd (true≢false (sym e))
suppressed-left now stamp (Unshelve i) a s e = absurd (true≢false (sym e))
suppressed-left now stamp (SetPriority i priority) a s e = absurd (true≢false (sym e))
suppressed-left now stamp (SetSetpoint i setpoint) a s e = absurd (true≢false (sym e))

-- ---- the operator is heard

taken : (b : Bool) (r : Refusal) → is_none (unless b r) ≡ b
taken true r = refl
taken false r = refl

ack-taken : (l : Bool) (c : Core) → IsTrue (suits l c) → is_some (next_core l happening.Ack c) ≡ is_unacknowledged c
ack-taken true Normal fits = refl
ack-taken false Normal fits = refl
ack-taken true Unack fits = refl
ack-taken false Unack fits = refl
ack-taken true Acked fits = refl
ack-taken false Acked fits = refl
ack-taken true RtnUnack fits = absurd (true≢false (sym fits))
ack-taken false RtnUnack fits = refl
ack-taken true LatchUnack fits = refl
ack-taken false LatchUnack fits = absurd (true≢false (sym fits))
ack-taken true LatchAcked fits = refl
ack-taken false LatchAcked fits = refl

reset-taken : (l : Bool) (c : Core) → IsTrue (suits l c) → is_some (next_core l happening.Reset c) ≡ (is_latched c && not (is_unacknowledged c))
reset-taken true Normal fits = refl
reset-taken false Normal fits = refl
reset-taken true Unack fits = refl
reset-taken false Unack fits = refl
reset-taken true Acked fits = refl
reset-taken false Acked fits = refl
reset-taken true RtnUnack fits = refl
reset-taken false RtnUnack fits = refl
reset-taken true LatchUnack fits = refl
reset-taken false LatchUnack fits = refl
reset-taken true LatchAcked fits = refl
reset-taken false LatchAcked fits = absurd (true≢false (sym fits))

ack-acked : (l : Bool) (c : Core) → is_some (next_core l happening.Ack c) ≡ true → is_unacknowledged (unwrap_or (next_core l happening.Ack c) c) ≡ false
ack-acked true Normal some = refl
ack-acked false Normal some = refl
ack-acked true Unack some = refl
ack-acked false Unack some = refl
ack-acked true Acked some = refl
ack-acked false Acked some = refl
ack-acked true RtnUnack some = absurd (true≢false (sym some))
ack-acked false RtnUnack some = refl
ack-acked true LatchUnack some = refl
ack-acked false LatchUnack some = absurd (true≢false (sym some))
ack-acked true LatchAcked some = refl
ack-acked false LatchAcked some = refl

reset-ended : (l : Bool) (c : Core) → is_some (next_core l happening.Reset c) ≡ true → unwrap_or (next_core l happening.Reset c) c ≡ Normal
reset-ended true Normal some = refl
reset-ended false Normal some = refl
reset-ended true Unack some = absurd (true≢false (sym some))
reset-ended false Unack some = absurd (true≢false (sym some))
reset-ended true Acked some = absurd (true≢false (sym some))
reset-ended false Acked some = absurd (true≢false (sym some))
reset-ended true RtnUnack some = absurd (true≢false (sym some))
reset-ended false RtnUnack some = absurd (true≢false (sym some))
reset-ended true LatchUnack some = absurd (true≢false (sym some))
reset-ended false LatchUnack some = absurd (true≢false (sym some))
reset-ended true LatchAcked some = refl
reset-ended false LatchAcked some = absurd (true≢false (sym some))

pub acknowledge-taken : (action : Action) (a : Attr) (s : State) → acknowledges action ≡ true → IsTrue (suits a.latching s.core) → is_none (row_refusal action a s) ≡ is_unacknowledged s.core
acknowledge-taken (Ack i) a s e fits = taken _ NotUnacknowledged ∙ ack-taken a.latching s.core fits
acknowledge-taken action a s e fits = absurd (true≢false (sym e))

pub resets-taken : (action : Action) (a : Attr) (s : State) → resets action ≡ true → IsTrue (suits a.latching s.core) → is_none (row_refusal action a s) ≡ (is_latched s.core && not (is_unacknowledged s.core))
resets-taken (Reset i) a s e fits = taken _ NotResettable ∙ reset-taken a.latching s.core fits
resets-taken action a s e fits = absurd (true≢false (sym e))

pub acknowledge-done : (now stamp : ℕ) (action : Action) (a : Attr) (s : State) → acknowledges action ≡ true → TakesAction action a s → is_unacknowledged (row_left (outcome now stamp action a s)).core ≡ false
acknowledge-done now stamp (Ack i) a s e h =
    ap is_unacknowledged (led-core stamp (next_core a.latching happening.Ack s.core) s) ∙ ack-acked a.latching s.core (unless-none (is_some (next_core a.latching happening.Ack s.core)) NotUnacknowledged h.admitted)
acknowledge-done now stamp action a s e h = absurd (true≢false (sym e))

pub reset-done : (now stamp : ℕ) (action : Action) (a : Attr) (s : State) → resets action ≡ true → TakesAction action a s → (row_left (outcome now stamp action a s)).core ≡ Normal
reset-done now stamp (Reset i) a s e h =
    led-core stamp (next_core a.latching happening.Reset s.core) s ∙ reset-ended a.latching s.core (unless-none (is_some (next_core a.latching happening.Reset s.core)) NotResettable h.admitted)
reset-done now stamp action a s e h = absurd (true≢false (sym e))
