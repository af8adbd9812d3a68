-- What an admitted action makes of a row that keeps the rules keeps them.
use Rattle.std.proofs.Common.{◌≡◌, ℕ, ◌<◌, ◌≤◌, Bool, true, false, Option, Some, None, refl, sym, ap, ◌∙◌, arith, inl, inr, ◌⊎◌, cond, true≢false}
use Rattle.std.proofs.lemmas.Option.{none-some, same_Some}
use Rattle.std.specs.Prelude.{◌↔◌, ℤ, IsTrue, is_some, is_none, not, ◌||◌, nat_lt, ◌==◌}
use Rattle.std.proofs.lemmas.Grind.{common_steps}
use Rattle.std.proofs.lemmas.Bool.{cases_Bool}
use Rattle.alm_types.specs.declared.attr.Attr.{Attr}
use Rattle.alm_types.specs.declared.action.Action.{Action}
use Rattle.alm_types.specs.declared.action.Action.TheVariants.{Clock, Value, Ack, Reset, Shelve, Unshelve, Oos, Design, SetPriority, SetSetpoint}
use Rattle.alm_types.specs.declared.refusal.Refusal.{Refusal}
use Rattle.alm_types.specs.declared.refusal.Refusal.TheVariants.{NotUnacknowledged, NotResettable, AlreadyShelved, ShelveLength}
use Rattle.alm_state.specs.Rows.{State, IsState, is_suppressed, is_annunciated, is_active_core}
use Rattle.alm_state.specs.Suits.{suits, IsAhead}
use Rattle.alm_state.specs.Table.{next_core}
use Rattle.alm_state.specs.Detection.{detection_of, comes, goes}
use Rattle.alm_state.specs.Outcome.{outcome, row_refusal, after_flags, after_condition, after_transition, in_core, annunciated_anew, without_shelving, unless, or_else, active_after}
use Rattle.alm_state.specs.declared.core_state.Core.{Core}
use Rattle.alm_state.specs.declared.core_state.Core.TheVariants.{Normal, Unack, Acked, RtnUnack, LatchUnack, LatchAcked}
use Rattle.alm_state.specs.declared.happening.Happening.{Happening}
use Rattle.alm_state.specs.declared.happening.Happening.TheVariants as happening
use Rattle.alm_state.specs.declared.outcome.Outcome.{Outcome}
use Rattle.alm_state.specs.declared.outcome.Outcome.TheVariants.{Changed, Annunciated, Shelved}

-- a row without a stamp of its own after another: it keeps the stamp or has none, is annunciated or shelved only if the other was
pub record IsChanged (a : Attr) (s s' : State) : Type 0 where
  pub state : IsState s'
  pub suits : IsTrue (suits a.latching s'.core)
  pub stamp : (s'.stamp ≡ s.stamp) ⊎ (s'.stamp ≡ 0)
  pub annunciated : is_annunciated s'.core ≡ true → is_annunciated s.core ≡ true
  pub shelved : (s'.shelved_until ≡ s.shelved_until) ⊎ (s'.shelved_until ≡ None)

-- a row that is annunciated again
pub record IsAnnunciated (a : Attr) (stamp : ℕ) (s' : State) : Type 0 where
  pub state : IsState s'
  pub suits : IsTrue (suits a.latching s'.core)
  pub new : s'.stamp ≡ stamp
  pub free : s'.shelved_until ≡ None

-- a row that is shelved
pub record IsShelved (a : Attr) (now stamp : ℕ) (s' : State) : Type 0 where
  pub state : IsState s'
  pub suits : IsTrue (suits a.latching s'.core)
  pub new : s'.stamp ≡ stamp
  pub quiet : is_annunciated s'.core ≡ false
  pub ahead : IsAhead now a.max_shelve s'.shelved_until

abbrev pub IsOutcome : Attr → ℕ → ℕ → State → Outcome → Type 0
IsOutcome a now stamp s (Changed s') = IsChanged a s s'
IsOutcome a now stamp s (Annunciated s') = IsAnnunciated a stamp s'
IsOutcome a now stamp s (Shelved s') = IsShelved a now stamp s'

-- a free row has no deadline
free-none : (s : State) → is_suppressed s ≡ false → s.shelved_until ≡ None
free-none s = elim s.shelved_until as (λ o. (is_some o || s.by_design || s.out_of_service) ≡ false → o ≡ None) [ None ↦ λ h. refl | Some d ↦ λ h. absurd (true≢false h) ]

-- a free row that is annunciated again
annunciated_anew-good : (a : Attr) (stamp : ℕ) (t : State) → 0 < stamp → is_suppressed t ≡ false → t.active ≡ true → IsAnnunciated a stamp (record t { core = Unack; stamp = stamp })
annunciated_anew-good a stamp t new free active = record {
  state = record { suppressed = λ h. absurd (true≢false (sym h ∙ free)); active = λ h. active; stamped = (λ h. new, λ h. refl) };
  suits = refl;
  new = refl;
  free = free-none t free;
}

-- the stamp of a row in another core state
moved-stamped : (s : State) (c : Core) → IsState s → s.shelved_until ≡ None → is_annunciated s.core ≡ true
    → IsTrue (is_annunciated c || is_some s.shelved_until) ↔ (0 < cond (is_annunciated c) s.stamp 0)
moved-stamped s c state none loud =
    rw none (elim (is_annunciated c) as (λ b. IsTrue (b || false) ↔ (0 < cond b s.stamp 0)) [
      | true ↦ (λ h. state.stamped.0 (rw loud refl), λ h. refl)
      | false ↦ (λ h. absurd (true≢false (sym h)), λ h. absurd (omega arith))
    ])

moved-stamp : (s : State) (b : Bool) → (cond b s.stamp 0 ≡ s.stamp) ⊎ (cond b s.stamp 0 ≡ 0)
moved-stamp s true = inl refl
moved-stamp s false = inr refl

-- an annunciated row in another core state
moved-good : (a : Attr) (s : State) (c : Core) (active : Bool) → IsState s → is_suppressed s ≡ false → active ≡ is_active_core c → IsTrue (suits a.latching c) → is_annunciated s.core ≡ true
    → IsChanged a s (in_core c (record s { active = active }))
moved-good a s c active state free same fits loud = record {
  state = record {
    suppressed = λ h. absurd (true≢false (sym h ∙ free));
    active = λ h. same;
    stamped = moved-stamped s c state (free-none s free) loud;
  };
  suits = fits;
  stamp = moved-stamp s (is_annunciated c);
  annunciated = λ h. loud;
  shelved = inl refl;
}

-- the state after a transition of a free row
led-cases : (a : Attr) (now stamp : ℕ) (s : State) (active : Bool) (l : Bool) (h : Happening) (c : Core)
    → 0 < stamp → IsState s → is_suppressed s ≡ false → a.latching ≡ l → s.core ≡ c → active ≡ active_after h (is_active_core c) → is_some (next_core l h c) ≡ true
    → IsOutcome a now stamp s (after_transition stamp (next_core l h c) (record s { active = active }))
led-cases a now stamp s active l happening.Comes Normal new state free e f same some = annunciated_anew-good a stamp (record s { active = active }) new free same
led-cases a now stamp s active l happening.Comes RtnUnack new state free e f same some = annunciated_anew-good a stamp (record s { active = active }) new free same
led-cases a now stamp s active l happening.Comes LatchUnack new state free e f same some = annunciated_anew-good a stamp (record s { active = active }) new free same
led-cases a now stamp s active l happening.Comes LatchAcked new state free e f same some = annunciated_anew-good a stamp (record s { active = active }) new free same
led-cases a now stamp s active false happening.Goes Unack new state free e f same some = moved-good a s RtnUnack active state free same (rw e refl) (rw f refl)
led-cases a now stamp s active false happening.Goes Acked new state free e f same some = moved-good a s Normal active state free same refl (rw f refl)
led-cases a now stamp s active true happening.Goes Unack new state free e f same some = moved-good a s LatchUnack active state free same (rw e refl) (rw f refl)
led-cases a now stamp s active true happening.Goes Acked new state free e f same some = moved-good a s LatchAcked active state free same (rw e refl) (rw f refl)
led-cases a now stamp s active l happening.Ack Unack new state free e f same some = moved-good a s Acked active state free same refl (rw f refl)
led-cases a now stamp s active false happening.Ack RtnUnack new state free e f same some = moved-good a s Normal active state free same refl (rw f refl)
led-cases a now stamp s active true happening.Ack LatchUnack new state free e f same some = moved-good a s LatchAcked active state free same (rw e refl) (rw f refl)
led-cases a now stamp s active true happening.Reset LatchAcked new state free e f same some = moved-good a s Normal active state free same refl (rw f refl)
led-cases a now stamp s active l h c new state free e f same some = absurd (true≢false (sym some))

led-good : (a : Attr) (now stamp : ℕ) (s : State) (active : Bool) (h : Happening) → 0 < stamp → IsState s → is_suppressed s ≡ false → active ≡ active_after h s.active → is_some (next_core a.latching h s.core) ≡ true
    → IsOutcome a now stamp s (after_transition stamp (next_core a.latching h s.core) (record s { active = active }))
led-good a now stamp s active h new state free same some =
    led-cases a now stamp s active a.latching h s.core new state free refl refl (same ∙ ap (active_after h) (state.active free)) some

-- a row under other flags
reflagged-stamped : (o : Option ℕ) (n : ℕ) → (is_some o ≡ true → 0 < n) → IsTrue (false || is_some o) ↔ (0 < cond (is_some o) n 0)
reflagged-stamped None n h = (λ e. absurd (true≢false (sym e)), λ e. absurd (omega arith))
reflagged-stamped (Some d) n h = (λ e. h refl, λ e. refl)

reflagged-stamp : (s : State) (n : ℕ) (b : Bool) → n ≡ s.stamp → (cond b n 0 ≡ s.stamp) ⊎ (cond b n 0 ≡ 0)
reflagged-stamp s n true e = inl e
reflagged-stamp s n false e = inr refl

or-true : (b : Bool) → (b || true) ≡ true
or-true true = refl
or-true false = refl

-- what is shelved has a stamp
shelved-stamp : (s t : State) → IsState s → t.stamp ≡ s.stamp → (t.shelved_until ≡ s.shelved_until) ⊎ (t.shelved_until ≡ None) → is_some t.shelved_until ≡ true → 0 < t.stamp
shelved-stamp s t state e (inl same) h =
    let some : is_some s.shelved_until ≡ true = sym (ap is_some same) ∙ h in
    let old : 0 < s.stamp = state.stamped.0 (rw some (or-true (is_annunciated s.core))) in
    rw e old
shelved-stamp s t state e (inr none) h = absurd (true≢false (sym h ∙ ap is_some none))

reflagged-cases : (a : Attr) (now stamp : ℕ) (s t : State) (suppressed active : Bool)
    → 0 < stamp → IsState s → t.stamp ≡ s.stamp → (t.shelved_until ≡ s.shelved_until) ⊎ (t.shelved_until ≡ None) → is_suppressed t ≡ suppressed → t.active ≡ active
    → IsOutcome a now stamp s (cond suppressed (Changed (record t { core = Normal; stamp = cond (is_some t.shelved_until) t.stamp 0 })) (cond active (annunciated_anew stamp t) (Changed (record t { core = Normal; stamp = 0 }))))
reflagged-cases a now stamp s t true active new state e same p q = record {
  state = record { suppressed = λ h. refl; active = λ h. absurd (true≢false (sym p ∙ h)); stamped = reflagged-stamped t.shelved_until t.stamp (shelved-stamp s t state e same) };
  suits = refl;
  stamp = reflagged-stamp s t.stamp (is_some t.shelved_until) e;
  annunciated = λ h. absurd (true≢false (sym h));
  shelved = same;
}
reflagged-cases a now stamp s t false true new state e same p q = annunciated_anew-good a stamp t new p q
reflagged-cases a now stamp s t false false new state e same p q =
    let none = free-none t p in
    record {
      state = record { suppressed = λ h. refl; active = λ h. q; stamped = rw none (λ h. absurd (true≢false (sym h)), λ h. absurd (omega arith)) };
      suits = refl;
      stamp = inr refl;
      annunciated = λ h. absurd (true≢false (sym h));
      shelved = same;
    }

reflagged-good : (a : Attr) (now stamp : ℕ) (s t : State) → 0 < stamp → IsState s → t.stamp ≡ s.stamp → (t.shelved_until ≡ s.shelved_until) ⊎ (t.shelved_until ≡ None)
    → IsOutcome a now stamp s (after_flags stamp t)
reflagged-good a now stamp s t new state e same = reflagged-cases a now stamp s t (is_suppressed t) t.active new state e same refl refl

pub unshelved-good : (a : Attr) (now stamp : ℕ) (s : State) → 0 < stamp → IsState s → IsOutcome a now stamp s (without_shelving stamp s)
unshelved-good a now stamp s new state = reflagged-good a now stamp s (record s { shelved_until = None }) new state refl (inr refl)

-- a condition that comes or goes is one of the table
comes-some : (l : Bool) (c : Core) → is_active_core c ≡ false → is_some (next_core l happening.Comes c) ≡ true
comes-some l Normal e = refl
comes-some l RtnUnack e = refl
comes-some l LatchUnack e = refl
comes-some l LatchAcked e = refl
comes-some l Unack e = absurd (true≢false e)
comes-some l Acked e = absurd (true≢false e)

goes-some : (l : Bool) (c : Core) → is_active_core c ≡ true → is_some (next_core l happening.Goes c) ≡ true
goes-some false Unack e = refl
goes-some true Unack e = refl
goes-some false Acked e = refl
goes-some true Acked e = refl
goes-some l Normal e = absurd (true≢false (sym e))
goes-some l RtnUnack e = absurd (true≢false (sym e))
goes-some l LatchUnack e = absurd (true≢false (sym e))
goes-some l LatchAcked e = absurd (true≢false (sym e))

followed-free : (a : Attr) (now stamp : ℕ) (s : State) (active : Bool) → 0 < stamp → IsState s → is_suppressed s ≡ false → s.active ≡ not active
    → IsOutcome a now stamp s (after_transition stamp (next_core a.latching (cond active happening.Comes happening.Goes) s.core) (record s { active = active }))
followed-free a now stamp s true new state free e = led-good a now stamp s true happening.Comes new state free refl (comes-some a.latching s.core (sym (state.active free) ∙ e))
followed-free a now stamp s false new state free e = led-good a now stamp s false happening.Goes new state free refl (goes-some a.latching s.core (sym (state.active free) ∙ e))

followed-cases : (a : Attr) (now stamp : ℕ) (s : State) (active suppressed : Bool) → 0 < stamp → IsState s → IsTrue (suits a.latching s.core) → s.active ≡ not active → is_suppressed s ≡ suppressed
    → IsOutcome a now stamp s (cond suppressed (Changed (record s { active = active })) (after_transition stamp (next_core a.latching (cond active happening.Comes happening.Goes) s.core) (record s { active = active })))
followed-cases a now stamp s active true new state fits e p = record {
  state = record { suppressed = λ h. state.suppressed p; active = λ h. absurd (true≢false (sym p ∙ h)); stamped = state.stamped };
  suits = fits;
  stamp = inl refl;
  annunciated = λ h. h;
  shelved = inl refl;
}
followed-cases a now stamp s active false new state fits e p = followed-free a now stamp s active new state p e

-- a detected condition is a new one
detected-new : (a : Attr) (before : Bool) (v : ℤ) (after : Bool) → detection_of a before v ≡ Some after → before ≡ not after
detected-new a false v after = elim (comes a.kind a.setpoint v) as (λ b. cond b (Some true) None ≡ Some after → false ≡ not after) [
  | true ↦ λ h. ap not (same_Some _ _ h)
  | false ↦ λ h. absurd (none-some _ h)
]
detected-new a true v after = elim (goes a.kind a.setpoint a.deadband v) as (λ b. cond b (Some false) None ≡ Some after → true ≡ not after) [
  | true ↦ λ h. ap not (same_Some _ _ h)
  | false ↦ λ h. absurd (none-some _ h)
]

followed-good : (a : Attr) (now stamp : ℕ) (s : State) (v : ℤ) (o : Option Bool) → 0 < stamp → IsState s → IsTrue (suits a.latching s.core) → detection_of a s.active v ≡ o → IsOutcome a now stamp s (after_condition stamp a s o)
followed-good a now stamp s v (Some active) new state fits e = followed-cases a now stamp s active (is_suppressed s) new state fits (detected-new a s.active v active e) refl
followed-good a now stamp s v None new state fits e = record { state = state; suits = fits; stamp = inl refl; annunciated = λ h. h; shelved = inl refl }

-- what a test that passed leaves
unless-none : (b : Bool) (r : Refusal) → unless b r ≡ None → b ≡ true
unless-none true r h = refl
unless-none false r h = absurd (none-some _ (sym h))

or_else-second : (o p : Option Refusal) → or_else o p ≡ None → p ≡ None
or_else-second None p h = h
or_else-second (Some r) p h = absurd (none-some _ (sym h))

-- neither is the table's at Normal
ack-normal : (l : Bool) → is_some (next_core l happening.Ack Normal) ≡ true → ⊥
ack-normal true h = absurd (true≢false (sym h))
ack-normal false h = absurd (true≢false (sym h))

reset-normal : (l : Bool) → is_some (next_core l happening.Reset Normal) ≡ true → ⊥
reset-normal true h = absurd (true≢false (sym h))
reset-normal false h = absurd (true≢false (sym h))

-- a row that the table leads on is free
free-from : (s : State) (l : Bool) (h : Happening) → IsState s → (is_some (next_core l h Normal) ≡ true → ⊥) → is_some (next_core l h s.core) ≡ true → is_suppressed s ≡ false
free-from s l h state never some = elim (cases_Bool (is_suppressed s)) [
  | inl t ↦ absurd (never (sym (ap (λ c. is_some (next_core l h c)) (state.suppressed t)) ∙ some))
  | inr f ↦ f
]

-- a length that is admitted
in_length : (seconds limit : ℕ) → not ((seconds == 0) || nat_lt limit seconds) ≡ true → (0 < seconds) × (seconds ≤ limit)
in_length seconds limit h = grind (arith, common_steps)

-- what an admitted action makes of a row that keeps the rules
pub outcome-good : (a : Attr) (now stamp : ℕ) (action : Action) (s : State) → 0 < stamp → IsState s → IsTrue (suits a.latching s.core) → row_refusal action a s ≡ None
    → IsOutcome a now stamp s (outcome now stamp action a s)
outcome-good a now stamp (Clock t) s new state fits h = record { state = state; suits = fits; stamp = inl refl; annunciated = λ e. e; shelved = inl refl }
outcome-good a now stamp (Value i v) s new state fits h = followed-good a now stamp s v (detection_of a s.active v) new state fits refl
outcome-good a now stamp (Ack i) s new state fits h =
    let some = unless-none (is_some (next_core a.latching happening.Ack s.core)) NotUnacknowledged h in
    led-good a now stamp s s.active happening.Ack new state (free-from s a.latching happening.Ack state (ack-normal a.latching) some) refl some
outcome-good a now stamp (Reset i) s new state fits h =
    let some = unless-none (is_some (next_core a.latching happening.Reset s.core)) NotResettable h in
    led-good a now stamp s s.active happening.Reset new state (free-from s a.latching happening.Reset state (reset-normal a.latching) some) refl some
outcome-good a now stamp (Shelve i seconds) s new state fits h =
    let some = in_length seconds a.max_shelve (unless-none (not ((seconds == 0) || nat_lt a.max_shelve seconds)) ShelveLength (or_else-second (unless (is_none s.shelved_until) AlreadyShelved) _ h)) in
    record {
      state = record { suppressed = λ e. refl; active = λ e. absurd (true≢false e); stamped = (λ e. new, λ e. refl) };
      suits = refl;
      new = refl;
      quiet = refl;
      ahead = (omega (arith, some.0), omega (arith, some.1));
    }
outcome-good a now stamp (Unshelve i) s new state fits h = unshelved-good a now stamp s new state
outcome-good a now stamp (Oos i on) s new state fits h = reflagged-good a now stamp s (record s { out_of_service = on }) new state refl (inl refl)
outcome-good a now stamp (Design i on) s new state fits h = reflagged-good a now stamp s (record s { by_design = on }) new state refl (inl refl)
outcome-good a now stamp (SetPriority i priority) s new state fits h = record { state = state; suits = fits; stamp = inl refl; annunciated = λ e. e; shelved = inl refl }
outcome-good a now stamp (SetSetpoint i setpoint) s new state fits h = record { state = state; suits = fits; stamp = inl refl; annunciated = λ e. e; shelved = inl refl }

-- the row that is left
abbrev pub row_of : Outcome → State
row_of (Changed s) = s
row_of (Annunciated s) = s
row_of (Shelved s) = s

-- what ended is shelved no more
ended-cases : (stamp : ℕ) (s : State) (suppressed active : Bool)
    → (row_of (cond suppressed (Changed (record s { core = Normal; shelved_until = None; stamp = 0 })) (cond active (annunciated_anew stamp (record s { shelved_until = None })) (Changed (record s { core = Normal; shelved_until = None; stamp = 0 }))))).shelved_until ≡ None
ended-cases stamp s true active = refl
ended-cases stamp s false true = refl
ended-cases stamp s false false = refl

pub unshelved-ended : (stamp : ℕ) (s : State) → (row_of (without_shelving stamp s)).shelved_until ≡ None
unshelved-ended stamp s = ended-cases stamp s (is_suppressed (record s { shelved_until = None })) s.active
