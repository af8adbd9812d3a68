-- What an action leaves an alarm that takes it, field by field. Only the row before, the attributes and the action are asked.
use Rattle.std.specs.Prelude.{◌≡◌, ℕ, ℤ, ◌+◌, pos, ◌-ℤ◌, ◌+ℤ◌, int_le, int_lt, Bool, true, false, not, ◌&&◌, ◌||◌, Option, Some, None, is_some, if◌then◌else◌}
use Rattle.std.specs.Ordering.{int_eq}
use Rattle.alm_types.specs.declared.attr.Attr.{Attr}
use Rattle.alm_types.specs.declared.kind.Kind.{Kind}
use Rattle.alm_types.specs.declared.kind.Kind.TheVariants.{High, Low, Discrete}
use Rattle.alm_types.specs.declared.action.Action.{Action}
use Rattle.alm_types.specs.declared.action.Action.TheVariants.{Value, Shelve, Unshelve, Oos, Design}
use Rattle.alm_state.specs.Rows.{State, is_suppressed, is_annunciated, is_active_core}
use Rattle.alm_state.specs.Suits.{suits}
use Rattle.alm_state.specs.declared.outcome.Outcome.{Outcome}
use Rattle.alm_state.specs.declared.outcome.Outcome.TheVariants.{Shelved}
use Rattle.alm_laws.specs.Alarm.{row_left, annunciates, is_unacknowledged, acknowledges, resets, shelves}

-- a value at the setpoint or beyond it
abbrev pub is_beyond : Kind → ℤ → ℤ → Bool
is_beyond High setpoint value = int_le setpoint value
is_beyond Low setpoint value = int_le value setpoint
is_beyond Discrete setpoint value = int_eq value setpoint

-- a value that is back from it by more than the deadband
abbrev pub is_back : Kind → ℤ → ℕ → ℤ → Bool
is_back High setpoint deadband value = int_lt value (setpoint -ℤ pos deadband)
is_back Low setpoint deadband value = int_lt (setpoint +ℤ pos deadband) value
is_back Discrete setpoint deadband value = not (int_eq value setpoint)

-- the condition: a value beyond the setpoint makes it hold, one that is back ends it, any other leaves it
abbrev pub condition_left : Action → Attr → Bool → Bool
condition_left (Value i value) a before = if is_beyond a.kind a.setpoint value then true else if is_back a.kind a.setpoint a.deadband value then false else before
condition_left _ a before = before

-- the flags: each is as it is asked
abbrev pub shelving_left : ℕ → Action → Option ℕ → Option ℕ
shelving_left now (Shelve i seconds) before = Some (now + seconds)
shelving_left now (Unshelve i) before = None
shelving_left now _ before = before

abbrev pub design_left : Action → Bool → Bool
design_left (Design i on) before = on
design_left _ before = before

abbrev pub service_left : Action → Bool → Bool
service_left (Oos i on) before = on
service_left _ before = before

abbrev pub is_suppressed_left : ℕ → Action → State → Bool
is_suppressed_left now action s =
    is_some (shelving_left now action s.shelved_until) || design_left action s.by_design || service_left action s.out_of_service

-- it is annunciated: no flag is left and the condition holds, where before there was a flag or no condition
abbrev pub is_annunciated_then : ℕ → Action → Attr → State → Bool
is_annunciated_then now action a s = not (is_suppressed_left now action s) && condition_left action a s.active && (is_suppressed s || not s.active)

-- it is unacknowledged: no flag is left, and it is annunciated, or it was unacknowledged and isn't acknowledged
abbrev pub is_unacknowledged_left : ℕ → Action → Attr → State → Bool
is_unacknowledged_left now action a s =
    not (is_suppressed_left now action s) && (is_annunciated_then now action a s || is_unacknowledged s.core && not (acknowledges action))

-- its condition asks for the operator: no flag is left, and it holds
abbrev pub is_active_left : ℕ → Action → Attr → State → Bool
is_active_left now action a s = not (is_suppressed_left now action s) && condition_left action a s.active

-- it asks for the operator: its condition does, it is unacknowledged, or it latches, did ask and isn't reset
abbrev pub asks_left : ℕ → Action → Attr → State → Bool
asks_left now action a s =
    is_active_left now action a s || is_unacknowledged_left now action a s
    || not (is_suppressed_left now action s) && a.latching && is_annunciated s.core && not (resets action)

-- the stamp: the next one for an annunciation and a shelving; else the old one while it asks for the operator or is shelved
abbrev pub stamp_left : ℕ → ℕ → Action → Attr → State → ℕ
stamp_left now stamp action a s =
    if is_annunciated_then now action a s || shelves action then stamp
    else if asks_left now action a s || is_some (shelving_left now action s.shelved_until) then s.stamp
    else 0

abbrev pub is_shelved_then : Outcome → Bool
is_shelved_then (Shelved s) = true
is_shelved_then _ = false

-- the core state by three questions: does its condition hold, is it unacknowledged, does it ask for the operator
pub record IsLeft (now next : ℕ) (action : Action) (a : Attr) (s : State) (o : Outcome) : Type 0 where
  pub condition : (row_left o).active ≡ condition_left action a s.active
  pub shelving : (row_left o).shelved_until ≡ shelving_left now action s.shelved_until
  pub design : (row_left o).by_design ≡ design_left action s.by_design
  pub service : (row_left o).out_of_service ≡ service_left action s.out_of_service
  pub suits : suits a.latching (row_left o).core ≡ true
  pub holds : is_active_core (row_left o).core ≡ is_active_left now action a s
  pub waits : is_unacknowledged (row_left o).core ≡ is_unacknowledged_left now action a s
  pub asks : is_annunciated (row_left o).core ≡ asks_left now action a s
  pub stamp : (row_left o).stamp ≡ stamp_left now next action a s
  pub annunciated : annunciates o ≡ is_annunciated_then now action a s
  pub shelved : is_shelved_then o ≡ shelves action
