-- What an action makes of an alarm, and why the alarm refuses it.
use Rattle.std.specs.Prelude.{ℕ, ℤ, ◌+◌, Bool, true, false, not, ◌||◌, ◌&&◌, Option, Some, None, is_some, is_none, nat_le, nat_lt, ◌==◌, if◌then◌else◌}
use Rattle.std.specs.Ordering.{int_eq}
use Rattle.alm_types.specs.declared.attr.Attr.{Attr}
use Rattle.alm_types.specs.Changes.{with_priority, with_setpoint}
use Rattle.alm_types.specs.declared.action.Action.{Action}
use Rattle.alm_types.specs.declared.action.Action.TheVariants.{Clock, Value, Ack, Reset, Shelve, Unshelve, Oos, Design, SetPriority, SetSetpoint}
use Rattle.alm_types.specs.declared.refusal.Refusal.{Refusal}
use Rattle.alm_types.specs.declared.refusal.Refusal.TheVariants.{NotUnacknowledged, NotResettable, AlreadyShelved, NotShelved, ShelveLength, AlreadySet, NotSet, NoChange, PriorityRange, SameValue}
use Rattle.alm_state.specs.Rows.{State, is_suppressed, is_annunciated}
use Rattle.alm_state.specs.Table.{next_core}
use Rattle.alm_state.specs.Detection.{detection_of}
use Rattle.alm_state.specs.declared.core_state.Core.{Core}
use Rattle.alm_state.specs.declared.core_state.Core.TheVariants.{Normal, Unack}
use Rattle.alm_state.specs.declared.happening.Happening.{Happening}
use Rattle.alm_state.specs.declared.happening.Happening.TheVariants as happening
use Rattle.alm_state.specs.declared.outcome.Outcome.{Outcome}
use Rattle.alm_state.specs.declared.outcome.Outcome.TheVariants.{Changed, Annunciated, Shelved}

-- a refusal if the test fails
abbrev pub unless : Bool → Refusal → Option Refusal
unless passed refusal = if passed then None else Some refusal

-- the first of two refusals
abbrev pub or_else : Option Refusal → Option Refusal → Option Refusal
or_else None later = later
or_else (Some first) later = Some first

-- why a flag is not set or cleared
abbrev pub flag_refusal : Bool → Bool → Option Refusal
flag_refusal true true = Some AlreadySet
flag_refusal false false = Some NotSet
flag_refusal true false = None
flag_refusal false true = None

-- why an alarm takes no such priority: it is none, or the present one
abbrev pub priority_refusal : Attr → ℕ → Option Refusal
priority_refusal a priority = or_else (unless (nat_le 1 priority && nat_le priority 4) PriorityRange) (unless (not (priority == a.priority)) SameValue)

-- why it takes no such setpoint: it is the present one
abbrev pub setpoint_refusal : Attr → ℤ → Option Refusal
setpoint_refusal a setpoint = unless (not (int_eq setpoint a.setpoint)) SameValue

-- why the alarm that an action names refuses it
abbrev pub row_refusal : Action → Attr → State → Option Refusal
row_refusal (Clock t) a s = None
row_refusal (Value i v) a s = unless (is_some (detection_of a s.active v)) NoChange
row_refusal (Ack i) a s = unless (is_some (next_core a.latching happening.Ack s.core)) NotUnacknowledged
row_refusal (Reset i) a s = unless (is_some (next_core a.latching happening.Reset s.core)) NotResettable
row_refusal (Shelve i seconds) a s =
    or_else (unless (is_none s.shelved_until) AlreadyShelved) (unless (not (seconds == 0 || nat_lt a.max_shelve seconds)) ShelveLength)
row_refusal (Unshelve i) a s = unless (is_some s.shelved_until) NotShelved
row_refusal (Oos i on) a s = flag_refusal on s.out_of_service
row_refusal (Design i on) a s = flag_refusal on s.by_design
row_refusal (SetPriority i priority) a s = priority_refusal a priority
row_refusal (SetSetpoint i setpoint) a s = setpoint_refusal a setpoint

-- the row annunciated again, with the next stamp
abbrev pub annunciated_anew : ℕ → State → Outcome
annunciated_anew stamp s = Annunciated (record s { core = Unack; stamp = stamp })

-- the row in another core state; what is no longer annunciated has no stamp
abbrev pub in_core : Core → State → State
in_core c s = record s { core = c; stamp = if is_annunciated c then s.stamp else 0 }

-- the row after a transition of the table of the core states; only a condition that comes leads to Unack
abbrev pub after_transition : ℕ → Option Core → State → Outcome
after_transition stamp None s = Changed s
after_transition stamp (Some Unack) s = annunciated_anew stamp s
after_transition stamp (Some c) s = Changed (in_core c s)

-- the row under changed flags: Normal while one is set; when none is set any more, an active alarm is annunciated again
abbrev pub after_flags : ℕ → State → Outcome
after_flags stamp s =
    if is_suppressed s then Changed (record s { core = Normal; stamp = if is_some s.shelved_until then s.stamp else 0 })
    else if s.active then annunciated_anew stamp s
    else Changed (record s { core = Normal; stamp = 0 })

abbrev pub without_shelving : ℕ → State → Outcome
without_shelving stamp s = after_flags stamp (record s { shelved_until = None })

-- the row after its condition came or went; under a flag the condition is only followed
abbrev pub after_condition : ℕ → Attr → State → Option Bool → Outcome
after_condition stamp a s None = Changed s
after_condition stamp a s (Some active) =
    if is_suppressed s then Changed (record s { active = active })
    else after_transition stamp (next_core a.latching (if active then happening.Comes else happening.Goes) s.core) (record s { active = active })

-- what an action at a moment makes of the alarm that it names, if this is the next stamp
abbrev pub outcome : ℕ → ℕ → Action → Attr → State → Outcome
outcome now stamp (Clock t) a s = Changed s
outcome now stamp (Value i v) a s = after_condition stamp a s (detection_of a s.active v)
outcome now stamp (Ack i) a s = after_transition stamp (next_core a.latching happening.Ack s.core) s
outcome now stamp (Reset i) a s = after_transition stamp (next_core a.latching happening.Reset s.core) s
outcome now stamp (Shelve i seconds) a s = Shelved (record s { core = Normal; shelved_until = Some (now + seconds); stamp = stamp })
outcome now stamp (Unshelve i) a s = without_shelving stamp s
outcome now stamp (Oos i on) a s = after_flags stamp (record s { out_of_service = on })
outcome now stamp (Design i on) a s = after_flags stamp (record s { by_design = on })
outcome now stamp (SetPriority i priority) a s = Changed s
outcome now stamp (SetSetpoint i setpoint) a s = Changed s

-- the attributes that an action leaves the alarm that it names
abbrev pub attr_after : Action → Attr → Attr
attr_after (SetPriority i priority) a = with_priority priority a
attr_after (SetSetpoint i setpoint) a = with_setpoint setpoint a
attr_after _ a = a

-- whether the condition holds after something happened
abbrev pub active_after : Happening → Bool → Bool
active_after happening.Comes active = true
active_after happening.Goes active = false
active_after happening.Ack active = active
active_after happening.Reset active = active
