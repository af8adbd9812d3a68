-- Which reasons stand against a request, in their order.
use Rattle.std.specs.Prelude.{List, [], ◌∷◌, ◌++◌, Bool, true, false, not, ◌&&◌, Option, Some, Result, Ok, Err, is_some, nat_le, nat_lt, ◌==◌, slice_get}
use Rattle.std.specs.Ordering.{int_eq}
use Rattle.alm_types.specs.declared.attr.Attr.{Attr}
use Rattle.alm_types.specs.declared.action.Action.{Action}
use Rattle.alm_types.specs.declared.action.Action.TheVariants.{Clock, Value, Ack, Reset, Shelve, Unshelve, Oos, Design, SetPriority, SetSetpoint}
use Rattle.alm_types.specs.declared.refusal.Refusal.{Refusal}
use Rattle.alm_types.specs.declared.refusal.Refusal.TheVariants.{NoSuchAlarm, NotUnacknowledged, NotResettable, AlreadyShelved, NotShelved, ShelveLength, AlreadySet, NotSet, NoChange, ClockBack, WrongRole, Busy, BadLine, LineTooLong, Stopped, OutOfMemory, NoSuchList, Exhausted, PriorityRange, SameValue, Forgotten, AnnunciatedAgain}
use Rattle.alm_types.specs.declared.request.Request.{Request}
use Rattle.alm_types.specs.declared.want.Want.{Want}
use Rattle.alm_types.specs.declared.want.Want.TheVariants.{Do, AckSeen}
use Rattle.alm_types.specs.Wants.{wanted_action}
use Rattle.alm_types.specs.declared.role.Role.{Role}
use Rattle.alm_types.specs.declared.role.Role.TheVariants as role
use Rattle.alm_types.specs.Actions.{alarm_of}
use Rattle.alm_types.specs.Sizes.{most_actions}
use Rattle.alm_types.specs.Slots.{role_of}
use Rattle.alm_state.specs.Rows.{State}
use Rattle.alm_model.specs.Plant.{Panel}
use Rattle.alm_model.specs.Lists.{stamp_of}
use Rattle.alm_laws.specs.Alarm.{is_unacknowledged, is_latched}
use Rattle.alm_laws.specs.Left.{condition_left}
use Rattle.alm_laws.specs.Plant.{asker_of}
use Rattle.alm_laws.specs.Table.{agree}

-- a reason that stands if a test is passed
abbrev pub where_so : Bool → Refusal → List Refusal
where_so true reason = reason ∷ []
where_so false reason = []

-- what an alarm has against an action: of SHELVE the shelving comes before the seconds, of PRIO the limits before the present value
abbrev pub alarm_reasons : Action → Attr → State → List Refusal
alarm_reasons (Clock t) a s = []
alarm_reasons (Value i value) a s = where_so (agree (condition_left (Value i value) a s.active) s.active) NoChange
alarm_reasons (Ack i) a s = where_so (not (is_unacknowledged s.core)) NotUnacknowledged
alarm_reasons (Reset i) a s = where_so (not (is_latched s.core && not (is_unacknowledged s.core))) NotResettable
alarm_reasons (Shelve i seconds) a s = where_so (is_some s.shelved_until) AlreadyShelved ++ where_so (not (nat_le 1 seconds && nat_le seconds a.max_shelve)) ShelveLength
alarm_reasons (Unshelve i) a s = where_so (not (is_some s.shelved_until)) NotShelved
alarm_reasons (Oos i on) a s = where_so (on && s.out_of_service) AlreadySet ++ where_so (not on && not s.out_of_service) NotSet
alarm_reasons (Design i on) a s = where_so (on && s.by_design) AlreadySet ++ where_so (not on && not s.by_design) NotSet
alarm_reasons (SetPriority i priority) a s = where_so (not (nat_le 1 priority && nat_le priority 4)) PriorityRange ++ where_so (priority == a.priority) SameValue
alarm_reasons (SetSetpoint i setpoint) a s = where_so (int_eq setpoint a.setpoint) SameValue

abbrev pub reasons_at : Action → Option Attr → Option State → List Refusal
reasons_at action (Some a) (Some s) = alarm_reasons action a s
reasons_at action _ _ = NoSuchAlarm ∷ []

-- what the clock or the alarm that is named has against it
abbrev pub own_reasons : Panel → Action → List Refusal
own_reasons p (Clock t) = where_so (nat_le t p.now) ClockBack
own_reasons p action = reasons_at action (slice_get p.attrs (alarm_of action)) (slice_get p.rows (alarm_of action))

abbrev pub same_role : Role → Role → Bool
same_role role.Console role.Console = true
same_role role.Feed role.Feed = true
same_role role.Clock role.Clock = true
same_role _ _ = false

-- the alarm was annunciated again since the annunciation that is to be acknowledged
abbrev pub stamp_reasons : Panel → Want → List Refusal
stamp_reasons p (Do a) = []
stamp_reasons p (AckSeen i stamp) = where_so (not (stamp_of p i.0 == stamp)) AnnunciatedAgain

-- all of them: the slot's role, then these, then that no action number is left, and last the stamp
abbrev pub reasons : Panel → Request → List Refusal
reasons p r =
    where_so (not (same_role (role_of r.slot) (asker_of (wanted_action r)))) WrongRole ++ own_reasons p (wanted_action r) ++ where_so (not (nat_lt p.count most_actions)) Exhausted ++ stamp_reasons p r.want

-- a request is accepted without a reason against it, and else refused for the first
abbrev pub by_first_reason : Action → List Refusal → Result Action Refusal
by_first_reason action [] = Ok action
by_first_reason action (first ∷ others) = Err first

-- the refusals in the order of their numbers, from 1 on
abbrev pub all_refusals : List Refusal
all_refusals =
    NoSuchAlarm ∷ NotUnacknowledged ∷ NotResettable ∷ AlreadyShelved ∷ NotShelved ∷ ShelveLength ∷ AlreadySet ∷ NotSet ∷ NoChange ∷ ClockBack
    ∷ WrongRole ∷ Busy ∷ BadLine ∷ LineTooLong ∷ Stopped ∷ OutOfMemory ∷ NoSuchList ∷ Exhausted ∷ PriorityRange ∷ SameValue ∷ Forgotten ∷ AnnunciatedAgain ∷ []
