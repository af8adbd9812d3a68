-- Which actions are taken.
use Rattle.std.specs.Prelude.{◌≡◌, ◌<◌, Bool, true, not, ◌&&◌, Some, is_some, nat_le, ◌==◌, slice_get}
use Rattle.std.specs.Ordering.{int_eq}
use Rattle.alm_types.specs.declared.attr.Attr.{Attr}
use Rattle.alm_types.specs.declared.action.Action.{Action}
use Rattle.alm_types.specs.declared.action.Action.TheVariants.{Clock, Value, Ack, Reset, Shelve, Unshelve, Oos, Design, SetPriority, SetSetpoint}
use Rattle.alm_types.specs.declared.request.Request.{Request}
use Rattle.alm_types.specs.declared.want.Want.{Want}
use Rattle.alm_types.specs.declared.want.Want.TheVariants.{Do, AckSeen}
use Rattle.alm_types.specs.Wants.{wanted_action}
use Rattle.alm_types.specs.Actions.{alarm_of}
use Rattle.alm_types.specs.Sizes.{most_actions}
use Rattle.alm_types.specs.Slots.{role_of}
use Rattle.alm_state.specs.Rows.{State}
use Rattle.alm_model.specs.Plant.{Panel}
use Rattle.alm_model.specs.Lists.{stamp_of}
use Rattle.alm_laws.specs.Alarm.{is_unacknowledged, is_latched}
use Rattle.alm_laws.specs.Left.{condition_left}
use Rattle.alm_laws.specs.Plant.{asker_of}
use Rattle.alm_laws.specs.Table.{agree}

-- What an alarm takes. A value that changes its condition; ACK if it is unacknowledged; RESET if it is latched and acknowledged.
-- A shelving of 1 second up to its longest, if it isn't shelved; UNSHELVE if it is.
-- Out of service or by design, if that changes; another priority of 1 to 4; another setpoint.
abbrev pub is_taken : Action → Attr → State → Bool
is_taken (Clock t) a s = true
is_taken (Value i value) a s = not (agree (condition_left (Value i value) a s.active) s.active)
is_taken (Ack i) a s = is_unacknowledged s.core
is_taken (Reset i) a s = is_latched s.core && not (is_unacknowledged s.core)
is_taken (Shelve i seconds) a s = not (is_some s.shelved_until) && nat_le 1 seconds && nat_le seconds a.max_shelve
is_taken (Unshelve i) a s = is_some s.shelved_until
is_taken (Oos i on) a s = not (agree on s.out_of_service)
is_taken (Design i on) a s = not (agree on s.by_design)
is_taken (SetPriority i priority) a s = nat_le 1 priority && nat_le priority 4 && not (priority == a.priority)
is_taken (SetSetpoint i setpoint) a s = not (int_eq setpoint a.setpoint)

-- the action is possible: CLOCK names a later moment, any other an alarm that takes it
abbrev pub IsPossible : Panel → Action → Type 0
IsPossible p (Clock t) = p.now < t
IsPossible p action =
    (a : Attr) × (s : State) × (slice_get p.attrs (alarm_of action) ≡ Some a) × (slice_get p.rows (alarm_of action) ≡ Some s) × (is_taken action a s ≡ true)

-- if an annunciation is named, it is the one that stands
abbrev pub NamesStanding : Panel → Want → Type 0
NamesStanding p (Do a) = Unit {0}
NamesStanding p (AckSeen i stamp) = stamp_of p i.0 ≡ stamp

-- a request is accepted if its slot may ask for the action, it is possible, action numbers are left, and it names no past annunciation
pub record IsAcceptable (p : Panel) (r : Request) : Type 0 where
  pub asker : role_of r.slot ≡ asker_of (wanted_action r)
  pub possible : IsPossible p (wanted_action r)
  pub number : p.count < most_actions
  pub standing : NamesStanding p r.want
