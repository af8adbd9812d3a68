-- Which requests are accepted.
use Rattle.std.specs.Prelude.{Bool, true, false, Option, Some, None, Result, Ok, Err, slice_get, nat_lt, ◌==◌}
use Rattle.alm_types.specs.declared.attr.Attr.{Attr}
use Rattle.alm_types.specs.declared.role.Role.{Role}
use Rattle.alm_types.specs.declared.role.Role.TheVariants as role
use Rattle.alm_types.specs.declared.action.Action.{Action}
use Rattle.alm_types.specs.declared.action.Action.TheVariants.{Clock, Value, Ack, Reset, Shelve, Unshelve, Oos, Design, SetPriority, SetSetpoint}
use Rattle.alm_types.specs.declared.request.Request.{Request}
use Rattle.alm_types.specs.declared.want.Want.{Want}
use Rattle.alm_types.specs.declared.want.Want.TheVariants.{Do, AckSeen}
use Rattle.alm_types.specs.declared.refusal.Refusal.{Refusal}
use Rattle.alm_types.specs.declared.refusal.Refusal.TheVariants.{NoSuchAlarm, ClockBack, WrongRole, Exhausted, AnnunciatedAgain}
use Rattle.alm_types.specs.Actions.{alarm_of}
use Rattle.alm_types.specs.Slots.{role_of}
use Rattle.alm_types.specs.Wants.{wanted_action}
use Rattle.alm_state.specs.Rows.{State}
use Rattle.alm_state.specs.Outcome.{row_refusal, or_else, unless}
use Rattle.alm_model.specs.Plant.{Panel}
use Rattle.alm_model.specs.Lists.{stamp_of}
use Rattle.alm_types.specs.Sizes.{most_actions}

-- the feed sends values and suppresses by design, the clock moves the time, a console does the rest
abbrev pub may_ask : Role → Action → Bool
may_ask role.Clock (Clock t) = true
may_ask role.Feed (Value i v) = true
may_ask role.Feed (Design i on) = true
may_ask role.Console (Ack i) = true
may_ask role.Console (Reset i) = true
may_ask role.Console (Shelve i s) = true
may_ask role.Console (Unshelve i) = true
may_ask role.Console (Oos i on) = true
may_ask role.Console (SetPriority i priority) = true
may_ask role.Console (SetSetpoint i setpoint) = true
may_ask _ _ = false

-- why an alarm refuses an action, or that there is no such alarm
abbrev pub alarm_refusal : Action → Option Attr → Option State → Option Refusal
alarm_refusal action (Some a) (Some s) = row_refusal action a s
alarm_refusal action _ _ = Some NoSuchAlarm

-- why the clock or the alarm that is named refuses an action
abbrev pub own_refusal : Panel → Action → Option Refusal
own_refusal p (Clock t) = unless (nat_lt p.now t) ClockBack
own_refusal p action = alarm_refusal action (slice_get p.attrs (alarm_of action)) (slice_get p.rows (alarm_of action))

-- why an action is refused, whoever asks; the last possible reason is that no action numbers are left
abbrev pub refusal : Panel → Action → Option Refusal
refusal p action = or_else (own_refusal p action) (unless (nat_lt p.count most_actions) Exhausted)

-- a value, or the reason against it
abbrev pub answer : {A : Type 0} → A → Option Refusal → Result A Refusal
answer a None = Ok a
answer a (Some r) = Err r

-- why the acknowledgement of one annunciation is refused: the alarm has another stamp
abbrev pub stamp_refusal : Panel → Want → Option Refusal
stamp_refusal p (Do a) = None
stamp_refusal p (AckSeen i stamp) = unless (stamp_of p i.0 == stamp) AnnunciatedAgain

abbrev pub accept : Panel → Request → Result Action Refusal
accept p r =
    answer (wanted_action r) (or_else (unless (may_ask (role_of r.slot) (wanted_action r)) WrongRole) (or_else (refusal p (wanted_action r)) (stamp_refusal p r.want)))
