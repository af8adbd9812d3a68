-- What an action can hold.
use Rattle.std.specs.Prelude.{ℕ, ◌^◌, ◌<◌}
use Rattle.alm_types.specs.declared.action.Action.{Action}
use Rattle.alm_types.specs.declared.action.Action.TheVariants.{Clock, Value, Ack, Reset, Shelve, Unshelve, Oos, Design, SetPriority, SetSetpoint}
use Rattle.alm_types.specs.Readings.{IsReading}

-- the alarm that an action names
abbrev pub alarm_of : Action → ℕ
alarm_of (Clock t) = 0
alarm_of (Value i v) = i.0
alarm_of (Ack i) = i.0
alarm_of (Reset i) = i.0
alarm_of (Shelve i seconds) = i.0
alarm_of (Unshelve i) = i.0
alarm_of (Oos i on) = i.0
alarm_of (Design i on) = i.0
alarm_of (SetPriority i priority) = i.0
alarm_of (SetSetpoint i setpoint) = i.0

-- the argument besides the alarm is within its type
abbrev pub HasArgument : Action → Type 0
HasArgument (Clock t) = t < 2 ^ 40
HasArgument (Value i v) = IsReading v
HasArgument (Ack i) = Unit {0}
HasArgument (Reset i) = Unit {0}
HasArgument (Shelve i seconds) = seconds < 2 ^ 32
HasArgument (Unshelve i) = Unit {0}
HasArgument (Oos i on) = Unit {0}
HasArgument (Design i on) = Unit {0}
HasArgument (SetPriority i priority) = priority < 2 ^ 32
HasArgument (SetSetpoint i setpoint) = IsReading setpoint

-- the numbers of an action are within their types
pub record IsAction (a : Action) : Type 0 where
  pub alarm : alarm_of a < 2 ^ 32
  pub argument : HasArgument a
