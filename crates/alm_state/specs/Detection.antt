-- The detection table: when an alarm's condition comes and goes.
use Rattle.std.specs.Prelude.{ℕ, ℤ, pos, ◌-ℤ◌, ◌+ℤ◌, int_le, int_lt, Bool, true, false, not, Option, Some, None, if◌then◌else◌}
use Rattle.std.specs.Ordering.{int_eq}
use Rattle.alm_types.specs.declared.attr.Attr.{Attr}
use Rattle.alm_types.specs.declared.kind.Kind.{Kind}
use Rattle.alm_types.specs.declared.kind.Kind.TheVariants.{High, Low, Discrete}

-- whether the condition of an inactive alarm comes at a value
abbrev pub comes : Kind → ℤ → ℤ → Bool
comes High setpoint value = int_le setpoint value
comes Low setpoint value = int_le value setpoint
comes Discrete setpoint value = int_eq value setpoint

-- whether that of an active alarm goes
abbrev pub goes : Kind → ℤ → ℕ → ℤ → Bool
goes High setpoint deadband value = int_lt value (setpoint -ℤ pos deadband)
goes Low setpoint deadband value = int_lt (setpoint +ℤ pos deadband) value
goes Discrete setpoint deadband value = not (int_eq value setpoint)

-- the new condition, if the value changes it
abbrev pub detection_of : Attr → Bool → ℤ → Option Bool
detection_of attr false value = if comes attr.kind attr.setpoint value then Some true else None
detection_of attr true value = if goes attr.kind attr.setpoint attr.deadband value then Some false else None
