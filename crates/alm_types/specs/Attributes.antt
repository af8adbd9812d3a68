-- Which attributes an alarm may have.
use Rattle.std.specs.Prelude.{ℕ, List, ◌&&◌, Option, Some, None, nat_le, nat_lt, if◌then◌else◌}
use Rattle.alm_types.specs.Readings.{is_reading}
use Rattle.alm_types.specs.Texts.{is_tag, is_text}
use Rattle.alm_types.specs.declared.kind.Kind.{Kind}
use Rattle.alm_types.specs.declared.kind.Kind.TheVariants.{High, Low, Discrete}
use Rattle.alm_types.specs.declared.settings.Settings.{Settings}
use Rattle.alm_types.specs.declared.attr_fault.AttrFault.{AttrFault}
use Rattle.alm_types.specs.declared.attr_fault.AttrFault.TheVariants.{Setpoint, Deadband, Priority, Area, MaxShelve, Tag, Text}
use Rattle.alm_types.specs.Sizes.{most_areas}

-- the greatest deadband of a kind
abbrev pub deadband_limit : Kind → ℕ
deadband_limit High = 1000000000000
deadband_limit Low = 1000000000000
deadband_limit Discrete = 0

-- the first attribute out of its limits
abbrev pub attr_fault : Settings → List ℕ → List ℕ → Option AttrFault
attr_fault s tag text =
    if is_reading s.setpoint then
    if nat_le s.deadband (deadband_limit s.kind) then
    if nat_le 1 s.priority && nat_le s.priority 4 then
    if nat_lt s.area most_areas then
    if nat_le s.max_shelve 604800 then
    if is_tag tag then
    if is_text text then None
    else Some Text
    else Some Tag
    else Some MaxShelve
    else Some Area
    else Some Priority
    else Some Deadband
    else Some Setpoint
