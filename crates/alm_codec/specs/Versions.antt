-- What there is in a version.
use Rattle.std.specs.Prelude.{◌≡◌, ℕ, ◌+◌, List, [], Bool, true, false, not, All, Option, Some, None, nat_le, ◌==◌, if◌then◌else◌}
use Rattle.std.specs.Int.{w32, to_be_bytes}
use Rattle.alm_types.specs.declared.action.Action.{Action}
use Rattle.alm_types.specs.declared.action.Action.TheVariants.{SetPriority, SetSetpoint}
use Rattle.alm_types.specs.Sizes.{slot_count}
use Rattle.alm_sum.specs.Crc.{checksum_of}
use Rattle.alm_codec.specs.declared.asked.Asked.{Asked}
use Rattle.alm_codec.specs.declared.version.Version.{Version}
use Rattle.alm_codec.specs.declared.version.Version.TheVariants.{V01, V02, V03}

-- an action that each version has
abbrev pub is_early : Action → Bool
is_early (SetPriority i priority) = false
is_early (SetSetpoint i setpoint) = false
is_early _ = true

-- versions 02 and 03 have all of them
abbrev pub bears : Version → Action → Bool
bears V01 a = is_early a
bears V02 a = true
bears V03 a = true

-- a version with all actions
abbrev pub is_full : Version → Bool
is_full V01 = false
is_full V02 = true
is_full V03 = true

-- the version of the half that a checkpoint writes, by that of the half that stands: version 01 becomes 02
abbrev pub newer : Version → Version
newer V01 = V02
newer V02 = V02
newer V03 = V03

abbrev pub IsBorne : Version → Action → Type 0
IsBorne version a = bears version a ≡ true

abbrev pub AreBorne : Version → List Action → Type 0
AreBorne version actions = All (IsBorne version) actions

-- an action that is read, if the version has it
abbrev pub borne : Version → Option Action → Option Action
borne version None = None
borne version (Some a) = if bears version a then Some a else None

-- a gate is open at one value alone; in version 03 it is closed at one value alone
abbrev pub is_open : Version → ℕ → Bool
is_open V01 gate = gate == 165
is_open V02 gate = gate == 165
is_open V03 gate = not (gate == 90)

-- a gate that is written closed
abbrev pub closed_gate : Version → ℕ
closed_gate V01 = 0
closed_gate V02 = 0
closed_gate V03 = 90

-- version 03 has checksums, of four bytes each
abbrev pub sum_text : Version → List ℕ → List ℕ
sum_text V01 text = []
sum_text V02 text = []
sum_text V03 text = to_be_bytes w32 (checksum_of text)

abbrev pub sum_len : Version → ℕ
sum_len V01 = 0
sum_len V02 = 0
sum_len V03 = 4

-- Who asked for an action: a slot's number and one, or 0 if that isn't said. Before version 03 it isn't.
abbrev pub is_asker : Version → ℕ → Bool
is_asker V01 asker = asker == 0
is_asker V02 asker = asker == 0
is_asker V03 asker = nat_le asker slot_count

abbrev pub IsSaid : Version → Asked → Type 0
IsSaid version x = is_asker version x.asker ≡ true

-- who asked, as far as a version says it
abbrev pub asker_in : Version → ℕ → ℕ
asker_in V01 slot = 0
asker_in V02 slot = 0
asker_in V03 slot = slot + 1
