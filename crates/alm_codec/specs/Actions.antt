-- The texts of actions, 16 bytes each.
use Rattle.std.specs.Prelude.{ℕ, zero, ◌^◌, List, [], ◌∷◌, ◌++◌, length, Bool, true, false, ◌&&◌, Option, Some, None, option_map, ℤ, nat_lt, ◌==◌, if◌then◌else◌}
use Rattle.std.specs.Int.{w32, w64, to_be_bytes, from_be_bytes, cast_unsigned, cast_signed}
use Rattle.alm_types.specs.declared.action.Action.{Action}
use Rattle.alm_types.specs.declared.action.Action.TheVariants.{Clock, Value, Ack, Reset, Shelve, Unshelve, Oos, Design, SetPriority, SetSetpoint}
use Rattle.alm_types.specs.declared.alarm_id.AlarmId.{AlarmId}
use Rattle.alm_types.specs.Actions.{alarm_of}
use Rattle.alm_types.specs.Readings.{is_reading}
use Rattle.alm_codec.specs.declared.asked.Asked.{Asked}
use Rattle.alm_codec.specs.declared.version.Version.{Version}
use Rattle.alm_codec.specs.declared.version.Version.TheVariants.{V01, V02, V03}
use Rattle.alm_codec.specs.Versions.{borne, is_asker}

-- ---- the encoding

abbrev pub kind_of : Action → ℕ
kind_of (Clock t) = 1
kind_of (Value i v) = 2
kind_of (Ack i) = 3
kind_of (Reset i) = 4
kind_of (Shelve i seconds) = 5
kind_of (Unshelve i) = 6
kind_of (Oos i on) = 7
kind_of (Design i on) = 8
kind_of (SetPriority i priority) = 9
kind_of (SetSetpoint i v) = 10

-- 1 on, 0 off
abbrev pub switch_number : Bool → ℕ
switch_number true = 1
switch_number false = 0

abbrev pub argument_of : Action → ℕ
argument_of (Clock t) = t
argument_of (Value i v) = cast_unsigned w64 v
argument_of (Ack i) = 0
argument_of (Reset i) = 0
argument_of (Shelve i seconds) = seconds
argument_of (Unshelve i) = 0
argument_of (Oos i on) = switch_number on
argument_of (Design i on) = switch_number on
argument_of (SetPriority i priority) = priority
argument_of (SetSetpoint i v) = cast_unsigned w64 v

-- a text of a kind, who asked, an alarm and an argument
abbrev pub fields_text : (kind asker alarm argument : ℕ) → List ℕ
fields_text kind asker alarm argument = kind ∷ asker ∷ 0 ∷ 0 ∷ to_be_bytes w32 alarm ++ to_be_bytes w64 argument

-- an action and who asked for it
abbrev pub text_by : (asker : ℕ) → Action → List ℕ
text_by asker a = fields_text (kind_of a) asker (alarm_of a) (argument_of a)

-- an action that doesn't say who asked
abbrev pub action_text : Action → List ℕ
action_text a = text_by 0 a

-- an action in a frame; version 03 alone says who asked
abbrev pub asked_text : Version → Asked → List ℕ
asked_text V01 x = text_by 0 x.action
asked_text V02 x = text_by 0 x.action
asked_text V03 x = text_by x.asker x.action

-- ---- reading

-- the value of a 64-bit word, if it is within its limits
abbrev pub if_reading : ℤ → Option ℤ
if_reading v = if is_reading v then Some v else None

abbrev pub reading_at : ℕ → Option ℤ
reading_at word = if_reading (cast_signed w64 word)

-- an action that needs no argument
abbrev pub without_argument : ℕ → Action → Option Action
without_argument argument a = if argument == 0 then Some a else None

-- an action that sets or clears
abbrev pub either_way : ℕ → (Bool → Action) → Option Action
either_way argument a = if argument == 0 then Some (a false) else if argument == 1 then Some (a true) else None

abbrev pub meaning_for : ℕ → AlarmId → ℕ → Option Action
meaning_for kind i argument =
    if kind == 1 then (if (i.0 == 0) && nat_lt argument (2 ^ 40) then Some (Clock argument) else None)
    else if kind == 2 then option_map (Value i) (reading_at argument)
    else if kind == 3 then without_argument argument (Ack i)
    else if kind == 4 then without_argument argument (Reset i)
    else if kind == 5 then (if nat_lt argument (2 ^ 32) then Some (Shelve i argument) else None)
    else if kind == 6 then without_argument argument (Unshelve i)
    else if kind == 7 then either_way argument (Oos i)
    else if kind == 8 then either_way argument (Design i)
    else if kind == 9 then (if nat_lt argument (2 ^ 32) then Some (SetPriority i argument) else None)
    else if kind == 10 then option_map (SetSetpoint i) (reading_at argument)
    else None

abbrev pub action_meant : ℕ → ℕ → ℕ → Option Action
action_meant kind alarm argument = meaning_for kind (record { 0 = alarm }) argument

-- the action of any version whose text is all of these bytes, and doesn't say who asked
abbrev pub action_at : List ℕ → Option Action
action_at (kind ∷ zero ∷ zero ∷ zero ∷ a ∷ b ∷ c ∷ d ∷ rest) = if length rest == 8 then action_meant kind (from_be_bytes w32 (a ∷ b ∷ c ∷ d ∷ [])) (from_be_bytes w64 rest) else None
action_at _ = None

-- the action of a version
abbrev pub action_in : Version → List ℕ → Option Action
action_in version bytes = borne version (action_at bytes)

-- an action that someone asked for
abbrev pub asked_by : (asker : ℕ) → Option Action → Option Asked
asked_by asker o = option_map (λ a. record { asker = asker; action = a }) o

-- the same with who asked for it, as far as the version says it
abbrev pub asked_at : Version → List ℕ → Option Asked
asked_at version (kind ∷ asker ∷ rest) = if is_asker version asker then asked_by asker (action_in version (kind ∷ 0 ∷ rest)) else None
asked_at version _ = None

-- the action alone
abbrev pub action_read : Version → List ℕ → Option Action
action_read version bytes = option_map (λ x. x.action) (asked_at version bytes)
