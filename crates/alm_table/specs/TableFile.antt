-- What the tree of a table file says: the size of the device and the table, or the first thing that is wrong.
use Rattle.std.specs.Prelude.{ℕ, suc, ◌+◌, ◌-◌, ◌||◌, ◌&&◌, Bool, true, false, if◌then◌else◌, List, [], ◌∷◌, ℤ, pos, Option, Some, None, codes, nat_le, option_and_then, bytes_eq, Result, Ok, Err}
use Rattle.toml.specs.Data.{Data, integer, table, Items, no_items, item, Members, no_members, member, get_member, as_str, as_bool, as_integer, as_array}
use Rattle.alm_types.specs.Attributes.{deadband_limit}
use Rattle.alm_types.specs.Readings.{is_reading}
use Rattle.alm_types.specs.Texts.{is_tag, is_text}
use Rattle.alm_types.specs.declared.kind.Kind.{Kind}
use Rattle.alm_types.specs.declared.kind.Kind.TheVariants.{High, Low, Discrete}
use Rattle.alm_types.specs.declared.settings.Settings.{Settings}
use Rattle.alm_types.specs.Sizes.{most_alarms, most_areas}

-- what is wrong: a key of an alarm, or of the file itself, or the number of the alarms
pub data Misfit : Type 0 where
  key : Option ℕ → List ℕ → Misfit
  rows : Misfit

-- the file's own keys, and those of an alarm
abbrev pub is_key : Option ℕ → List ℕ → Bool
is_key None k = bytes_eq k (codes "size") || bytes_eq k (codes "areas") || bytes_eq k (codes "alarm")
is_key (Some i) k = bytes_eq k (codes "kind") || bytes_eq k (codes "setpoint") || bytes_eq k (codes "priority") || bytes_eq k (codes "area") || bytes_eq k (codes "deadband") || bytes_eq k (codes "max_shelve") || bytes_eq k (codes "latching") || bytes_eq k (codes "tag") || bytes_eq k (codes "text")

-- the first unknown key, since members are in the order of their bytes
abbrev pub first_unknown : (List ℕ → Bool) → Members → Option (List ℕ)
first_unknown if_known no_members = None
first_unknown if_known (member k d ms) = if if_known k then first_unknown if_known ms else Some k

-- a value, if it exists and a test holds
abbrev pub only_if : {A : Type 0} → (A → Bool) → A → Option A
only_if holds a = if holds a then Some a else None

-- values of the keys
abbrev pub natural : ℕ → ℕ → Data → Option ℕ
natural least most (integer (pos n)) = only_if (λ m. nat_le least m && nat_le m most) n
natural least most _ = None

abbrev pub reading_of_data : Data → Option ℤ
reading_of_data d = option_and_then (only_if is_reading) (as_integer d)

abbrev pub kind_named : List ℕ → Option Kind
kind_named t = if bytes_eq t (codes "high") then Some High else if bytes_eq t (codes "low") then Some Low else if bytes_eq t (codes "discrete") then Some Discrete else None

abbrev pub kind_of_data : Data → Option Kind
kind_of_data d = option_and_then kind_named (as_str d)

abbrev pub tag_of_data : Data → Option (List ℕ)
tag_of_data d = option_and_then (only_if is_tag) (as_str d)

abbrev pub text : Data → Option (List ℕ)
text d = option_and_then (only_if is_text) (as_str d)

abbrev pub are_tables : Items → Bool
are_tables no_items = true
are_tables (item (table ms) ds) = are_tables ds
are_tables (item _ ds) = false

abbrev pub tables : Data → Option Items
tables d = option_and_then (only_if are_tables) (as_array d)

-- one thing after the other, up to the first that is wrong
abbrev pub and_then : {A B : Type 0} → Result A Misfit → (A → Result B Misfit) → Result B Misfit
and_then (Ok a) f = f a
and_then (Err e) f = Err e

abbrev pub known_but : Option ℕ → Option (List ℕ) → Result (List ℕ) Misfit
known_but alarm None = Ok []
known_but alarm (Some k) = Err (key alarm k)

abbrev pub if_known : Option ℕ → Members → Result (List ℕ) Misfit
if_known alarm ms = known_but alarm (first_unknown (is_key alarm) ms)

-- the value of a key, or a default if the key is missing
abbrev pub value_or : {A : Type 0} → Option A → (Data → Option A) → Option Data → Option A
value_or absent reads None = absent
value_or absent reads (Some d) = reads d

abbrev pub needed_value : {A : Type 0} → Option ℕ → List ℕ → Option A → Result A Misfit
needed_value alarm k None = Err (key alarm k)
needed_value alarm k (Some a) = Ok a

abbrev pub field : {A : Type 0} → Option ℕ → Members → List ℕ → Option A → (Data → Option A) → Result A Misfit
field alarm ms k absent reads = needed_value alarm k (value_or absent reads (get_member k ms))

-- an alarm
pub record AlarmEntry : Type 0 where
  pub settings : Settings
  pub tag : List ℕ
  pub text : List ℕ

abbrev pub read_alarm : ℕ → ℕ → Members → Result AlarmEntry Misfit
read_alarm i areas ms =
    and_then (if_known (Some i) ms) (λ _.
    and_then (field (Some i) ms (codes "kind") None kind_of_data) (λ kind.
    and_then (field (Some i) ms (codes "setpoint") None reading_of_data) (λ setpoint.
    and_then (field (Some i) ms (codes "priority") None (natural 1 4)) (λ priority.
    and_then (field (Some i) ms (codes "area") None (natural 0 (areas - 1))) (λ area.
    and_then (field (Some i) ms (codes "deadband") (Some 0) (natural 0 (deadband_limit kind))) (λ deadband.
    and_then (field (Some i) ms (codes "max_shelve") (Some 0) (natural 0 604800)) (λ max_shelve.
    and_then (field (Some i) ms (codes "latching") (Some false) as_bool) (λ latching.
    and_then (field (Some i) ms (codes "tag") None tag_of_data) (λ tag.
    and_then (field (Some i) ms (codes "text") (Some []) text) (λ text.
    Ok (record { settings = record { kind = kind; setpoint = setpoint; deadband = deadband; priority = priority; area = area; latching = latching; max_shelve = max_shelve }; tag = tag; text = text })))))))))))

abbrev pub members_in : Data → Members
members_in (table ms) = ms
members_in _ = no_members

-- the alarms by number
abbrev pub read_alarms : ℕ → ℕ → Items → Result (List AlarmEntry) Misfit
read_alarms i areas no_items = Ok []
read_alarms i areas (item d ds) = and_then (read_alarm i areas (members_in d)) (λ a. and_then (read_alarms (i + 1) areas ds) (λ later. Ok (a ∷ later)))

abbrev pub count : Items → ℕ
count no_items = 0
count (item d ds) = suc (count ds)

abbrev pub in_number : Items → Result Items Misfit
in_number ds = if nat_le 1 (count ds) && nat_le (count ds) most_alarms then Ok ds else Err rows

-- what a file says
pub record DeviceTable : Type 0 where
  pub size : ℕ
  pub areas : ℕ
  pub alarms : List AlarmEntry

abbrev pub read_file : Members → Result DeviceTable Misfit
read_file ms =
    and_then (if_known None ms) (λ _.
    and_then (field None ms (codes "size") None (natural 1 1099511627776)) (λ size.
    and_then (field None ms (codes "areas") None (natural 1 most_areas)) (λ areas.
    and_then (field None ms (codes "alarm") None tables) (λ ds.
    and_then (in_number ds) (λ _.
    and_then (read_alarms 0 areas ds) (λ alarms.
    Ok (record { size = size; areas = areas; alarms = alarms })))))))
