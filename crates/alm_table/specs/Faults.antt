-- What a fault says of a table file.
use Rattle.std.specs.Prelude.{◌≡◌, IsUtf8, None, Some, map, ⊤, ℕ, List, Option, option_map, Result, Err, string_bytes}
use Rattle.toml.specs.Parse.{parse_document}
use Rattle.alm_types.specs.declared.attr.Attr.{Attr}
use Rattle.alm_types.specs.Tables.{Listing}
use Rattle.alm_table.specs.TableFile.{read_file, DeviceTable, Misfit, key, rows, AlarmEntry}
use Rattle.alm_table.specs.declared.load_fault.LoadFault.{LoadFault}
use Rattle.alm_table.specs.declared.load_fault.LoadFault.TheVariants.{NotToml, Key, Rows, OutOfMemory}

abbrev pub element_of : Attr → AlarmEntry
element_of a = record { settings = record { kind = a.kind; setpoint = a.setpoint; deadband = a.deadband; priority = a.priority; area = a.area; latching = a.latching; max_shelve = a.max_shelve }; tag = a.tag; text = a.text }

abbrev pub device_table : ℕ → Listing → DeviceTable
device_table size t = record { size = size; areas = t.areas; alarms = map element_of t.alarms }

-- the text has a tree, and the tree says this
abbrev pub ReadsAs : List ℕ → Result DeviceTable Misfit → Type 0
ReadsAs text said = IsUtf8 text × (option_map read_file (parse_document text) ≡ Some said)

-- the fault is what is wrong, unless memory ran out
abbrev pub IsFaultIn : {A : Type 0} → LoadFault → Result A Misfit → Type 0
IsFaultIn NotToml read = ⊥
IsFaultIn OutOfMemory read = ⊤
IsFaultIn (Key alarm k) read = read ≡ Err (key alarm (string_bytes k))
IsFaultIn Rows read = read ≡ Err rows

-- the fault of a text
abbrev pub IsFaultOf : LoadFault → List ℕ → Type 0
IsFaultOf NotToml text = IsUtf8 text → parse_document text ≡ None
IsFaultOf OutOfMemory text = ⊤
IsFaultOf (Key alarm k) text = ReadsAs text (Err (key alarm (string_bytes k)))
IsFaultOf Rows text = ReadsAs text (Err rows)

-- the fault is of this key, unless memory ran out
abbrev pub NamesKey : LoadFault → Option ℕ → List ℕ → Type 0
NamesKey NotToml alarm k = ⊥
NamesKey OutOfMemory alarm k = ⊤
NamesKey (Key a l) alarm k = (a ≡ alarm) × (string_bytes l ≡ k)
NamesKey Rows alarm k = ⊥
