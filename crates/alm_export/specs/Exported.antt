-- What is exported of a plant.
use Rattle.std.specs.Prelude.{◌≡◌, ℕ, List, Option, Result, Ok, Err, ⊤, length}
use Rattle.std.specs.Io.KnownBytes.{Appends}
use Rattle.alm_types.specs.Tables.{Listing}
use Rattle.alm_types.specs.Counts.{one_more}
use Rattle.alm_model.specs.Plant.{Condensed}
use Rattle.alm_lines.specs.Written.{IsCutShort}
use Rattle.alm_table.specs.Faults.{ReadsAs, device_table}
use Rattle.alm_export.specs.declared.show_fault.ShowFault.{ShowFault}
use Rattle.alm_export.specs.declared.show_fault.ShowFault.TheVariants.{Write, OutOfMemory}
use Rattle.alm_export.specs.Tree.{named_size}

-- the table of a plant, with the priorities and setpoints in force
abbrev pub table_in : Condensed → Listing
table_in q = record { alarms = q.panel.attrs; areas = length q.floods }

-- the text is a table file, and it says this size and the plant's table
abbrev pub IsTableText : ℕ → Condensed → List ℕ → Type 0
IsTableText size q text = ReadsAs text (Ok (device_table (named_size size) (table_in q)))

-- such a text was written, or a prefix of one if the writer failed, or nothing if out of memory
abbrev pub Exports : ℕ → Condensed → Option (List ℕ) → Option (List ℕ) → Result ⊤ ShowFault → Type 0
Exports size q old new (Ok _) = (text : List ℕ) × IsTableText size q text × Appends old new text
Exports size q old new (Err Write) = (text : List ℕ) × IsTableText size q text × IsCutShort old new text
Exports size q old new (Err OutOfMemory) = new ≡ old

-- a failure of the writer is counted, and nothing else
abbrev pub CountsExport : Result ⊤ ShowFault → (failed failed_now : ℕ) → Type 0
CountsExport (Ok _) f g = g ≡ f
CountsExport (Err Write) f g = g ≡ one_more f
CountsExport (Err OutOfMemory) f g = g ≡ f
