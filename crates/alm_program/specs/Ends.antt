-- By which fault a command ends for which cause.
use Rattle.std.specs.Prelude.{◌≡◌, ℕ, Bool, true, false, List, Option, Result, Ok, Err}
use Rattle.std.specs.Io.KnownBytes.{Appends}
use Rattle.alm_types.specs.Counts.{one_more}
use Rattle.alm_model.specs.Plant.{Condensed}
use Rattle.alm_lines.specs.Written.{IsCutShort}
use Rattle.alm_export.specs.Exported.{IsTableText}
use Rattle.alm_program.specs.declared.fault.Fault.{Fault}
use Rattle.alm_program.specs.declared.fault.Fault.TheVariants.{Stopped, OutOfMemory, Io}

-- how a desk ends, whose storage has stopped or not, and whose reader or writer has a cause to fail
abbrev pub DeskEnds : (has_stopped : Bool) → (fails : Type 0) → Result Unit Fault → Type 0
DeskEnds has_stopped fails (Ok _) = has_stopped ≡ false
DeskEnds has_stopped fails (Err Stopped) = has_stopped ≡ true
DeskEnds has_stopped fails (Err Io) = fails
DeskEnds has_stopped fails (Err _) = ⊥

-- how printing ends: the writer's failure is counted, and nothing else
abbrev pub PrintEnds : (failed failed_now : ℕ) → Result Unit Fault → Type 0
PrintEnds failed failed_now (Ok _) = failed_now ≡ failed
PrintEnds failed failed_now (Err Io) = failed_now ≡ one_more failed
PrintEnds failed failed_now (Err OutOfMemory) = failed_now ≡ failed
PrintEnds failed failed_now (Err _) = ⊥

-- a table file of the plant was printed, or a prefix of one if the writer failed, or nothing if out of memory
abbrev pub PrintsTable : ℕ → Condensed → Option (List ℕ) → Option (List ℕ) → Result Unit Fault → Type 0
PrintsTable size q old new (Ok _) = (text : List ℕ) × IsTableText size q text × Appends old new text
PrintsTable size q old new (Err Io) = (text : List ℕ) × IsTableText size q text × IsCutShort old new text
PrintsTable size q old new (Err OutOfMemory) = new ≡ old
PrintsTable size q old new (Err _) = ⊥
