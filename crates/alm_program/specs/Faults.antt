-- What the program says of a fault.
use Rattle.std.specs.Prelude.{◌≡◌, ℕ, List, [], ◌∷◌, ◌++◌, Option, Some, None, Result, Ok, Err, codes, decimal, string_bytes, nat_lt, ◌==◌, ◌||◌, if◌then◌else◌, ◌⊎◌}
use Rattle.std.specs.List.{flat_map}
use Rattle.std.specs.Io.KnownBytes.{Appends}
use Rattle.std.specs.IoError.{error_kind}
use Rattle.std.specs.declared.io.ErrorKind.{ErrorKind}
use Rattle.std.specs.declared.io.ErrorKind.TheVariants as kind
use Rattle.alm_lines.specs.Written.{IsCutShort}
use Rattle.alm_file.specs.declared.file_fault.FileFault.{FileFault}
use Rattle.alm_file.specs.declared.file_fault.FileFault.TheVariants as file
use Rattle.alm_table.specs.declared.load_fault.LoadFault.{LoadFault}
use Rattle.alm_table.specs.declared.load_fault.LoadFault.TheVariants as load
use Rattle.alm_program.specs.declared.words_fault.WordsFault.{WordsFault}
use Rattle.alm_program.specs.declared.words_fault.WordsFault.TheVariants as words
use Rattle.alm_export.specs.declared.show_fault.ShowFault.{ShowFault}
use Rattle.alm_export.specs.declared.show_fault.ShowFault.TheVariants as show
use Rattle.alm_checkpoint.specs.declared.device_fault.DeviceFault.{DeviceFault}
use Rattle.alm_checkpoint.specs.declared.device_fault.DeviceFault.TheVariants as found
use Rattle.alm_store.specs.declared.open_fault.OpenFault.{OpenFault}
use Rattle.alm_store.specs.declared.open_fault.OpenFault.TheVariants as opening
use Rattle.alm_keeper.specs.declared.format_fault.FormatFault.{FormatFault}
use Rattle.alm_keeper.specs.declared.format_fault.FormatFault.TheVariants as format
use Rattle.alm_program.specs.declared.fault.Fault.{Fault}
use Rattle.alm_program.specs.declared.fault.Fault.TheVariants.{Usage, Toml, Key, Rows, TooSmall, Unformatted, Damaged, Disk, Stopped, OutOfMemory, Net, Io}

-- an alarm's number, or - for the file's own keys
abbrev pub alarm_text : Option ℕ → List ℕ
alarm_text None = codes "-"
alarm_text (Some i) = decimal i

-- a byte, or ? for one that doesn't print
abbrev pub printed_byte : ℕ → ℕ
printed_byte b = if nat_lt b 32 || (b == 127) then 63 else b

-- a key on one line
abbrev pub key_text : List ℕ → List ℕ
key_text = flat_map (λ b. printed_byte b ∷ [])

-- the fault
abbrev pub fault_text : Fault → List ℕ
fault_text Usage = codes "usage"
fault_text Toml = codes "toml"
fault_text (Key alarm key) = codes "table " ++ alarm_text alarm ++ codes " " ++ key_text (string_bytes key)
fault_text Rows = codes "rows"
fault_text TooSmall = codes "too-small"
fault_text Unformatted = codes "unformatted"
fault_text (Damaged half at) = codes "damaged " ++ decimal half ++ codes " " ++ decimal at
fault_text Disk = codes "disk"
fault_text Stopped = codes "stopped"
fault_text OutOfMemory = codes "memory"
fault_text Net = codes "net"
fault_text Io = codes "io"

-- the fault of a table file
abbrev pub fault_of_load : LoadFault → Fault
fault_of_load load.NotToml = Toml
fault_of_load (load.Key alarm key) = Key alarm key
fault_of_load load.Rows = Rows
fault_of_load load.OutOfMemory = OutOfMemory

-- the fault of the words
abbrev pub fault_of_words : WordsFault → Fault
fault_of_words words.Usage = Usage
fault_of_words words.OutOfMemory = OutOfMemory

-- .. of showing a plant
abbrev pub fault_of_show : ShowFault → Fault
fault_of_show show.Write = Io
fault_of_show show.OutOfMemory = OutOfMemory

-- .. of a header
abbrev pub fault_of_device : DeviceFault → Fault
fault_of_device found.Unformatted = Unformatted
fault_of_device (found.Damaged half at) = Damaged half at

-- .. of a device that isn't opened
abbrev pub fault_of_open : OpenFault → Fault
fault_of_open opening.Unformatted = Unformatted
fault_of_open (opening.Damaged half at) = Damaged half at
fault_of_open opening.Disk = Disk
fault_of_open opening.OutOfMemory = OutOfMemory

-- .. of one that isn't formatted
abbrev pub fault_of_format : FormatFault → Fault
fault_of_format format.TooSmall = TooSmall
fault_of_format format.Disk = Disk
fault_of_format format.OutOfMemory = OutOfMemory

-- .. of a refused call of a file or a stream
abbrev pub fault_of_error : ErrorKind → Fault
fault_of_error kind.OutOfMemory = OutOfMemory
fault_of_error _ = Io

-- .. of a device's file that isn't opened: one that is a standard stream is wrong usage, and one whose sync failed is a
-- device that failed
abbrev pub fault_of_file : FileFault → Fault
fault_of_file file.Stream = Usage
fault_of_file (file.Sync error) = Disk
fault_of_file (file.Io error) = fault_of_error (error_kind error)

-- the line on standard error
abbrev pub fault_line : Fault → List ℕ
fault_line fault = codes "fault " ++ fault_text fault ++ codes "\n"

-- the status that the program ends with
abbrev pub status_of : Fault → ℕ
status_of Usage = 1
status_of Toml = 2
status_of (Key alarm key) = 2
status_of Rows = 2
status_of TooSmall = 2
status_of Unformatted = 2
status_of (Damaged half at) = 2
status_of _ = 3

-- the line, or a prefix of it if it can't be written
abbrev pub IsTold : Option (List ℕ) → Option (List ℕ) → Fault → Type 0
IsTold old new fault = Appends old new (fault_line fault) ⊎ IsCutShort old new (fault_line fault)

-- how the program ends by what it came to: with status 0 and no line, or with the status and the line of the fault
abbrev pub EndsBy : Result Unit Fault → Option (List ℕ) → Option (List ℕ) → ℕ → Type 0
EndsBy (Ok _) old new status = (status ≡ 0) × (new ≡ old)
EndsBy (Err fault) old new status = (status ≡ status_of fault) × IsTold old new fault

-- .. whatever it came to
abbrev pub EndsAnyhow : Option (List ℕ) → Option (List ℕ) → ℕ → Type 0
EndsAnyhow old new status = ((status ≡ 0) × (new ≡ old)) ⊎ ((fault : Fault) × (status ≡ status_of fault) × IsTold old new fault)
