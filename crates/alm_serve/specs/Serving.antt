-- What a server writes.
use Rattle.std.specs.Prelude.{◌⊎◌, ℕ, List, [], ◌++◌, Option, Result, Ok, Err, codes, decimal}
use Rattle.std.specs.Io.KnownBytes.{Appends}
use Rattle.alm_lines.specs.Written.{IsCutShort}
use Rattle.alm_serve.specs.declared.serve_fault.ServeFault.{ServeFault}
use Rattle.alm_serve.specs.declared.serve_fault.ServeFault.TheVariants.{Open, Net, Write, Memory, Storage}

-- the line once the slots are open, by what they listen at: the first port, or the folder
abbrev pub serving_line : List ℕ → List ℕ
serving_line name = codes "serving " ++ name ++ codes "\n"

-- the line at the end: how many actions are stored
abbrev pub stopped_line : ℕ → List ℕ
stopped_line count = codes "stopped " ++ decimal count ++ codes "\n"

-- nothing is written if the device doesn't open or a slot can't be opened, the first line if the storage stops, and both at the
-- end of a whole run. If the writer fails, nothing was run and a prefix of the first is written, or a prefix of both after a
-- whole run
abbrev pub ServeWrites : (idle : Type 0) → (whole : ℕ → Type 0) → List ℕ → Option (List ℕ) → Option (List ℕ) → Result ℕ ServeFault → Type 0
ServeWrites idle whole name old new (Ok count) = Appends old new (serving_line name ++ stopped_line count)
ServeWrites idle whole name old new (Err (Open fault)) = Appends old new []
ServeWrites idle whole name old new (Err Net) = Appends old new []
ServeWrites idle whole name old new (Err Memory) = Appends old new [] ⊎ Appends old new (serving_line name)
ServeWrites idle whole name old new (Err Storage) = Appends old new (serving_line name)
ServeWrites idle whole name old new (Err Write) =
    (idle × IsCutShort old new (serving_line name))
    ⊎ ((count : ℕ) × whole count × IsCutShort old new (serving_line name ++ stopped_line count))
