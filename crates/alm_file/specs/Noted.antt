-- What a file's device says of a call beyond the model: its record grew by that call, with its answer.
use Rattle.std.specs.Prelude.{◌≡◌, ◌⊎◌, ℕ, Bool, true, false, List, [], ◌∷◌, length, Result, Ok, Err, is_ok}
use Rattle.alm_disk.specs.declared.call.Call.{Call}
use Rattle.alm_disk.specs.declared.call.Call.TheVariants.{Read, Write, Sync}
use Rattle.alm_file.specs.Events.{FileEvent}

-- a read of n bytes that was done, with what it gave
abbrev pub was_read : (at n : ℕ) → (bytes : List ℕ) → FileEvent
was_read at n bytes = record { call = Read at n; done = true; bytes = bytes }

abbrev pub was_not_read : (at n : ℕ) → FileEvent
was_not_read at n = record { call = Read at n; done = false; bytes = [] }

-- a write of these bytes
abbrev pub was_written : (at : ℕ) → (done : Bool) → (bytes : List ℕ) → FileEvent
was_written at done bytes = record { call = Write at (length bytes); done = done; bytes = bytes }

abbrev pub was_synced : (done : Bool) → FileEvent
was_synced done = record { call = Sync; done = done; bytes = [] }

-- a sync that was done has one after it that wasn't, if the file is then found to be another one or of another size
abbrev pub IsNoted : {E : Type 0} → Call → Result Unit E → (old new : List FileEvent) → Type 0
IsNoted (Read at n) (Ok done) old new = (bytes : List ℕ) × (new ≡ was_read at n bytes ∷ old)
IsNoted (Read at n) (Err fault) old new = new ≡ was_not_read at n ∷ old
IsNoted (Write at n) result old new = (bytes : List ℕ) × (length bytes ≡ n) × (new ≡ was_written at (is_ok result) bytes ∷ old)
IsNoted Sync (Ok done) old new = new ≡ was_synced true ∷ old
IsNoted Sync (Err fault) old new = (new ≡ was_synced false ∷ old) ⊎ (new ≡ was_synced false ∷ was_synced true ∷ old)
