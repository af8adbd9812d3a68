-- Counts of a reader.
use Rattle.std.specs.Prelude.{◌≡◌, ℕ, ◌<◌, ◌≤◌, List, [], length, take, Option}
use Rattle.std.specs.Io.KnownBytes.{Consumes, IsAtEnd}
use Rattle.alm_types.specs.Counts.{one_more}
use Rattle.alm_desk.specs.declared.read_outcome.ReadOutcome.{ReadOutcome}
use Rattle.alm_desk.specs.declared.read_outcome.ReadOutcome.TheVariants.{Bytes, End, Interrupted, Failed}

-- a failure is counted exactly if a read failed
abbrev pub CountsFailure : ReadOutcome → ℕ → ℕ → Type 0
CountsFailure Failed old new = new ≡ one_more old
CountsFailure (Bytes n) old new = new ≡ old
CountsFailure End old new = new ≡ old
CountsFailure Interrupted old new = new ≡ old

-- what a read gives is taken from the input; at the end there is none left
abbrev pub GivesBytes : ReadOutcome → Option (List ℕ) → Option (List ℕ) → List ℕ → Type 0
GivesBytes (Bytes n) old new buffer = (0 < n) × (n ≤ length buffer) × Consumes old new (take n buffer)
GivesBytes End old new buffer = Consumes old new [] × IsAtEnd new
GivesBytes Interrupted old new buffer = Consumes old new []
GivesBytes Failed old new buffer = Consumes old new []
