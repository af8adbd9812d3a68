-- Bytes.
use Rattle.std.specs.Prelude.{ℕ, ◌<◌, List, All}

abbrev pub IsByte : ℕ → Type 0
IsByte n = n < 256

abbrev pub AreBytes : List ℕ → Type 0
AreBytes bytes = All IsByte bytes
