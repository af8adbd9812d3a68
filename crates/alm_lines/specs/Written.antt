-- What is written of a text.
use Rattle.std.specs.Prelude.{◌≡◌, ℕ, List, ◌++◌, Option, Result, Ok, Err, ⊤}
use Rattle.std.specs.Io.KnownBytes.{Appends}

-- a prefix of a text was written
pub record IsCutShort (old new : Option (List ℕ)) (text : List ℕ) : Type 0 where
  pub front : List ℕ
  pub rest : List ℕ
  pub whole : text ≡ front ++ rest
  pub written : Appends old new front

-- a text was written, or a prefix of it if the writer failed
abbrev pub Prints : {E : Type 0} → Option (List ℕ) → Option (List ℕ) → List ℕ → Result ⊤ E → Type 0
Prints old new text (Ok _) = Appends old new text
Prints old new text (Err _) = IsCutShort old new text
