-- For the proofs.
-- A moment that may be missing, in a list of numbers with spaces between.
use Rattle.std.specs.Prelude.{ℕ, List, [], Option, Some, None, codes, decimal}

-- what precedes it
abbrev pub space_before : Option ℕ → List ℕ
space_before None = []
space_before (Some t) = codes " "

-- its digits
abbrev pub moment_text : Option ℕ → List ℕ
moment_text None = []
moment_text (Some t) = decimal t
