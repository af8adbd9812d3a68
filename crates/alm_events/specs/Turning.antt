-- A list whose first element stands at a place of it.
use Rattle.std.specs.Prelude.{ℕ, ◌++◌, List, take, drop}

abbrev pub turned : {A : Type 0} → ℕ → List A → List A
turned at xs = drop at xs ++ take at xs
