-- Prefixes of lists: `IsPrefix` of the library, as an equation, so that a type can keep the fact.
use Rattle.std.specs.Prelude.{◌≡◌, List, length, take}

abbrev pub IsPrefixOf : {A : Type 0} → List A → List A → Type 0
IsPrefixOf xs ys = take (length xs) ys ≡ xs
