-- Bytes of which the checksum is known.
use Rattle.std.specs.Prelude.{ℕ, zero, suc, List, [], ◌∷◌, ◌++◌}

-- the numbers below n, in order
abbrev pub rising : ℕ → List ℕ
rising zero = []
rising (suc n) = rising n ++ n ∷ []
