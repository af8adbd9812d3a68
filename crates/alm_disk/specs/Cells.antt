-- The cells of a device in memory.
use Rattle.std.specs.Prelude.{ℕ, Bool, false, List, get_or}

-- the mark at a place; false after the last
abbrev pub is_marked : List Bool → ℕ → Bool
is_marked marks place = get_or marks place false
