-- Values of the process.
use Rattle.std.specs.Prelude.{Bool, ◌&&◌, ℤ, pos, negsuc, ◌≤ℤ◌, int_le}

-- a value of the process is at most 10 ^ 12 from 0
abbrev pub IsReading : ℤ → Type 0
IsReading v = (negsuc 999999999999 ≤ℤ v) × (v ≤ℤ pos 1000000000000)

-- the same as a test
abbrev pub is_reading : ℤ → Bool
is_reading v = int_le (negsuc 999999999999) v && int_le v (pos 1000000000000)
