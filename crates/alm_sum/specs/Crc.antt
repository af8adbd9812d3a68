-- CRC-32C: the remainder by the polynomial 1EDC6F41 (hex), bit by bit. A register holds the remainder with its lowest power in
-- the highest bit, so that a shift to the right is a multiplication by x.
use Rattle.std.specs.Prelude.{ℕ, zero, suc, ◌/◌, ◌%◌, List, [], ◌∷◌, bit_xor}

-- the polynomial without its highest power
abbrev pub polynomial : ℕ
polynomial = 0x82F63B78

-- what is subtracted if this bit is shifted out
abbrev pub subtracted : ℕ → ℕ
subtracted zero = 0
subtracted (suc _) = polynomial

-- a multiplication by x, and the remainder of that
abbrev pub shift : ℕ → ℕ
shift register = bit_xor (register / 2) (subtracted (register % 2))

unfoldable pub shifts : ℕ → ℕ → ℕ
shifts zero register = register
shifts (suc n) register = shifts n (shift register)

-- the register after a byte, of which the lowest bit comes first
abbrev pub register_after_byte : ℕ → ℕ → ℕ
register_after_byte register byte = shifts 8 (bit_xor register byte)

abbrev pub register_after_bytes : ℕ → List ℕ → ℕ
register_after_bytes register [] = register
register_after_bytes register (byte ∷ bytes) = register_after_bytes (register_after_byte register byte) bytes

-- the checksum of bytes: the register begins with ones, and is inverted at the end
abbrev pub checksum_of : List ℕ → ℕ
checksum_of bytes = bit_xor (register_after_bytes 0xFFFFFFFF bytes) 0xFFFFFFFF
