-- What clauses read of a wire in memory.
use Rattle.std.specs.Prelude.{ℕ, List, drop, take}
use Rattle.alm_session.specs.declared.mem_wire.MemWire.{MemWire}

-- what was read
abbrev pub came_over : MemWire → List ℕ
came_over w = take w.at w.input.items

-- what is still to come
abbrev pub input_of : MemWire → List ℕ
input_of w = drop w.at w.input.items

abbrev pub output_of : MemWire → List ℕ
output_of w = w.output.items

abbrev pub wire_room : MemWire → ℕ
wire_room w = w.room
