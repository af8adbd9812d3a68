use Rattle.std.specs.Prelude.{List}
use Rattle.std.specs.List.{flat_map}
use Rattle.alm_desk.specs.Desks.{Tagged, bytes_of_slot}
use Rattle.alm_desk.specs.declared.piece.Piece.{Piece}

-- the bytes of pieces, in the order in which they came
abbrev pub tag_all : List Piece → List Tagged
tag_all pieces = flat_map (λ piece. bytes_of_slot piece.slot piece.bytes.now) pieces
