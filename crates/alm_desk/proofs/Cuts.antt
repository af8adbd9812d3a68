-- One more piece.
use Rattle.std.proofs.Common.{◌≡◌, ℕ, ◌+◌, ◌<◌, List, [], ◌∷◌, ◌++◌, length, take, drop, get_or, ap, sym, ◌∙◌}
use Rattle.std.proofs.lemmas.List.{take_more, append-nil, take-append-drop}
use Rattle.std.proofs.lemmas.Grind.{flat_map-append}
use Rattle.alm_desk.specs.Desks.{bytes_of_slot}
use Rattle.alm_desk.specs.Pieces.{tag_all}
use Rattle.alm_desk.specs.declared.piece.Piece.{Piece}

pub tag_all_more : (pieces : List Piece) (i : ℕ) (p : Piece) → i < length pieces → p ≡ get_or pieces i p → tag_all (take (i + 1) pieces) ≡ tag_all (take i pieces) ++ bytes_of_slot p.slot p.bytes.now
tag_all_more pieces i p h e =
    ap tag_all (take_more pieces i p h ∙ ap (λ (x : Piece). take i pieces ++ x ∷ []) (sym e))
    ∙ flat_map-append (λ (piece : Piece). bytes_of_slot piece.slot piece.bytes.now) (take i pieces) (p ∷ [])
    ∙ ap (λ t. tag_all (take i pieces) ++ t) (append-nil (bytes_of_slot p.slot p.bytes.now))

-- the pieces so far, one more and the others
pub tag_all_split : (pieces : List Piece) (i : ℕ) (p : Piece) → i < length pieces → p ≡ get_or pieces i p
    → tag_all pieces ≡ (tag_all (take i pieces) ++ bytes_of_slot p.slot p.bytes.now) ++ tag_all (drop (i + 1) pieces)
tag_all_split pieces i p h e =
    ap tag_all (sym (take-append-drop (i + 1) pieces)) ∙ flat_map-append (λ (piece : Piece). bytes_of_slot piece.slot piece.bytes.now) (take (i + 1) pieces) (drop (i + 1) pieces)
    ∙ ap (λ t. t ++ tag_all (drop (i + 1) pieces)) (tag_all_more pieces i p h e)
