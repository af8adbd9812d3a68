-- A table whose alarms are in its areas.
use Rattle.std.proofs.Common.{◌≡◌, ◌≤◌, ◌<◌, ℕ, List, [], ◌∷◌, length, get_or, All, None, position, nat_le, refl, rules, arith}
use Rattle.std.proofs.lemmas.List.Elements.{All-get_or}
use Rattle.std.proofs.lemmas.List.Sums.{position_or_len_is}
use Rattle.std.proofs.lemmas.Bool.{lt-leb}
use Rattle.alm_types.specs.declared.attr.Attr.{Attr}
use Rattle.alm_types.specs.Tables.{table_fault}

pub outside_none : (areas : ℕ) (alarms : List Attr) → All (λ a. a.area < areas) alarms → position (λ a. nat_le areas a.area) alarms ≡ None
outside_none areas [] all = refl
outside_none areas (a ∷ alarms) all =
    rw (position_or_len_is (λ b. nat_le areas b.area) (a ∷ alarms) (length (a ∷ alarms)) a (omega arith)
    (λ k k<. lt-leb areas (get_or (a ∷ alarms) k a).area (All-get_or (λ b. b.area < areas) (a ∷ alarms) k a k< all))
    (λ k<. absurd (omega arith))) (search rules)

pub whole : (areas : ℕ) (alarms : List Attr) → 1 ≤ length alarms → length alarms ≤ 16384 → (1 ≤ areas) × (areas ≤ 64) → All (λ a. a.area < areas) alarms → table_fault alarms areas ≡ None
whole areas alarms some few between all = rw (outside_none areas alarms all) (search rules)
