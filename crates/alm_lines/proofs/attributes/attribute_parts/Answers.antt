use Rattle.std.proofs.Common.{◌≡◌, ℕ, List, [], ◌∷◌, ◌++◌, refl, arith, w64, ℤ, FitsSigned}
use Rattle.std.proofs.lemmas.Int.{to_z-of_z, ints}
use Rattle.alm_types.specs.Readings.{IsReading}
use Rattle.alm_lines.specs.Reply.{fields, text_field, gap}
use Rattle.alm_lines.proofs.attributes.attribute_parts.Goals as goal

-- the parts, one after the other, are the fields
joined : (k v d p a m l t text : List ℕ)
    → 32 ∷ (k ++ 32 ∷ (v ++ 32 ∷ (d ++ 32 ∷ (p ++ 32 ∷ (a ++ 32 ∷ (m ++ 32 ∷ (l ++ 32 ∷ (t ++ (gap text ++ (text ++ []))))))))))
    ≡ fields (k ∷ v ∷ d ∷ p ∷ a ∷ m ∷ l ∷ t ∷ text_field text)
joined k v d p a m l t [] = refl
joined k v d p a m l t (c ∷ cs) = refl

reading_fits : (v : ℤ) → IsReading v → FitsSigned w64 v
reading_fits v h = omega (arith, ints, h.0, h.1)

pub returns : goal.returns
returns c =
    let kept = to_z-of_z w64 c.value.result (reading_fits c.value.result c.value.ensures.range) in
    rw (c.kind_word.ensures, kept, c.value.ensures.value, c.from.ensures, c.from-2.ensures, c.from-3.ensures, c.switch_word.ensures, c.as_bytes.ensures.bytes, c.gap.ensures, c.as_bytes-text.ensures.bytes)
    (joined _ _ _ _ _ _ _ _ _)
