use Rattle.std.proofs.Common.{◌≡◌, ◌≤◌, ℕ, List, [], ◌∷◌, ◌++◌, length, map, refl, arith, w64, ℤ, FitsSigned}
use Rattle.std.specs.Prelude.{slice_get, decimal}
use Rattle.std.proofs.lemmas.Int.{to_z-of_z, ints}
use Rattle.alm_types.specs.Readings.{IsReading}
use Rattle.alm_lines.specs.Reply.{fields}
use Rattle.alm_lines.specs.Spaced.{space_before, moment_text}
use Rattle.alm_lines.proofs.rows.row_parts.Goals as goal

-- a moment at a place, after its space
abbrev at : List ℕ → ℕ → List ℕ → List ℕ
at moments i rest = space_before (slice_get moments i) ++ (moment_text (slice_get moments i) ++ rest)

-- the parts, one after the other, are the fields
joined : (k a l d s p v n : List ℕ) (moments : List ℕ) → length moments ≤ 3
    → 32 ∷ (k ++ 32 ∷ (a ++ 32 ∷ (l ++ 32 ∷ (d ++ 32 ∷ (s ++ 32 ∷ (p ++ 32 ∷ (v ++ 32 ∷ (n ++ at moments 0 (at moments 1 (at moments 2 []))))))))))
    ≡ fields (k ∷ a ∷ l ∷ d ∷ s ∷ p ∷ v ∷ n ∷ map decimal moments)
joined k a l d s p v n [] few = refl
joined k a l d s p v n (t ∷ []) few = refl
joined k a l d s p v n (t ∷ u ∷ []) few = refl
joined k a l d s p v n (t ∷ u ∷ w ∷ []) few = refl
joined k a l d s p v n (t ∷ u ∷ w ∷ x ∷ more) few = absurd (omega (arith, few))

reading_fits : (v : ℤ) → IsReading v → FitsSigned w64 v
reading_fits v h = omega (arith, ints, h.0, h.1)

pub returns : goal.returns
returns c =
    let kept = to_z-of_z w64 c.value.result (reading_fits c.value.result c.value.ensures.range) in
    rw (
      c.shown_word.ensures,
      c.digit.ensures,
      c.letters.ensures,
      c.deadline_part.ensures,
      c.from.ensures,
      kept,
      c.value.ensures.value,
      c.space_before.ensures,
      c.moment_part.ensures,
      c.space_before-2.ensures,
      c.moment_part-2.ensures,
      c.space_before-3.ensures,
      c.moment_part-3.ensures,
      c.as_slice-moments.ensures.moments,
    )
    (joined _ _ _ _ _ _ _ _ c.args.row.now.moments (rw (← c.as_slice-moments.ensures.moments) c.as_slice-moments.ensures.few))
