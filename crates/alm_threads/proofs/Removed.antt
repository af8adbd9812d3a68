-- Ends that are taken out of a list.
use Rattle.std.proofs.Common.{◌≡◌, ◌≢◌, ◌<◌, ◌+◌, ◌⊎◌, ℕ, zero, suc, List, [], ◌∷◌, ◌++◌, take, drop, Some, None, slice_get, true, false, inl, inr, refl, sym, ap, ◌∙◌, arith, eq-eqb}
use Rattle.std.specs.Prelude.{◌==◌}
use Rattle.std.proofs.lemmas.Bool.{cases_Bool}
use Rattle.std.proofs.lemmas.Option.{none-some, same_Some}
use Rattle.alm_rings.specs.Placed.{end_at}
use Rattle.alm_rings.proofs.Slots.{apart_numbers}

module _ {E : Type 0} (number : E → ℕ) where
  -- the first of its slot is the end of its slot
  pub at_first : (ends : List E) (k slot : ℕ) (e : E) → slice_get ends k ≡ Some e → number e ≡ slot → ((j : ℕ) (x : E) → j < k → slice_get ends j ≡ Some x → number x ≢ slot) → end_at number slot ends ≡ Some e
  at_first [] k slot e is here none = absurd (none-some e is)
  at_first (x ∷ ends) zero slot e is here none =
      let same : x ≡ e = same_Some x e is in
      let yes : (number x == slot) ≡ true = eq-eqb (number x) slot (ap number same ∙ here) in
      rw yes is
  at_first (x ∷ ends) (suc k) slot e is here none =
      let no : (number x == slot) ≡ false = apart_numbers (number x) slot (none 0 x (omega arith) refl) in
      rw no (at_first ends k slot e is here (λ j y less at. none (suc j) y (omega (arith, less)) at))

  -- the ends of other slots stay
  pub without : (ends : List E) (k slot : ℕ) (e : E) → slice_get ends k ≡ Some e → number e ≢ slot → end_at number slot (take k ends ++ drop (suc k) ends) ≡ end_at number slot ends
  without [] k slot e is other = absurd (none-some e is)
  without (x ∷ ends) zero slot e is other =
      let no : (number x == slot) ≡ false = apart_numbers (number x) slot (λ p. other (ap number (sym (same_Some x e is)) ∙ p)) in
      rw no refl
  without (x ∷ ends) (suc k) slot e is other = elim (cases_Bool (number x == slot)) [
    | inl t ↦ rw t refl
    | inr f ↦ rw f (without ends k slot e is other)
  ]

  pub nowhere : (ends : List E) (slot : ℕ) → ((j : ℕ) (x : E) → slice_get ends j ≡ Some x → number x ≢ slot) → end_at number slot ends ≡ None
  nowhere [] slot none = refl
  nowhere (x ∷ ends) slot none =
      let no : (number x == slot) ≡ false = apart_numbers (number x) slot (none 0 x refl) in
      rw no (nowhere ends slot (λ j y at. none (suc j) y at))

  split : (j k : ℕ) → j < suc k → (j < k) ⊎ (j ≡ k)
  split zero zero less = inr refl
  split zero (suc k) less = inl (omega arith)
  split (suc j) zero less = absurd (omega (arith, less))
  split (suc j) (suc k) less = elim (split j k (omega (arith, less))) [ inl l ↦ inl (omega (arith, l)) | inr e ↦ inr (ap suc e) ]

  -- one more that is not the slot's
  pub none_more : (ends : List E) (k slot : ℕ) (e : E) → slice_get ends k ≡ Some e → number e ≢ slot → ((j : ℕ) (x : E) → j < k → slice_get ends j ≡ Some x → number x ≢ slot)
      → (j : ℕ) (x : E) → j < k + 1 → slice_get ends j ≡ Some x → number x ≢ slot
  none_more ends k slot e here other none j x less at = elim (split j k (omega (arith, less))) [
    | inl before ↦ none j x before at
    | inr same ↦ λ p. other (ap number (same_Some e x (sym here ∙ (ap (slice_get ends) (sym same) ∙ at))) ∙ p)
  ]
