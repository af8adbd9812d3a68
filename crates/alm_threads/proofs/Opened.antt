-- Ends in the order of some slots.
use Rattle.std.proofs.Common.{◌≡◌, ◌<◌, ◌∙◌, ℕ, zero, suc, List, [], ◌∷◌, length, map, Some, slice_get, refl, sym, ap, arith}
use Rattle.std.proofs.lemmas.Option.{same_Some}
use Rattle.alm_rings.specs.Placed.{end_at, AreApart}
use Rattle.alm_rings.proofs.Slots.{found}

pub there : {E : Type 0} (xs : List E) (k : ℕ) → k < length xs → (e : E) × (slice_get xs k ≡ Some e)
there [] k less = absurd (omega (arith, less))
there (x ∷ xs) zero less = (x, refl)
there (x ∷ xs) (suc k) less = there xs k (omega (arith, less))

module _ {E : Type 0} (number : E → ℕ) where
  pub map_is : (ends : List E) (slots : List ℕ) → length ends ≡ length slots → ((j : ℕ) (e : E) → slice_get ends j ≡ Some e → slice_get slots j ≡ Some (number e)) → map number ends ≡ slots
  map_is [] [] same order = refl
  map_is [] (s ∷ slots) same order = absurd (omega (arith, same))
  map_is (e ∷ ends) [] same order = absurd (omega (arith, same))
  map_is (e ∷ ends) (s ∷ slots) same order =
      let head : s ≡ number e = same_Some s (number e) (order 0 e refl) in
      let tail : map number ends ≡ slots = map_is ends slots (omega (arith, same)) (λ j x at. order (suc j) x at) in
      rw (tail, head) refl

  pub apart_is : (ends : List E) (slots : List ℕ) → AreApart (λ s. s) slots → ((j : ℕ) (e : E) → slice_get ends j ≡ Some e → slice_get slots j ≡ Some (number e)) → AreApart number ends
  apart_is ends slots apart order = λ j k d e p q same. apart j k (number d) (number e) (order j d p) (order k e q) same

  -- the end at a slot's place is the slot's
  pub at_place : (ends : List E) (slots : List ℕ) (k s : ℕ) → AreApart (λ s. s) slots → ((j : ℕ) (e : E) → slice_get ends j ≡ Some e → slice_get slots j ≡ Some (number e)) → slice_get slots k ≡ Some s → k < length ends
      → (e : E) × ((slice_get ends k ≡ Some e) × (end_at number s ends ≡ Some e))
  at_place ends slots k s apart order here less =
      let e = there ends k less in
      let same : number e.0 ≡ s = same_Some (number e.0) s (sym (order k e.0 e.1) ∙ here) in
      (e.0, (e.1, ap (λ n. end_at number n ends) (sym same) ∙ found number ends k e.0 (apart_is ends slots apart order) e.1))
