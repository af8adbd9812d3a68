-- Seconds that pass.
use Rattle.std.proofs.Common.{◌≡◌, ℕ, ◌+◌, ◌≤◌, min, List, [], ◌∷◌, ◌++◌, length, take, replicate, sum, suc, refl, sym, ap, ◌∙◌, arith, add-one, inl, inr}
use Rattle.std.specs.Prelude.{nat_lt}
use Rattle.std.proofs.lemmas.Bool.{cases_Bool}
use Rattle.std.proofs.lemmas.List.{take-take, take-replicate, take-append-le, take_all, replicate-append-replicate, length-replicate}
use Rattle.std.proofs.lemmas.List.Sums.{sum_by-cons}
use borrow.Author.Tests.{ltb-true, ltb-false}
use Rattle.alm_model.specs.Keeping.{ages_after}

-- none pass
pub aged-none : (ages : List ℕ) → length ages ≡ 600 → ages ≡ ages_after 0 ages
aged-none ages e = sym (take_all 600 ages (omega arith))

-- seconds pass one after the other
shifted-more : (n s : ℕ) (ages : List ℕ) → take (suc n) (replicate (suc s) 0 ++ ages) ≡ take (suc n) (0 ∷ take (suc n) (replicate s 0 ++ ages))
shifted-more n s ages = ap (λ xs. 0 ∷ xs) (sym (take-take n (suc n) (replicate s 0 ++ ages) (omega arith)))

pub aged-more : (s : ℕ) (ages : List ℕ) → ages_after (s + 1) ages ≡ ages_after 1 (ages_after s ages)
aged-more s ages = rw add-one (shifted-more 599 s ages)

-- of more than 600 seconds none is left
gone : (n s : ℕ) (ages : List ℕ) → n ≤ s → take n (replicate s 0 ++ ages) ≡ replicate n 0
gone n s ages l =
    let long : n ≤ length (replicate s 0) = rw length-replicate l in
    take-append-le n (replicate s 0) ages long ∙ take-replicate n s 0 l

pub aged-all : (s : ℕ) (ages : List ℕ) → ages_after (min s 600) ages ≡ ages_after s ages
aged-all s ages = elim (cases_Bool (nat_lt s 600)) [
  | inl t ↦ let few : min s 600 ≡ s = let l = ltb-true s 600 t in omega arith in rw few refl
  | inr f ↦ let many : 600 ≤ s = ltb-false s 600 f in gone 600 (min s 600) ages (omega arith) ∙ sym (gone 600 s ages many)
]

-- if there were no counts, none are forgotten
zeros : (ages : List ℕ) → sum ages ≡ 0 → ages ≡ replicate (length ages) 0
zeros [] e = refl
zeros (n ∷ ages) e =
    let both = sum_by-cons (λ (x : ℕ). x) n ages in
    let first : n ≡ 0 = omega arith in
    let rest = zeros ages (omega arith) in
    cc

pub aged-quiet : (s : ℕ) (ages : List ℕ) → length ages ≡ 600 → sum ages ≡ 0 → ages ≡ ages_after s ages
aged-quiet s ages e z =
    let none : ages ≡ replicate 600 0 = zeros ages z ∙ ap (λ n. replicate n 0) e in
    none ∙ sym (ap (ages_after s) none ∙ ap (take 600) (replicate-append-replicate s 600 0) ∙ take-replicate 600 (s + 600) 0 (omega arith))
