-- Areas that are read one after the other, and what is left of a bound after their ages.
use Rattle.std.proofs.Common.{◌≡◌, ℕ, ◌+◌, ◌-◌, ◌≤◌, ◌<◌, Bool, List, [], ◌∷◌, ◌++◌, length, sum, Some, None, inl, inr, refl, sym, ap, ◌∙◌, arith}
use Rattle.std.specs.Option.{option_and_then}
use Rattle.std.proofs.lemmas.Bool.{cases_lt, le-leb, lt-leb}
use Rattle.std.proofs.lemmas.List.Sums.{sum_by-append, sum_by-cons}
use Rattle.alm_codec.specs.Bounds.{under}
use Rattle.alm_codec.specs.ImageFields.{Area, all_ages, areas_in}

pub areas_in-push : (floods : List Bool) (ages : List (List ℕ)) (f : Bool) (a : List ℕ) → length floods ≡ length ages → areas_in (floods ++ f ∷ []) (ages ++ a ∷ []) ≡ areas_in floods ages ++ record { flood = f; ages = a } ∷ []
areas_in-push [] [] f a e = refl
areas_in-push [] (b ∷ ages) f a e = absurd (omega (arith, e))
areas_in-push (g ∷ floods) [] f a e = absurd (omega (arith, e))
areas_in-push (g ∷ floods) (b ∷ ages) f a e = ap (λ (list : List Area). record { flood = g; ages = b } ∷ list) (areas_in-push floods ages f a (omega (arith, e)))

pub all_ages-push : (areas : List Area) (x : Area) → all_ages (areas ++ x ∷ []) ≡ all_ages areas + sum x.ages
all_ages-push areas x =
    let one = sum_by-cons (λ (a : Area). sum a.ages) x [] in
    sum_by-append (λ (a : Area). sum a.ages) areas (x ∷ []) ∙ ap (λ (n : ℕ). all_ages areas + n) (omega (arith, one))

under-some : (bound n : ℕ) → n ≤ bound → under bound n ≡ Some (bound - n)
under-some bound n h = rw (le-leb n bound h) refl

under-none : (bound n : ℕ) → bound < n → under bound n ≡ None
under-none bound n h = rw (lt-leb n bound h) refl

pub under-then : (bound a b : ℕ) → option_and_then (λ left. under left b) (under bound a) ≡ under bound (a + b)
under-then bound a b =
    elim (cases_lt bound a) [
      | inl lt ↦ ap (λ o. option_and_then (λ left. under left b) o) (under-none bound a lt) ∙ sym (under-none bound (a + b) (omega arith))
      | inr le ↦ ap (λ o. option_and_then (λ left. under left b) o) (under-some bound a le)
          ∙ elim (cases_lt (bound - a) b) [
            | inl lt ↦ under-none (bound - a) b lt ∙ sym (under-none bound (a + b) (omega arith))
            | inr few ↦ under-some (bound - a) b few ∙ ap (λ (n : ℕ). Some n) (omega arith) ∙ sym (under-some bound (a + b) (omega arith))
          ]
    ]
