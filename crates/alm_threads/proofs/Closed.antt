-- Slots that are closed one after the other.
use Rattle.std.proofs.Common.{◌≡◌, ◌≢◌, ◌≤◌, ◌∙◌, ◌++◌, ℕ, zero, suc, List, [], ◌∷◌, length, Option, Some, None, slice_get, refl, sym, ap, arith, length-append}
use Rattle.std.specs.Prelude.{IsSome}
use Rattle.std.proofs.lemmas.Option.{none-some, slice_get_within}
use mathlib.Core.List.{IsPrefix}
use Rattle.alm_rings.specs.Placed.{AreApart}

pub here : {A : Type 0} (xs ys : List A) (x : A) → slice_get (xs ++ x ∷ ys) (length xs) ≡ Some x
here [] ys x = refl
here (y ∷ xs) ys x = here xs ys x

pub before : {A : Type 0} (xs ys : List A) (k : ℕ) (x : A) → slice_get xs k ≡ Some x → slice_get (xs ++ ys) k ≡ Some x
before [] ys k x is = absurd (none-some x is)
before (y ∷ xs) ys zero x is = is
before (y ∷ xs) ys (suc k) x is = before xs ys k x is

-- those before an element have other numbers
pub others : {A : Type 0} (number : A → ℕ) (all xs ys : List A) (x : A) → AreApart number all → all ≡ xs ++ x ∷ ys → (j : ℕ) (y : A) → slice_get xs j ≡ Some y → number y ≢ number x
others number all xs ys x apart is j y at = λ same.
    let mine : slice_get all (length xs) ≡ Some x = ap (λ l. slice_get l (length xs)) is ∙ here xs ys x in
    let its : slice_get all j ≡ Some y = ap (λ l. slice_get l j) is ∙ before xs (x ∷ ys) j y at in
    omega (arith, apart j (length xs) y x its mine same, slice_get_within xs j y at)

pub prefix_length : {A : Type 0} (xs ys : List A) → IsPrefix xs ys → length xs ≤ length ys
prefix_length xs ys prefix = omega (arith, length-append xs prefix.0, ap length prefix.1)

pub is_there : {A : Type 0} (o : Option A) → o ≡ None → IsSome o → ⊥
is_there None is some = absurd (cc some)
is_there (Some a) is some = none-some a (sym is)

pub there_is : {A : Type 0} (o : Option A) → IsSome o → (a : A) × (o ≡ Some a)
there_is None some = absurd (cc some)
there_is (Some a) some = (a, refl)
