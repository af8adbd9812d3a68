-- Lists that are taken from the start, one element after the other.
use Rattle.std.proofs.Common.{◌≡◌, ◌∙◌, ◌++◌, List, [], ◌∷◌, length, Some, slice_get, append-nil, refl, sym, subst}

at_seam : {A : Type 0} (xs ys : List A) (y : A) → slice_get (xs ++ y ∷ ys) (length xs) ≡ Some y
at_seam [] ys y = refl
at_seam (x ∷ xs) ys y = at_seam xs ys y

-- after those that were taken comes the next one
pub at_end : {A : Type 0} (xs ys zs : List A) (y : A) → xs ++ y ∷ ys ≡ zs → slice_get zs (length xs) ≡ Some y
at_end xs ys zs y is = subst (λ l. slice_get l (length xs) ≡ Some y) is (at_seam xs ys y)

-- if none is left all were taken
pub none_left : {A : Type 0} (xs ys zs : List A) → xs ++ ys ≡ zs → length ys ≡ 0 → xs ≡ zs
none_left xs [] zs is e = sym (append-nil xs) ∙ is
none_left xs (y ∷ ys) zs is e = absurd cc
