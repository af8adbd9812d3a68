-- Laws of the last of a list, and of turned lists.
use Rattle.std.proofs.Common.{◌≡◌, ◌≤◌, ◌<◌, ◌+◌, ◌-◌, ℕ, suc, List, [], ◌∷◌, ◌++◌, length, take, drop, sym, ◌∙◌, ap, arith, length-append, length-drop, length-set, append_assoc, append-nil, drop-drop, drop-set-lt}
use Rattle.std.specs.Prelude.{slice_get, slice_set, Some}
use Rattle.std.proofs.lemmas.List.{drop-append-le, drop_all, take_all, length-take-le, take_more_set, get_or-drop}
use Rattle.std.proofs.lemmas.Option.{slice_get_within, get_or_from_slice_get}
use Rattle.std.proofs.Math.Seq.{take-suc}
use Rattle.alm_events.specs.Events.{last}
use Rattle.alm_events.specs.Turning.{turned}

pub turned_length : {A : Type 0} (at : ℕ) (xs : List A) → at ≤ length xs → length (turned at xs) ≡ length xs
turned_length at xs le = omega (arith, length-append (drop at xs) (take at xs), length-drop at xs, length-take-le at xs le)

-- one more of a part of a list
pub one_more_taken : {A : Type 0} (xs : List A) (from n : ℕ) (x : A) → slice_get xs (from + n) ≡ Some x → take (n + 1) (drop from xs) ≡ take n (drop from xs) ++ x ∷ []
one_more_taken xs from n x is =
    let within = slice_get_within xs (from + n) x is in
    let there : n < length (drop from xs) = omega (arith, within, length-drop from xs) in
    let next : n + 1 ≡ suc n = omega arith in
    ap (λ k. take k (drop from xs)) next
    ∙ (take-suc (drop from xs) n x there
    ∙ ap (λ y. take n (drop from xs) ++ y ∷ []) (get_or-drop from xs n x ∙ get_or_from_slice_get xs (from + n) x x is))

-- the oldest of a full list is overwritten, and the next one is the oldest
pub overwritten : {A : Type 0} (at next : ℕ) (xs : List A) (y : A) → at < length xs → drop next (slice_set xs at y) ++ take next (slice_set xs at y) ≡ drop (at + 1) xs ++ (take at xs ++ y ∷ []) → turned next (slice_set xs at y) ≡ last (length xs) (turned at xs ++ y ∷ [])
overwritten at next xs y within is =
    let long = turned_length at xs (omega (arith, within)) in
    let one : length (turned at xs ++ y ∷ []) - length xs ≡ 1 = omega (arith, long, length-append (turned at xs) (y ∷ [])) in
    let some : 1 ≤ length (drop at xs) = omega (arith, within, length-drop at xs) in
    let gone : drop 1 (turned at xs ++ y ∷ []) ≡ drop (at + 1) xs ++ (take at xs ++ y ∷ []) =
    ap (λ l. drop 1 l) (append_assoc (drop at xs) (take at xs) (y ∷ []))
    ∙ (drop-append-le 1 (drop at xs) (take at xs ++ y ∷ []) some
    ∙ ap (λ l. l ++ (take at xs ++ y ∷ [])) (drop-drop 1 at xs)) in
    is ∙ (sym gone ∙ ap (λ n. drop n (turned at xs ++ y ∷ [])) (sym one))

pub overwritten_within : {A : Type 0} (at : ℕ) (xs : List A) (y : A) → at < length xs → turned (at + 1) (slice_set xs at y) ≡ last (length xs) (turned at xs ++ y ∷ [])
overwritten_within at xs y within =
    overwritten at (at + 1) xs y within
    (ap (λ l. l ++ take (at + 1) (slice_set xs at y)) (drop-set-lt (at + 1) xs at y (omega arith)) ∙ ap (λ l. drop (at + 1) xs ++ l) (take_more_set xs at y within))

pub overwritten_last : {A : Type 0} (at : ℕ) (xs : List A) (y : A) → at + 1 ≡ length xs → turned 0 (slice_set xs at y) ≡ last (length xs) (turned at xs ++ y ∷ [])
overwritten_last at xs y is =
    let all : take (at + 1) (slice_set xs at y) ≡ slice_set xs at y = take_all (at + 1) (slice_set xs at y) (omega (arith, length-set xs at y, is)) in
    let none : drop (at + 1) xs ≡ [] = drop_all (at + 1) xs (omega (arith, is)) in
    overwritten at 0 xs y (omega (arith, is))
    (append-nil (slice_set xs at y) ∙ (sym all ∙ (take_more_set xs at y (omega (arith, is)) ∙ ap (λ l. l ++ (take at xs ++ y ∷ [])) (sym none))))
