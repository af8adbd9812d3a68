-- The last byte is set.
use Rattle.std.proofs.Common.{◌≡◌, ◌≤◌, ℕ, ◌+◌, ◌-◌, List, [], ◌∷◌, ◌++◌, length, set, slice_set, take, drop, refl, sym, append_assoc, ◌∙◌, ap, arith, length-drop}
use Rattle.std.proofs.lemmas.List.{append-nil, take_more_set, drop-drop}
use Rattle.std.proofs.Math.Seq.{take-set-lt}
use borrow.Rule.Slice.PartMut.{put_mid}

last_set : (xs ys : List ℕ) (y : ℕ) → length ys ≡ 1 → set (xs ++ ys) (length xs) y ≡ xs ++ y ∷ []
last_set [] [] y long = absurd (omega arith)
last_set [] (a ∷ []) y long = refl
last_set [] (a ∷ b ∷ ys) y long = absurd (omega arith)
last_set (x ∷ xs) ys y long = ap (λ (l : List ℕ). x ∷ l) (last_set xs ys y long)

pub set_behind : (text old new : List ℕ) (n y : ℕ) → new ≡ text ++ drop n old → n ≡ length text → length old ≡ 1 + n → set new n y ≡ text ++ y ∷ []
set_behind text old new n y is long size = (λ i. set (is i) (long i) y) ∙ last_set text (drop n old) y (omega (arith, length-drop n old, size))

all_gone : (xs : List ℕ) → drop (length xs) xs ≡ []
all_gone [] = refl
all_gone (x ∷ xs) = all_gone xs

-- the first byte is set, and then all after it
pub set_before : (out new : List ℕ) (y : ℕ) → 1 ≤ length out → put_mid 1 (length (slice_set out 0 y) - 1) (slice_set out 0 y) new ≡ y ∷ new
set_before [] new y long = absurd (omega arith)
set_before (x ∷ out) new y long = ap (λ (k : ℕ). put_mid 1 k (y ∷ out) new) less ∙ ap (λ (l : List ℕ). y ∷ (new ++ l)) (all_gone out) ∙ ap (λ (l : List ℕ). y ∷ l) (append-nil new)
  where
    less : length (x ∷ out) - 1 ≡ length out
    less = omega arith

regroup : (f b d : List ℕ) (g : ℕ) → (f ++ g ∷ []) ++ (b ++ d) ≡ f ++ (g ∷ b) ++ d
regroup f b d g = simp append_assoc

-- the last byte of a prefix is set, and what follows it
pub set_between : (out front back new body : List ℕ) (run m y : ℕ) → front ≡ take run out → back ≡ drop run out → new ≡ body ++ drop m back → 1 ≤ run → run ≤ length out
    → slice_set front (run - 1) y ++ new ≡ take (run - 1) out ++ (y ∷ body) ++ drop (run + m) out
set_between out front back new body run m y front_is back_is new_is some within =
    (λ i. slice_set (front_is i) (run - 1) y ++ new_is i)
    ∙ (λ i. set_front i ++ (body ++ behind i))
    ∙ regroup (take (run - 1) out) body (drop (run + m) out) y
  where
    last : run - 1 + 1 ≡ run
    last = omega (arith, some)

    set_front : slice_set (take run out) (run - 1) y ≡ take (run - 1) out ++ y ∷ []
    set_front = sym (take-set-lt run out (run - 1) y (omega (arith, some))) ∙ ap (λ (n : ℕ). take n (set out (run - 1) y)) (sym last) ∙ take_more_set out (run - 1) y (omega (arith, some, within))

    behind : drop m back ≡ drop (run + m) out
    behind = ap (drop m) back_is ∙ drop-drop m run out
