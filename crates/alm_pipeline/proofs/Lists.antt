-- Lists that a bench compares with its world's.
use Rattle.std.proofs.Common.{◌≡◌, ◌<◌, suc, List, [], ◌∷◌, ◌++◌, length, Some, slice_get, refl, sym, ◌∙◌, ap, subst, arith, append_assoc}
use mathlib.Core.List.{IsPrefix}
use Rattle.alm_types.specs.Batches.{Judged}
use Rattle.alm_types.specs.declared.entry.Entry.{Entry}
use Rattle.alm_pipeline.specs.Matches.{entries_of}

pub cancel : {A : Type 0} (xs ys zs : List A) → xs ++ ys ≡ xs ++ zs → ys ≡ zs
cancel [] ys zs is = is
cancel (x ∷ xs) ys zs is = cancel xs ys zs (cc is)

pub lists_append : (xs ys : List Judged) → entries_of (xs ++ ys) ≡ entries_of xs ++ entries_of ys
lists_append [] ys = refl
lists_append (b ∷ xs) ys = ap (λ l. b.entries ∷ l) (lists_append xs ys)

pub get_seam : {A : Type 0} (xs ys : List A) (x : A) → slice_get (xs ++ (x ∷ ys)) (length xs) ≡ Some x
get_seam [] ys x = refl
get_seam (y ∷ xs) ys x = get_seam xs ys x

-- the first of those that were known to wait is the one that came
pub head_is : {A : Type 0} (known later : List A) (x : A) → 0 < length known → IsPrefix known (x ∷ later) → (rest : List A) × (known ≡ x ∷ rest)
head_is [] later x some p = absurd (omega arith)
head_is (y ∷ known) later x some p = let same : y ≡ x = cc (p.1) in (known, ap (λ z. z ∷ known) same)

pub taken_is : {A : Type 0} (taken known sent later : List A) (x : A) → taken ++ known ≡ sent → 0 < length known → IsPrefix known (x ∷ later) → slice_get sent (length taken) ≡ Some x
taken_is taken known sent later x all some p =
    let h = head_is known later x some p in
    subst (λ (l : List _). slice_get l (length taken) ≡ Some x) (ap (λ k. taken ++ k) (sym h.1) ∙ all) (get_seam taken h.0 x)

-- the batch that came is the first of the world's sealed ones
pub next_sealed : (fetched coming sealed later : List Judged) (b : Judged) (waiting : List (List Entry)) → fetched ++ coming ≡ sealed → entries_of sealed ≡ entries_of fetched ++ waiting → 0 < length coming → IsPrefix coming (b ∷ later) → (rest : List (List Entry)) × (waiting ≡ b.entries ∷ rest) × (entries_of sealed ≡ entries_of (fetched ++ b ∷ []) ++ rest)
next_sealed fetched coming sealed later b waiting all is some p =
    let h = head_is coming later b some p in
    let split : entries_of sealed ≡ entries_of fetched ++ (b.entries ∷ entries_of h.0) =
    ap entries_of (sym all) ∙ (lists_append fetched coming ∙ ap (λ l. entries_of fetched ++ entries_of l) h.1) in (
      entries_of h.0,
      cancel (entries_of fetched) waiting (b.entries ∷ entries_of h.0) (sym is ∙ split),
      split ∙ (sym (append_assoc (entries_of fetched) (b.entries ∷ []) (entries_of h.0)) ∙ ap (λ l. l ++ entries_of h.0) (sym (lists_append fetched (b ∷ [])))),
    )

-- none waits if none is known to
pub none_sealed : (fetched coming sealed : List Judged) (waiting : List (List Entry)) → fetched ++ coming ≡ sealed → entries_of sealed ≡ entries_of fetched ++ waiting → ¬ (0 < length coming) → ¬ (0 < length waiting)
none_sealed fetched [] sealed waiting all is none some =
    let e : waiting ≡ [] = cancel (entries_of fetched) waiting [] (sym is ∙ (ap entries_of (sym all) ∙ lists_append fetched [])) in
    absurd (omega (arith, ap length e))
none_sealed fetched (b ∷ coming) sealed waiting all is none some = none (omega arith)

pub lists_length : (bs : List Judged) → length (entries_of bs) ≡ length bs
lists_length [] = refl
lists_length (b ∷ bs) = ap suc (lists_length bs)
