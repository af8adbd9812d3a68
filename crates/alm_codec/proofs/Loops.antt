-- Reading fields of one kind one after the other, as a loop does.
use Rattle.std.proofs.Common.{◌≡◌, ℕ, suc, ◌-◌, ◌+◌, ◌≤◌, ◌<◌, List, [], ◌∷◌, ◌++◌, Result, Ok, Err, refl, sym, ap, ◌∙◌, append_assoc, arith}
use Rattle.std.proofs.lemmas.List.{append-nil}
use Rattle.alm_codec.specs.declared.stop.Stop.{Stop}
use Rattle.alm_codec.specs.declared.stop.Stop.TheVariants as stop
use Rattle.alm_codec.specs.Reading.{◌>>=◌, Stops}
use Rattle.alm_codec.specs.Format.{Format, read_each}

-- what was read before, and what is still read
abbrev pub with_front : {A : Type 0} → List A → Result (List A × List ℕ) ℕ → Result (List A × List ℕ) ℕ
with_front front read = read >>= λ x. Ok (front ++ x.0, x.1)

regroup : {A : Type 0} (front : List A) (a : A) (read : Result (List A × List ℕ) ℕ) → with_front front (read >>= λ x. Ok (a ∷ x.0, x.1)) ≡ with_front (front ++ a ∷ []) read
regroup {A = A} front a (Ok x) = ap (λ (list : List A). Ok (list, x.1)) (sym (append_assoc front (a ∷ []) x.0))
regroup front a (Err f) = refl

pub goes_on : {S A : Type 0} (f : S → Format A) (next : S → A → S) (front : List A) (s : S) (count i : ℕ) (bytes : List ℕ) (a : A) (after : List ℕ) (total : Result (List A × List ℕ) ℕ) → i < count → (f s).read bytes ≡ Ok (a, after)
    → with_front front (read_each f next s (count - i) bytes) ≡ total → with_front (front ++ a ∷ []) (read_each f next (next s a) (count - (i + 1)) after) ≡ total
unfolding read_each
goes_on f next front s count i bytes a after total lt h so_far =
    let k : count - i ≡ suc (count - (i + 1)) = omega arith in
    let one : with_front front (read_each f next s (count - i) bytes) ≡ with_front (front ++ a ∷ []) (read_each f next (next s a) (count - (i + 1)) after) =
    ap (λ (n : ℕ). with_front front (read_each f next s n bytes)) k
    ∙ ap (λ r. with_front front (r >>= λ a. read_each f next (next s a.0) (count - (i + 1)) a.1 >>= λ others. Ok (a.0 ∷ others.0, others.1))) h
    ∙ regroup front a (read_each f next (next s a) (count - (i + 1)) after) in
    sym one ∙ so_far

pub ends : {S A : Type 0} (f : S → Format A) (next : S → A → S) (e : Stop) (front : List A) (s : S) (count i : ℕ) (bytes : List ℕ) (total : Result (List A × List ℕ) ℕ) → i < count → Stops e ((f s).read bytes)
    → with_front front (read_each f next s (count - i) bytes) ≡ total → Stops e total
unfolding read_each
ends f next stop.Memory front s count i bytes total lt h so_far = tt
ends f next (stop.Field left) front s count i bytes total lt h so_far =
    let k : count - i ≡ suc (count - (i + 1)) = omega arith in
    let one : with_front front (read_each f next s (count - i) bytes) ≡ Err left.0 =
    ap (λ (n : ℕ). with_front front (read_each f next s n bytes)) k
    ∙ ap (λ r. with_front front (r >>= λ a. read_each f next (next s a.0) (count - (i + 1)) a.1 >>= λ others. Ok (a.0 ∷ others.0, others.1))) h in
    sym so_far ∙ one

pub fails : {S A : Type 0} (f : S → Format A) (next : S → A → S) (left : ℕ) (front : List A) (s : S) (count i : ℕ) (bytes : List ℕ) (total : Result (List A × List ℕ) ℕ) → i < count → (f s).read bytes ≡ Err left
    → with_front front (read_each f next s (count - i) bytes) ≡ total → total ≡ Err left
fails f next left front s count i bytes total lt h so_far = ends f next (stop.Field (record { 0 = left })) front s count i bytes total lt h so_far

pub is_done : {S A : Type 0} (f : S → Format A) (next : S → A → S) (front : List A) (s : S) (count i : ℕ) (bytes : List ℕ) (total : Result (List A × List ℕ) ℕ) → count ≤ i → with_front front (read_each f next s (count - i) bytes) ≡ total → total ≡ Ok (front, bytes)
unfolding read_each
is_done {A = A} f next front s count i bytes total le so_far =
    let k : count - i ≡ 0 = omega arith in
    let one : with_front front (read_each f next s (count - i) bytes) ≡ Ok (front, bytes) = ap (λ (n : ℕ). with_front front (read_each f next s n bytes)) k ∙ ap (λ (list : List A). Ok (list, bytes)) (append-nil front) in
    sym so_far ∙ one
