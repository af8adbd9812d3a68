-- A ring that is turned.
use Rattle.std.proofs.Common.{◌≡◌, ℕ, ◌+◌, ◌<◌, List, [], ◌∷◌, ◌++◌, length, take, drop, set, get_or, suc, refl, sym, ap, ◌∙◌, arith}
use Rattle.std.proofs.lemmas.Grind.{common_steps}
use Rattle.std.proofs.lemmas.List.{drop-set, take-set, take_more, take_all, drop_all, append_assoc, append-nil, take_at}
use Rattle.alm_measure.specs.Rings.{rotated}

-- all but the second at a place, the newest first
abbrev pub behind : ℕ → List ℕ → List ℕ
behind place counts = drop (place + 1) counts ++ take place counts

length-behind : (place : ℕ) (counts : List ℕ) → place < length counts → length (behind place counts) + 1 ≡ length counts
length-behind place counts l = grind (arith, common_steps)

-- a ring that begins with a place
turned-set : (place n : ℕ) (counts : List ℕ) → place < length counts → rotated place (set counts place n) ≡ n ∷ behind place counts
turned-set place n counts l = let d = drop-set counts place n l in let t = take-set counts place n in cc

-- a ring that ends with a place: it begins with the next one, or, from the last place, with the first
pub turned-last : (place next : ℕ) (counts : List ℕ) → place < length counts → next ≡ place + 1 → rotated next counts ≡ behind place counts ++ get_or counts place 0 ∷ []
turned-last place next counts l e =
    rw e (ap (λ xs. drop (place + 1) counts ++ xs) (take_more counts place 0 l) ∙ sym (append_assoc (drop (place + 1) counts) (take place counts) (get_or counts place 0 ∷ [])))

turned-round : (n : ℕ) (counts : List ℕ) → length counts ≡ n → rotated 0 counts ≡ rotated n counts
turned-round n counts e =
    let all : take n counts ≡ counts = take_all n counts (omega arith) in
    let none : drop n counts ≡ [] = drop_all n counts (omega arith) in
    append-nil counts ∙ rw (none, all) refl

pub turned-last_place : (place next : ℕ) (counts : List ℕ) → place + 1 ≡ length counts → next ≡ 0 → rotated next counts ≡ behind place counts ++ get_or counts place 0 ∷ []
turned-last_place place next counts e z =
    rw z (turned-round (place + 1) counts (sym e) ∙ turned-last place (place + 1) counts (omega arith) refl)

-- a second passes: the oldest count makes room for the present second
pub ticked : (n place : ℕ) (counts ages : List ℕ) → length counts ≡ suc n → place < length counts → ages ≡ behind place counts ++ get_or counts place 0 ∷ []
    → rotated place (set counts place 0) ≡ 0 ∷ take n ages
ticked n place counts ages s l e =
    let short : length (behind place counts) ≡ n = let b = length-behind place counts l in omega arith in
    rw (turned-set place 0 counts l, e) (ap (λ xs. 0 ∷ xs) (sym (take_at (behind place counts) (get_or counts place 0 ∷ []) n short)))

-- as many seconds as before
pub length-turned : (place : ℕ) (counts : List ℕ) → place < length counts → length (rotated place counts) ≡ length counts
length-turned place counts l = grind (arith, common_steps)
