-- Texts of the items of a list, one after the other.
use Rattle.std.proofs.Common.{◌≡◌, ℕ, ◌+◌, ◌<◌, List, [], ◌∷◌, ◌++◌, Option, length, take, drop, get_or, sym, ap, ◌∙◌, take-append-drop}
use Rattle.std.proofs.lemmas.List.{take_more, append-nil}
use Rattle.std.proofs.lemmas.Grind.{flat_map-append}
use Rattle.std.specs.List.{flat_map}
use Rattle.std.specs.Io.KnownBytes.{Appends}
use Rattle.std.proofs.KnownBytes.{Appends-trans}
use Rattle.alm_lines.specs.Written.{IsCutShort}
use Rattle.alm_lines.proofs.Prefixes.{cut_in_first, cut_in_second}

-- one item more
flat_more : {A : Type 0} (f : A → List ℕ) (xs : List A) (i : ℕ) (d : A) → i < length xs → flat_map f (take (i + 1) xs) ≡ flat_map f (take i xs) ++ f (get_or xs i d)
flat_more {A} f xs i d h =
    ap (flat_map f) (take_more xs i d h) ∙ flat_map-append f (take i xs) (get_or xs i d ∷ []) ∙ ap (λ (t : List ℕ). flat_map f (take i xs) ++ t) (append-nil (f (get_or xs i d)))

flat_split : {A : Type 0} (f : A → List ℕ) (xs : List A) (i : ℕ) (d : A) → i < length xs
    → flat_map f xs ≡ (flat_map f (take i xs) ++ f (get_or xs i d)) ++ flat_map f (drop (i + 1) xs)
flat_split {A} f xs i d h =
    ap (flat_map f) (sym (take-append-drop (i + 1) xs)) ∙ flat_map-append f (take (i + 1) xs) (drop (i + 1) xs)
    ∙ ap (λ (t : List ℕ). t ++ flat_map f (drop (i + 1) xs)) (flat_more f xs i d h)

-- the text of one item more was written
pub wrote_more : {A : Type 0} (f : A → List ℕ) (xs : List A) (i : ℕ) (d : A) (o m n : Option (List ℕ)) → i < length xs
    → Appends o m (flat_map f (take i xs)) → Appends m n (f (get_or xs i d)) → Appends o n (flat_map f (take (i + 1) xs))
wrote_more {A} f xs i d o m n h p q = rw (flat_more f xs i d h) (Appends-trans o m n (flat_map f (take i xs)) (f (get_or xs i d)) p q)

-- the text of an item was cut short
pub cut_in_item : {A : Type 0} (f : A → List ℕ) (xs : List A) (i : ℕ) (d : A) (o m n : Option (List ℕ)) → i < length xs
    → Appends o m (flat_map f (take i xs)) → IsCutShort m n (f (get_or xs i d)) → IsCutShort o n (flat_map f xs)
cut_in_item {A} f xs i d o m n h p q = rw (flat_split f xs i d h) (cut_in_first (cut_in_second (flat_map f (take i xs)) p q) (flat_map f (drop (i + 1) xs)))
