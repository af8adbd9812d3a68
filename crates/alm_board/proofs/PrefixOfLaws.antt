-- Laws of prefixes.
use Rattle.std.proofs.Common.{◌≡◌, ◌≤◌, List, ◌++◌, length, take, drop, sym, ◌∙◌, ap, subst, arith, length-append}
use Rattle.std.proofs.lemmas.List.{take-append-drop, take-append-le}
use Rattle.std.proofs.Math.Seq.{take-append_seam, take-length}
use mathlib.Core.List.{IsPrefix}
use Rattle.alm_board.specs.PrefixesOf.{IsPrefixOf}

pub prefix_of_appended : {A : Type 0} (xs ys : List A) → IsPrefixOf xs (xs ++ ys)
prefix_of_appended xs ys = take-append_seam xs ys

pub prefix_of_self : {A : Type 0} (xs : List A) → IsPrefixOf xs xs
prefix_of_self xs = take-length xs

pub prefix_of_joined : {A : Type 0} (xs rest ys : List A) → xs ++ rest ≡ ys → IsPrefixOf xs ys
prefix_of_joined xs rest ys is = subst (λ (l : List _). take (length xs) l ≡ xs) is (prefix_of_appended xs rest)

pub prefix_of_prefix : {A : Type 0} (xs ys : List A) → IsPrefix xs ys → IsPrefixOf xs ys
prefix_of_prefix xs ys p = prefix_of_joined xs p.0 ys p.1

-- what follows a prefix
pub rest_of : {A : Type 0} (xs ys : List A) → IsPrefixOf xs ys → xs ++ drop (length xs) ys ≡ ys
rest_of xs ys prefix = ap (λ l. l ++ drop (length xs) ys) (sym prefix) ∙ take-append-drop (length xs) ys

pub prefix_of_length : {A : Type 0} (xs ys : List A) → IsPrefixOf xs ys → length xs ≤ length ys
prefix_of_length xs ys prefix = omega (arith, ap length (rest_of xs ys prefix), length-append xs (drop (length xs) ys))

pub prefix_of_more : {A : Type 0} (xs ys zs : List A) → IsPrefixOf xs ys → IsPrefixOf xs (ys ++ zs)
prefix_of_more xs ys zs prefix = take-append-le (length xs) ys zs (prefix_of_length xs ys prefix) ∙ prefix

pub prefix_of_trans : {A : Type 0} (xs ys zs : List A) → IsPrefixOf xs ys → IsPrefixOf ys zs → IsPrefixOf xs zs
prefix_of_trans xs ys zs p q = subst (λ (l : List _). take (length xs) l ≡ xs) (rest_of ys zs q) (prefix_of_more xs ys (drop (length ys) zs) p)

-- of two prefixes of one list the shorter is a prefix of the longer
pub prefix_of_shorter : {A : Type 0} (xs ys zs : List A) → IsPrefixOf xs zs → IsPrefixOf ys zs → length xs ≤ length ys → IsPrefixOf xs ys
prefix_of_shorter xs ys zs p q le = sym (take-append-le (length xs) ys (drop (length ys) zs) le) ∙ (ap (λ l. take (length xs) l) (rest_of ys zs q) ∙ p)
