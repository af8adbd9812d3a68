-- Which stamps were seen.
use Rattle.std.proofs.Common.{◌≡◌, ◌≢◌, ℕ, ◌<◌, Bool, true, false, eqb, List, [], ◌∷◌, ◌⊎◌, inl, inr, refl, sym, ◌∙◌, arith}
use Rattle.std.specs.declared.cmp.Ordering.{Ordering}
use Rattle.std.specs.declared.cmp.Ordering.TheVariants.{Less, Equal, Greater}
use Rattle.std.specs.Ordering.{nat_cmp, match_ordering, is_eq}
use Rattle.std.specs.BTreeSet.{insert_key}
use Rattle.std.proofs.lemmas.Bool.{cases_order, lt-ltb, le-ltb, ne_eqb, eqb-false}
use Rattle.alm_codec.specs.ImageFields.{is_among, seen_then}

nat_cmp-same : (n : ℕ) → is_eq (nat_cmp n n) ≡ true
nat_cmp-same n = rw (le-ltb n n (omega arith)) (grind arith)

nat_cmp-other : (n m : ℕ) → n ≢ m → is_eq (nat_cmp n m) ≡ false
nat_cmp-other n m d =
    elim (cases_order n m) [
      | inl e ↦ absurd (d e)
      | inr more ↦ elim more [
        | inl lt ↦ rw (lt-ltb n m lt) refl
        | inr gt ↦ rw (le-ltb n m (omega (arith, gt)), ne_eqb n m d) refl
      ]
    ]

true_or_not : (b : Bool) → (b ≡ true) ⊎ (b ≡ false)
true_or_not true = inl refl
true_or_not false = inr refl

pub clash : true ≡ false → ⊥
clash e = cc

above : (m : ℕ) → eqb m 0 ≡ false → 0 < m
above m f = omega (arith, λ (e : m ≡ 0). eqb-false m 0 f e)

-- what was there stays, after whatever is inserted
keeps-at : (o : Ordering) (n m x : ℕ) (xs more : List ℕ) → (is_among n xs ≡ true → is_among n more ≡ true) → is_among n (x ∷ xs) ≡ true → is_among n (match_ordering o (m ∷ x ∷ xs) (x ∷ xs) (x ∷ more)) ≡ true
keeps-at Less n m x xs more ih h = elim (true_or_not (is_eq (nat_cmp n m))) [ inl t ↦ rw t refl | inr f ↦ rw f h ]
keeps-at Equal n m x xs more ih h = h
keeps-at Greater n m x xs more ih h = elim (true_or_not (is_eq (nat_cmp n x))) [ inl t ↦ rw t refl | inr f ↦ rw f (ih (rw f at h)) ]

stays : (n m : ℕ) (seen : List ℕ) → is_among n seen ≡ true → is_among n (insert_key nat_cmp seen m) ≡ true
stays n m [] h = absurd cc
stays n m (x ∷ xs) h = keeps-at (nat_cmp m x) n m x xs (insert_key nat_cmp xs m) (stays n m xs) h

-- what is inserted is there
comes-at : (o : Ordering) (n x : ℕ) (xs more : List ℕ) → nat_cmp n x ≡ o → is_among n more ≡ true → is_among n (match_ordering o (n ∷ x ∷ xs) (x ∷ xs) (x ∷ more)) ≡ true
comes-at Less n x xs more e h = rw (nat_cmp-same n) refl
comes-at Equal n x xs more e h = rw e refl
comes-at Greater n x xs more e h = rw e h

comes : (n : ℕ) (seen : List ℕ) → is_among n (insert_key nat_cmp seen n) ≡ true
comes n [] = rw (nat_cmp-same n) refl
comes n (x ∷ xs) = comes-at (nat_cmp n x) n x xs (insert_key nat_cmp xs n) refl (comes n xs)

-- what was not there comes by no other
misses-at : (o : Ordering) (n m x : ℕ) (xs more : List ℕ) → n ≢ m → (is_among n xs ≡ false → is_among n more ≡ false) → is_among n (x ∷ xs) ≡ false → is_among n (match_ordering o (m ∷ x ∷ xs) (x ∷ xs) (x ∷ more)) ≡ false
misses-at Less n m x xs more d ih h = rw (nat_cmp-other n m d) h
misses-at Equal n m x xs more d ih h = h
misses-at Greater n m x xs more d ih h = elim (true_or_not (is_eq (nat_cmp n x))) [ inl t ↦ absurd (clash (rw t at h)) | inr f ↦ rw f (ih (rw f at h)) ]

misses : (n m : ℕ) (seen : List ℕ) → n ≢ m → is_among n seen ≡ false → is_among n (insert_key nat_cmp seen m) ≡ false
misses n m [] d h = rw (nat_cmp-other n m d) refl
misses n m (x ∷ xs) d h = misses-at (nat_cmp m x) n m x xs (insert_key nat_cmp xs m) d (misses n m xs d) h

-- ---- stamps other than 0

pub then-comes : (n : ℕ) (seen : List ℕ) → 0 < n → is_among n (seen_then seen n) ≡ true
then-comes n seen lt = rw (ne_eqb n 0 (λ e. omega (arith, e))) (comes n seen)

then-stays : (n m : ℕ) (seen : List ℕ) → is_among n seen ≡ true → is_among n (seen_then seen m) ≡ true
then-stays n m seen h = elim (true_or_not (eqb m 0)) [ inl t ↦ rw t h | inr f ↦ rw f (stays n m seen h) ]

-- what is not there afterwards was not there before
pub then-before : (n m : ℕ) (seen : List ℕ) → is_among n (seen_then seen m) ≡ false → is_among n seen ≡ false
then-before n m seen h = elim (true_or_not (is_among n seen)) [ inl t ↦ absurd (clash (sym (then-stays n m seen t) ∙ h)) | inr f ↦ f ]

pub then-misses : (n m : ℕ) (seen : List ℕ) → (0 < m → n ≢ m) → is_among n seen ≡ false → is_among n (seen_then seen m) ≡ false
then-misses n m seen d h =
    elim (true_or_not (eqb m 0)) [
      | inl t ↦ rw t h
      | inr f ↦ rw f (misses n m seen (d (above m f)) h)
    ]
