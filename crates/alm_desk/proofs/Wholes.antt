-- Holding 128 bytes of a line is as good as holding all of it.
use Rattle.std.proofs.Common.{◌≡◌, ℕ, ◌≤◌, true, false, List, [], ◌∷◌, ◌++◌, ◌+◌, length, take, refl, ap, sym, ◌∙◌, arith, inl, inr, nat_lt, zero, suc}
use Rattle.std.specs.Prelude.{map, slice_set}
use Rattle.std.proofs.lemmas.Bool.{cases_Bool}
use Rattle.std.proofs.lemmas.List.{take_all, length-take-le, take-append-le, take-take}
use Rattle.alm_lines.specs.Line.{line_of}
use Rattle.alm_lines.specs.Stream.{is_end, held_after}
use Rattle.alm_desk.specs.Desks.{Tagged, line_held_at, after_byte, lines_among}
use Rattle.alm_desk.specs.Whole.{whole_after, whole_lines}

-- a line of which 128 bytes are held
is-long : (n m : ℕ) → nat_lt n m ≡ true → n + 1 ≤ m
is-long n m e = grind arith

is-short : (n m : ℕ) → nat_lt n m ≡ false → m ≤ n
is-short n m e = grind arith

long-is : (n m : ℕ) → n + 1 ≤ m → nat_lt n m ≡ true
long-is n m e = grind arith

short-line : (xs : List ℕ) → line_of (take 128 xs) ≡ line_of xs
short-line xs =
    elim (cases_Bool (nat_lt 127 (length xs))) [
      | inl hit ↦
          (let many : 128 ≤ length xs = omega (arith, is-long 127 (length xs) hit) in
          let held : length (take 128 xs) ≡ 128 = length-take-le 128 xs many in
          let long : nat_lt 127 (length (take 128 xs)) ≡ true = long-is 127 (length (take 128 xs)) (omega (arith, held)) in
          rw (hit, long) refl)
      | inr miss ↦ (let few : length xs ≤ 128 = omega (arith, is-short 127 (length xs) miss) in ap line_of (take_all 128 xs few))
    ]

-- a byte more
more-of : (n : ℕ) (xs : List ℕ) (b : ℕ) → take n (take n xs ++ b ∷ []) ≡ take n (xs ++ b ∷ [])
more-of n xs b =
    elim (cases_Bool (nat_lt n (length xs))) [
      | inl hit ↦
          (let many : n ≤ length xs = omega (arith, is-long n (length xs) hit) in
          let held : n ≤ length (take n xs) = omega (arith, length-take-le n xs many) in
          take-append-le n (take n xs) (b ∷ []) held ∙ take-take n n xs (omega arith) ∙ sym (take-append-le n xs (b ∷ []) many))
      | inr miss ↦ ap (λ (ys : List ℕ). take n (ys ++ b ∷ [])) (take_all n xs (is-short n (length xs) miss))
    ]

short-more : (xs : List ℕ) (b : ℕ) → take 128 (take 128 xs ++ b ∷ []) ≡ take 128 (xs ++ b ∷ [])
short-more xs b = more-of 128 xs b

short-after : (xs : List ℕ) (b : ℕ) → held_after (take 128 xs) b ≡ take 128 (whole_after xs b)
short-after xs b = elim (cases_Bool (is_end b)) [ inl hit ↦ rw hit refl | inr miss ↦ rw miss (short-more xs b) ]

-- what is held at a slot
held-map : (wholes : List (List ℕ)) (slot : ℕ) → line_held_at (map (take 128) wholes) slot ≡ take 128 (line_held_at wholes slot)
held-map [] slot = refl
held-map (w ∷ wholes) zero = refl
held-map (w ∷ wholes) (suc slot) = held-map wholes slot

set-map : (wholes : List (List ℕ)) (slot : ℕ) (x : List ℕ) → slice_set (map (take 128) wholes) slot (take 128 x) ≡ map (take 128) (slice_set wholes slot x)
set-map [] slot x = refl
set-map (w ∷ wholes) zero x = refl
set-map (w ∷ wholes) (suc slot) x = ap (λ (rest : List (List ℕ)). take 128 w ∷ rest) (set-map wholes slot x)

after-map : (wholes : List (List ℕ)) (t : Tagged) → after_byte (map (take 128) wholes) t ≡ map (take 128) (slice_set wholes t.slot (whole_after (line_held_at wholes t.slot) t.byte))
after-map wholes t =
    ap (λ (x : List ℕ). slice_set (map (take 128) wholes) t.slot (held_after x t.byte)) (held-map wholes t.slot)
    ∙ ap (λ (x : List ℕ). slice_set (map (take 128) wholes) t.slot x) (short-after (line_held_at wholes t.slot) t.byte)
    ∙ set-map wholes t.slot (whole_after (line_held_at wholes t.slot) t.byte)

line-map : (wholes : List (List ℕ)) (slot : ℕ) → line_of (line_held_at (map (take 128) wholes) slot) ≡ line_of (line_held_at wholes slot)
line-map wholes slot = ap line_of (held-map wholes slot) ∙ short-line (line_held_at wholes slot)

pub lines-whole : (wholes : List (List ℕ)) (bytes : List Tagged) → lines_among (map (take 128) wholes) bytes ≡ whole_lines wholes bytes
lines-whole wholes [] = refl
lines-whole wholes (t ∷ ts) =
    let next = slice_set wholes t.slot (whole_after (line_held_at wholes t.slot) t.byte) in
    let rest : lines_among (after_byte (map (take 128) wholes) t) ts ≡ whole_lines next ts =
    ap (λ (helds : List (List ℕ)). lines_among helds ts) (after-map wholes t) ∙ lines-whole next ts in
    let line = line-map wholes t.slot in
    elim (cases_Bool (is_end t.byte)) [
      | inl hit ↦ (let first : lines_among (map (take 128) wholes) (t ∷ ts) ≡ (record { slot = t.slot; line = line_of (line_held_at (map (take 128) wholes) t.slot) } ∷ lines_among (after_byte (map (take 128) wholes) t) ts) = rw hit refl in
          first ∙ (λ i. record { slot = t.slot; line = line i } ∷ rest i) ∙ rw hit refl)
      | inr miss ↦ (let first : lines_among (map (take 128) wholes) (t ∷ ts) ≡ lines_among (after_byte (map (take 128) wholes) t) ts = rw miss refl in first ∙ rest ∙ rw miss refl)
    ]
