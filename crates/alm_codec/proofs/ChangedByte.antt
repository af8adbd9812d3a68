-- A frame of version 03 of which one byte was changed is damage: its checksum is that of other bytes.
use Rattle.std.proofs.Common.{◌≡◌, ◌≢◌, inl, inr, ℕ, zero, suc, ◌+◌, ◌-◌, ◌*◌, ◌/◌, ◌%◌, ◌<◌, ◌≤◌, List, [], ◌∷◌, ◌++◌, length, get_or, take, drop, Result, Ok, Err, refl, sym, ◌∙◌, ap, subst, append_assoc, arith, length-append}
use Rattle.std.specs.List.{AllByRecursion}
use Rattle.std.specs.Int.{w32, from_be_bytes}
use Rattle.std.proofs.lemmas.Bool.{cases_lt}
use Rattle.std.proofs.lemmas.Nat.{from_be_bytes-to_be_bytes_4}
use Rattle.std.proofs.lemmas.List.{take_at, drop_at, take-append-le, drop-append-le, append_cancel_left, get_or_append_left}
use Rattle.std.proofs.lemmas.List.Elements.{All-from_recursion, recursion_from_All}
use Rattle.alm_codec.specs.declared.asked.Asked.{Asked}
use Rattle.alm_sum.specs.Crc.{checksum_of}
use Rattle.alm_sum.proofs.Bytes.{IsByte, AreBytes}
use Rattle.alm_sum.proofs.Changes.{few_changes}
use Rattle.alm_codec.specs.declared.version.Version.TheVariants.{V03}
use Rattle.alm_codec.specs.Reading.{IsBytes}
use Rattle.alm_codec.specs.Versions.{sum_text}
use Rattle.alm_codec.specs.Frames.{IsFrame, frame_head, frame_text, frame_at, texts_of, with_sum}
use Rattle.alm_codec.proofs.FrameBytes.{both, checksum_lt, head_bytes, texts_bytes}
use Rattle.alm_codec.proofs.Frames.{frame_there, text_length}

-- ---- a list with one place that differs

pub take_into : (front back : List ℕ) (a n k : ℕ) → n ≡ length front + 1 + k → take n (front ++ a ∷ back) ≡ front ++ a ∷ take k back
take_into [] back a zero k is = absurd (omega (arith, is))
take_into [] back a (suc n) k is = let same : n ≡ k = omega (arith, is) in ap (λ m. a ∷ take m back) same
take_into (f ∷ front) back a zero k is = absurd (omega (arith, is))
take_into (f ∷ front) back a (suc n) k is = ap (λ (l : List ℕ). f ∷ l) (take_into front back a n k (omega (arith, is)))

pub drop_into : (front back : List ℕ) (a n k : ℕ) → n ≡ length front + 1 + k → drop n (front ++ a ∷ back) ≡ drop k back
drop_into [] back a zero k is = absurd (omega (arith, is))
drop_into [] back a (suc n) k is = let same : n ≡ k = omega (arith, is) in ap (λ m. drop m back) same
drop_into (f ∷ front) back a zero k is = absurd (omega (arith, is))
drop_into (f ∷ front) back a (suc n) k is = drop_into front back a n k (omega (arith, is))

other_place : (front back : List ℕ) (a b k : ℕ) → k ≢ length front → get_or (front ++ a ∷ back) k 0 ≡ get_or (front ++ b ∷ back) k 0
other_place [] back a b zero not = absurd (not refl)
other_place [] back a b (suc k) not = refl
other_place (f ∷ front) back a b zero not = refl
other_place (f ∷ front) back a b (suc k) not = other_place front back a b k (λ is. not (ap suc is))

halves : (x y : List ℕ) → AllByRecursion IsByte (x ++ y) → AllByRecursion IsByte x × AllByRecursion IsByte y
halves [] y h = (tt, h)
halves (a ∷ x) y h = let rest = halves x y h.1 in ((h.0, rest.0), rest.1)

-- ---- texts around their checksums

same_sum : (t u : List ℕ) → AreBytes t → AreBytes u → sum_text V03 t ≡ sum_text V03 u → checksum_of t ≡ checksum_of u
same_sum t u p q e =
    sym (from_be_bytes-to_be_bytes_4 (checksum_of t) (checksum_lt t p)) ∙ ap (from_be_bytes w32) e ∙ from_be_bytes-to_be_bytes_4 (checksum_of u) (checksum_lt u q)

pub head_is : (a b : ℕ) (k l : List ℕ) → a ∷ k ≡ b ∷ l → a ≡ b
head_is a b k l e = cc e

pub one_change : (front back : List ℕ) (a b : ℕ) → AreBytes (front ++ a ∷ back) → AreBytes (front ++ b ∷ back) → checksum_of (front ++ a ∷ back) ≡ checksum_of (front ++ b ∷ back) → a ≡ b
one_change front back a b p q e =
    let left = halves front (a ∷ back) (recursion_from_All IsByte (front ++ a ∷ back) p) in
    let right = halves front (b ∷ back) (recursion_from_All IsByte (front ++ b ∷ back) q) in
    let one : (x : ℕ) → front ++ (x ∷ []) ++ back ≡ front ++ x ∷ back = λ x. append_assoc front (x ∷ []) back in
    head_is a b [] []
    (few_changes front (a ∷ []) (b ∷ []) back (All-from_recursion IsByte front left.0) (All-from_recursion IsByte back left.1.1)
    (All-from_recursion IsByte (a ∷ []) (left.1.0, tt)) (All-from_recursion IsByte (b ∷ []) (right.1.0, tt)) (omega arith) (omega arith)
    (ap checksum_of (one a) ∙ e ∙ ap checksum_of (sym (one b))))

-- two texts of one length, each a head of 14 bytes, the checksum and what follows, which differ in one place
module _ (h x g y front back : List ℕ) (a b : ℕ) (h_long : length h ≡ 14) (g_long : length g ≡ 14) (p : AreBytes (h ++ x)) (q : AreBytes (g ++ y))
    (d : with_sum V03 h x ≡ front ++ a ∷ back) (e : with_sum V03 g y ≡ front ++ b ∷ back) where
  abbrev s : List ℕ
  s = sum_text V03 (h ++ x)

  abbrev r : List ℕ
  r = sum_text V03 (g ++ y)

  left_parts : h ++ (s ++ x) ≡ front ++ a ∷ back
  left_parts = sym (append_assoc h s x) ∙ d

  right_parts : g ++ (r ++ y) ≡ front ++ b ∷ back
  right_parts = sym (append_assoc g r y) ∙ e

  in_head : length front < 14 → a ≡ b
  in_head lt =
      let k : ℕ = 13 - length front in
      let n_is : 14 ≡ length front + 1 + k = omega (arith, lt) in
      let z : List ℕ = take k back in
      let h_is : h ≡ front ++ a ∷ z = sym (take_at h (s ++ x) 14 h_long) ∙ ap (take 14) left_parts ∙ take_into front back a 14 k n_is in
      let g_is : g ≡ front ++ b ∷ z = sym (take_at g (r ++ y) 14 g_long) ∙ ap (take 14) right_parts ∙ take_into front back b 14 k n_is in
      let behind : s ++ x ≡ r ++ y =
      sym (drop_at h (s ++ x) 14 h_long) ∙ ap (drop 14) left_parts ∙ drop_into front back a 14 k n_is
      ∙ sym (sym (drop_at g (r ++ y) 14 g_long) ∙ ap (drop 14) right_parts ∙ drop_into front back b 14 k n_is) in
      let sums : s ≡ r = sym (take_at s x 4 refl) ∙ ap (take 4) behind ∙ take_at r y 4 refl in
      let rest : x ≡ y = sym (drop_at s x 4 refl) ∙ ap (drop 4) behind ∙ drop_at r y 4 refl in
      let t_is : h ++ x ≡ front ++ a ∷ (z ++ x) = ap (λ (l : List ℕ). l ++ x) h_is ∙ append_assoc front (a ∷ z) x in
      let u_is : g ++ y ≡ front ++ b ∷ (z ++ x) = (λ i. g_is i ++ sym rest i) ∙ append_assoc front (b ∷ z) x in
      one_change front (z ++ x) a b (subst AreBytes t_is p) (subst AreBytes u_is q) (ap checksum_of (sym t_is) ∙ same_sum (h ++ x) (g ++ y) p q sums ∙ ap checksum_of u_is)

  same_heads : 14 ≤ length front → h ≡ g
  same_heads le =
      sym (take_at h (s ++ x) 14 h_long) ∙ ap (take 14) left_parts ∙ take-append-le 14 front (a ∷ back) le
      ∙ sym (sym (take_at g (r ++ y) 14 g_long) ∙ ap (take 14) right_parts ∙ take-append-le 14 front (b ∷ back) le)

  in_sum : 14 ≤ length front → length front < 18 → a ≡ b
  in_sum le lt =
      let k : ℕ = 17 - length front in
      let n_is : 18 ≡ length front + 1 + k = omega (arith, lt) in
      let hs_long : length (h ++ s) ≡ 18 = omega (arith, length-append h s, h_long) in
      let gr_long : length (g ++ r) ≡ 18 = omega (arith, length-append g r, g_long) in
      let rest : x ≡ y =
      sym (drop_at (h ++ s) x 18 hs_long) ∙ ap (drop 18) d ∙ drop_into front back a 18 k n_is
      ∙ sym (sym (drop_at (g ++ r) y 18 gr_long) ∙ ap (drop 18) e ∙ drop_into front back b 18 k n_is) in
      head_is a b back back (append_cancel_left front (a ∷ back) (b ∷ back) (sym d ∙ (λ i. with_sum V03 (same_heads le i) (rest i)) ∙ e))

  behind_sum : 18 ≤ length front → a ≡ b
  behind_sum le =
      let hs_long : length (h ++ s) ≡ 18 = omega (arith, length-append h s, h_long) in
      let gr_long : length (g ++ r) ≡ 18 = omega (arith, length-append g r, g_long) in
      let heads : h ≡ g = same_heads (omega (arith, le)) in
      let z : List ℕ = drop 18 front in
      let x_is : x ≡ z ++ a ∷ back = sym (drop_at (h ++ s) x 18 hs_long) ∙ ap (drop 18) d ∙ drop-append-le 18 front (a ∷ back) le in
      let y_is : y ≡ z ++ b ∷ back = sym (drop_at (g ++ r) y 18 gr_long) ∙ ap (drop 18) e ∙ drop-append-le 18 front (b ∷ back) le in
      let both_sums : h ++ s ≡ g ++ r =
      sym (take_at (h ++ s) x 18 hs_long) ∙ ap (take 18) d ∙ take-append-le 18 front (a ∷ back) le
      ∙ sym (sym (take_at (g ++ r) y 18 gr_long) ∙ ap (take 18) e ∙ take-append-le 18 front (b ∷ back) le) in
      let sums : s ≡ r = sym (drop_at h s 14 h_long) ∙ ap (drop 14) both_sums ∙ drop_at g r 14 g_long in
      let t_is : h ++ x ≡ (h ++ z) ++ a ∷ back = ap (λ (l : List ℕ). h ++ l) x_is ∙ sym (append_assoc h z (a ∷ back)) in
      let u_is : g ++ y ≡ (h ++ z) ++ b ∷ back = (λ i. sym heads i ++ y_is i) ∙ sym (append_assoc h z (b ∷ back)) in
      one_change (h ++ z) back a b (subst AreBytes t_is p) (subst AreBytes u_is q) (ap checksum_of (sym t_is) ∙ same_sum (h ++ x) (g ++ y) p q sums ∙ ap checksum_of u_is)

  changed : a ≡ b
  changed =
      elim (cases_lt (length front) 14) [
        | inl lt ↦ in_head lt
        | inr le ↦ elim (cases_lt (length front) 18) [
          | inl lt ↦ in_sum le lt
          | inr far ↦ behind_sum far
        ]
      ]

-- ---- frames

-- a count is known by each of its bytes
by_low : (m n : ℕ) → 1 ≤ m → m ≤ 256 → 1 ≤ n → n ≤ 256 → 255 * m % 256 ≡ 255 * n % 256 → m ≡ n
by_low m n p q r s e = omega (arith, p, q, r, s, e)

by_high : (m n : ℕ) → 1 ≤ m → m ≤ 256 → 1 ≤ n → n ≤ 256 → 255 * m / 256 % 256 ≡ 255 * n / 256 % 256 → m ≡ n
by_high m n p q r s e = omega (arith, p, q, r, s, e)

not_read : (epoch count : ℕ) (list read : List Asked) (front back rest left : List ℕ) (a b gate : ℕ) → IsFrame V03 epoch (count + 1) list → IsFrame V03 epoch (count + 1) read
    → frame_text V03 epoch (count + 1) list ≡ front ++ a ∷ back → (front ++ b ∷ back) ++ gate ∷ rest ≡ frame_text V03 epoch (count + 1) read ++ left → a ≡ b
not_read epoch count list read front back rest left a b gate p q d e =
    let t : List ℕ = frame_text V03 epoch (count + 1) list in
    let u : List ℕ = frame_text V03 epoch (count + 1) read in
    let n : ℕ = length list in
    let whole : length (front ++ a ∷ back) ≡ 18 + 16 * n = ap length (sym d) ∙ text_length V03 epoch (count + 1) list in
    let size : length (front ++ b ∷ back) ≡ 18 + 16 * n = omega (arith, whole, length-append front (a ∷ back), length-append front (b ∷ back)) in
    let at : (k : ℕ) → k < 18 → k ≢ length front → get_or t k 0 ≡ get_or (u ++ left) k 0 =
    λ k lt not. ap (λ (l : List ℕ). get_or l k 0) d ∙ other_place front back a b k not
    ∙ sym (get_or_append_left (front ++ b ∷ back) (gate ∷ rest) 0 k (omega (arith, size, lt))) ∙ ap (λ (l : List ℕ). get_or l k 0) e in
    let counts : n ≡ length read =
    elim (cases_lt (length front) 13) [
      | inl lt ↦ by_low n (length read) p.some p.few q.some q.few (at 13 (omega arith) (λ is. omega (arith, lt, is)))
      | inr le ↦ by_high n (length read) p.some p.few q.some q.few (at 12 (omega arith) (λ is. omega (arith, le, is)))
    ] in
    let sized : length u ≡ 18 + 16 * n = text_length V03 epoch (count + 1) read ∙ ap (λ m. 18 + 16 * m) (sym counts) in
    let text : u ≡ front ++ b ∷ back = sym (take_at u left (18 + 16 * n) sized) ∙ ap (take (18 + 16 * n)) (sym e) ∙ take_at (front ++ b ∷ back) (gate ∷ rest) (18 + 16 * n) size in
    let head : (m : ℕ) → List ℕ = frame_head V03 epoch (count + 1) in
    changed (head (length list)) (texts_of V03 list) (head (length read)) (texts_of V03 read) front back a b refl refl
    (both (head (length list)) (texts_of V03 list) (head_bytes V03 epoch (count + 1) (length list)) (texts_bytes V03 list p.askers))
    (both (head (length read)) (texts_of V03 read) (head_bytes V03 epoch (count + 1) (length read)) (texts_bytes V03 read q.askers)) d text

pub changed_byte : (epoch count : ℕ) (list : List Asked) (front back rest : List ℕ) (a b gate : ℕ) → IsFrame V03 epoch (count + 1) list
    → frame_text V03 epoch (count + 1) list ≡ front ++ a ∷ back → IsBytes ((front ++ b ∷ back) ++ gate ∷ rest) → b ≢ a
    → (left : ℕ) × (frame_at V03 epoch count ((front ++ b ∷ back) ++ gate ∷ rest) ≡ Err left)
changed_byte epoch count list front back rest a b gate p d fits not = by_read (frame_at V03 epoch count ((front ++ b ∷ back) ++ gate ∷ rest)) refl
  where
    by_read : (r : Result (List Asked × List ℕ) ℕ) → frame_at V03 epoch count ((front ++ b ∷ back) ++ gate ∷ rest) ≡ r → (left : ℕ) × (frame_at V03 epoch count ((front ++ b ∷ back) ++ gate ∷ rest) ≡ Err left)
    by_read (Err left) e = (left, e)
    by_read (Ok x) e =
        let f = frame_there V03 epoch count ((front ++ b ∷ back) ++ gate ∷ rest) x.0 x.1 fits e in
        absurd (not (sym (not_read epoch count list x.0 front back rest x.1 a b gate p f.0 d f.2)))
