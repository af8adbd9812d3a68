-- A head or an image of version 03 of which one byte was changed has another checksum.
use Rattle.std.proofs.Common.{◌≡◌, ◌≢◌, inl, inr, ℕ, ◌+◌, ◌-◌, ◌^◌, ◌<◌, ◌≤◌, Bool, true, false, cond, eqb, List, [], ◌∷◌, ◌++◌, Some, length, take, drop, Result, Ok, Err, refl, sym, ◌∙◌, ap, subst, append_assoc, arith, length-append}
use Rattle.std.specs.Int.{w16, w32, w64, to_be_bytes, from_be_bytes}
use Rattle.std.specs.Prelude.{option_map}
use Rattle.std.proofs.lemmas.Bool.{cases_lt, ne_eqb}
use Rattle.std.proofs.lemmas.Nat.{from_be_bytes-to_be_bytes_4}
use Rattle.std.proofs.lemmas.List.{append-nil, append_cancel_left, drop_at, take_at, take-append-le}
use Rattle.std.proofs.lemmas.List.Elements.{All-from_recursion}
use Rattle.alm_sum.specs.Crc.{checksum_of}
use Rattle.alm_sum.proofs.Bytes.{IsByte, AreBytes}
use Rattle.alm_codec.specs.declared.version.Version.{Version}
use Rattle.alm_codec.specs.declared.version.Version.TheVariants.{V01, V02, V03}
use Rattle.alm_codec.specs.Reading.{IsBytes}
use Rattle.alm_codec.proofs.ChangedByte.{drop_into, head_is, one_change, take_into}
use Rattle.alm_codec.proofs.FrameBytes.{both, checksum_lt, eight, four, two}
use Rattle.alm_checkpoint.specs.declared.device_fault.DeviceFault.{DeviceFault}
use Rattle.alm_checkpoint.specs.declared.half.Half.{Half}
use Rattle.alm_checkpoint.specs.declared.half.Half.TheVariants.{First, Second}
use Rattle.alm_checkpoint.specs.declared.half_head.HalfHead.{HalfHead}
use Rattle.alm_checkpoint.specs.declared.layout.Layout.{Layout}
use Rattle.alm_codec.specs.ImageFields.{damage_in}
use Rattle.alm_checkpoint.specs.Standing.{image_damage}
use Rattle.alm_checkpoint.specs.Layouts.{half_number, image_at, image_sum_at}
use Rattle.alm_checkpoint.specs.Headers.{allows, device_name, half_head, half_head_text, header_text, image_sum, IsHeadOf, mark_of, sum_number, version_digit}
use Rattle.alm_checkpoint.specs.Opening.{◌>>=◌, Opened, half_head_from, read_to}
use Rattle.alm_checkpoint.proofs.HeaderLaws.{head_is as head_read, head_long}

-- a checksum of bytes is the number of its field
numbered : (text : List ℕ) → AreBytes text → sum_number text ≡ checksum_of text
numbered text are = let lt : checksum_of text < 2 ^ 32 = checksum_lt text are in omega (arith, lt)

small : (text : List ℕ) → sum_number text < 2 ^ 32
small text = omega arith

same_number : (t u : List ℕ) → to_be_bytes w32 (sum_number t) ≡ to_be_bytes w32 (sum_number u) → sum_number t ≡ sum_number u
same_number t u e = sym (from_be_bytes-to_be_bytes_4 (sum_number t) (small t)) ∙ ap (from_be_bytes w32) e ∙ from_be_bytes-to_be_bytes_4 (sum_number u) (small u)

-- ---- an image

pub other_image : (front back : List ℕ) (a b : ℕ) → AreBytes (front ++ a ∷ back) → AreBytes (front ++ b ∷ back) → image_sum V03 (front ++ a ∷ back) ≡ image_sum V03 (front ++ b ∷ back) → a ≡ b
other_image front back a b p q e = one_change front back a b p q (sym (numbered (front ++ a ∷ back) p) ∙ e ∙ numbered (front ++ b ∷ back) q)

pub damaged_image : (o : Opened) (front back : List ℕ) (a b : ℕ) → o.head.version ≡ V03 → o.head.sum ≡ image_sum V03 (front ++ a ∷ back) → o.image ≡ front ++ b ∷ back → AreBytes (front ++ a ∷ back) → AreBytes (front ++ b ∷ back) → b ≢ a
    → image_damage o ≡ Some (image_sum_at o.layout o.half)
damaged_image o front back a b is said read p q not =
    let found : image_sum o.head.version o.image ≡ image_sum V03 (front ++ b ∷ back) = (λ i. image_sum (is i) (read i)) in
    let other : eqb o.head.sum (image_sum o.head.version o.image) ≡ false =
    ne_eqb o.head.sum (image_sum o.head.version o.image) (λ same. not (sym (other_image front back a b p q (sym said ∙ same ∙ found)))) in
    ap (λ (b : Bool). cond b (option_map (λ at. image_at o.layout o.half + at) (damage_in o.layout.rows o.layout.areas o.head.count o.image)) (Some (image_sum_at o.layout o.half))) other

-- ---- a head

-- two texts of 20 bytes, each with the checksum of these bytes and of some before them, which differ in one place
changed : (z p q front back : List ℕ) (a b : ℕ) → length p ≡ 20 → length q ≡ 20 → AreBytes (z ++ p) → AreBytes (z ++ q)
    → p ++ to_be_bytes w32 (sum_number (z ++ p)) ≡ front ++ a ∷ back → q ++ to_be_bytes w32 (sum_number (z ++ q)) ≡ front ++ b ∷ back → a ≡ b
changed z p q front back a b p_long q_long p_are q_are d e =
    elim (cases_lt (length front) 20) [
      | inl lt ↦ in_front lt
      | inr le ↦ in_sum le
    ]
  where
    s : List ℕ
    s = to_be_bytes w32 (sum_number (z ++ p))

    r : List ℕ
    r = to_be_bytes w32 (sum_number (z ++ q))

    in_front : length front < 20 → a ≡ b
    in_front lt =
        let k : ℕ = 19 - length front in
        let n_is : 20 ≡ length front + 1 + k = omega (arith, lt) in
        let x : List ℕ = take k back in
        let p_is : p ≡ front ++ a ∷ x = sym (take_at p s 20 p_long) ∙ ap (take 20) d ∙ take_into front back a 20 k n_is in
        let q_is : q ≡ front ++ b ∷ x = sym (take_at q r 20 q_long) ∙ ap (take 20) e ∙ take_into front back b 20 k n_is in
        let sums : s ≡ r =
        sym (drop_at p s 20 p_long) ∙ ap (drop 20) d ∙ drop_into front back a 20 k n_is
        ∙ sym (sym (drop_at q r 20 q_long) ∙ ap (drop 20) e ∙ drop_into front back b 20 k n_is) in
        let t_is : z ++ p ≡ (z ++ front) ++ a ∷ x = ap (λ (l : List ℕ). z ++ l) p_is ∙ sym (append_assoc z front (a ∷ x)) in
        let u_is : z ++ q ≡ (z ++ front) ++ b ∷ x = ap (λ (l : List ℕ). z ++ l) q_is ∙ sym (append_assoc z front (b ∷ x)) in
        one_change (z ++ front) x a b (subst AreBytes t_is p_are) (subst AreBytes u_is q_are)
        (ap checksum_of (sym t_is) ∙ sym (numbered (z ++ p) p_are) ∙ same_number (z ++ p) (z ++ q) sums ∙ numbered (z ++ q) q_are ∙ ap checksum_of u_is)

    in_sum : 20 ≤ length front → a ≡ b
    in_sum le =
        let same : p ≡ q =
        sym (take_at p s 20 p_long) ∙ ap (take 20) d ∙ take-append-le 20 front (a ∷ back) le
        ∙ sym (sym (take_at q r 20 q_long) ∙ ap (take 20) e ∙ take-append-le 20 front (b ∷ back) le) in
        head_is a b back back (append_cancel_left front (a ∷ back) (b ∷ back) (sym d ∙ (λ i. same i ++ to_be_bytes w32 (sum_number (z ++ same i))) ∙ e))

abbrev fields : (epoch count sum : ℕ) → List ℕ
fields epoch count sum = to_be_bytes w64 epoch ++ (to_be_bytes w64 (mark_of V03 count) ++ to_be_bytes w32 sum)

abbrev ahead : Layout → Half → List ℕ
ahead l h = header_text l ++ half_number h ∷ []

digit_lt : (version : Version) → version_digit version < 256
digit_lt V01 = omega arith
digit_lt V02 = omega arith
digit_lt V03 = omega arith

number_lt : (h : Half) → half_number h < 256
number_lt First = omega arith
number_lt Second = omega arith

name_are : (version : Version) → AreBytes (device_name version)
name_are version =
    All-from_recursion IsByte (device_name version) (omega arith, (omega arith, (omega arith, (omega arith, (omega arith, (omega arith, (omega arith, (digit_lt version, tt))))))))

ahead_are : (l : Layout) (h : Half) → AreBytes (ahead l h)
ahead_are l h =
    let sizes : List ℕ = to_be_bytes w32 l.rows ++ (to_be_bytes w16 l.areas ++ to_be_bytes w64 l.segment) in
    both (header_text l) (half_number h ∷ [])
    (both (device_name l.version) sizes (name_are l.version)
    (both (to_be_bytes w32 l.rows) (to_be_bytes w16 l.areas ++ to_be_bytes w64 l.segment) (four l.rows) (both (to_be_bytes w16 l.areas) (to_be_bytes w64 l.segment) (two l.areas) (eight l.segment))))
    (All-from_recursion IsByte (half_number h ∷ []) (number_lt h, tt))

fields_are : (epoch count sum : ℕ) → AreBytes (fields epoch count sum)
fields_are epoch count sum =
    both (to_be_bytes w64 epoch) (to_be_bytes w64 (mark_of V03 count) ++ to_be_bytes w32 sum) (eight epoch) (both (to_be_bytes w64 (mark_of V03 count)) (to_be_bytes w32 sum) (eight (mark_of V03 count)) (four sum))

-- the text of a head of version 03
text_is : (l : Layout) (h : Half) (t : HalfHead) → t.version ≡ V03 → half_head_text l h t ≡ fields t.epoch t.count t.sum ++ to_be_bytes w32 (sum_number (ahead l h ++ fields t.epoch t.count t.sum))
text_is l h t is = ap (λ (v : Version). half_head_text l h (record { epoch = t.epoch; version = v; count = t.count; sum = t.sum })) is

-- under a header of version 03 a half is of it
only_03 : (header half : Version) → header ≡ V03 → allows header half ≡ true → half ≡ V03
only_03 header V01 is allowed = absurd (let no : allows V03 V01 ≡ true = ap (λ (v : Version). allows v V01) (sym is) ∙ allowed in cc)
only_03 header V02 is allowed = absurd (let no : allows V03 V02 ≡ true = ap (λ (v : Version). allows v V02) (sym is) ∙ allowed in cc)
only_03 header V03 is allowed = refl

header_03 : (header half : Version) → half ≡ V03 → allows header half ≡ true → header ≡ V03
header_03 V01 half is allowed = absurd (let no : allows V01 V03 ≡ true = ap (allows V01) (sym is) ∙ allowed in cc)
header_03 V02 half is allowed = absurd (let no : allows V02 V03 ≡ true = ap (allows V02) (sym is) ∙ allowed in cc)
header_03 V03 half is allowed = refl

no_rest : (rest : List ℕ) → length rest ≡ 0 → rest ≡ []
no_rest [] e = refl
no_rest (x ∷ rest) e = absurd (omega (arith, e))

same_byte : (l : Layout) (h : Half) (t : HalfHead) (front back : List ℕ) (a b : ℕ) (x : HalfHead × List ℕ) → IsHeadOf l t → t.version ≡ V03 → half_head_text l h t ≡ front ++ a ∷ back → IsBytes (front ++ b ∷ back) → (half_head l h).read (front ++ b ∷ back) ≡ Ok x → a ≡ b
same_byte l h t front back a b x is of d fits e =
    let k = head_read l h (front ++ b ∷ back) x fits e in
    let of_x : x.0.version ≡ V03 = only_03 l.version x.0.version (header_03 l.version t.version of is.allowed) k.is.allowed in
    let rest : x.1 ≡ [] = no_rest x.1 (omega (
      arith,
      ap length k.parts,
      ap length d,
      head_long l h t,
      head_long l h x.0,
      length-append (half_head_text l h x.0) x.1,
      length-append front (a ∷ back),
      length-append front (b ∷ back),
    )) in
    let there : front ++ b ∷ back ≡ half_head_text l h x.0 = k.parts ∙ ap (λ (r : List ℕ). half_head_text l h x.0 ++ r) rest ∙ append-nil (half_head_text l h x.0) in
    let mine : List ℕ = fields t.epoch t.count t.sum in
    let other : List ℕ = fields x.0.epoch x.0.count x.0.sum in
    changed (ahead l h) mine other front back a b refl refl (both (ahead l h) mine (ahead_are l h) (fields_are t.epoch t.count t.sum)) (both (ahead l h) other (ahead_are l h) (fields_are x.0.epoch x.0.count x.0.sum))
    (sym (text_is l h t of) ∙ d) (sym (text_is l h x.0 of_x) ∙ sym there)

pub changed_head : (l : Layout) (h : Half) (t : HalfHead) (front back : List ℕ) (a b gate : ℕ) → IsHeadOf l t → t.version ≡ V03 → half_head_text l h t ≡ front ++ a ∷ back → IsBytes (front ++ b ∷ back) → b ≢ a
    → (fault : DeviceFault) × (half_head_from l h (gate ∷ (front ++ b ∷ back)) ≡ Err fault)
unfolding half_head_from
changed_head l h t front back a b gate is of d fits not = by_read ((half_head l h).read (front ++ b ∷ back)) refl
  where
    by_read : (r : Result (HalfHead × List ℕ) ℕ) → (half_head l h).read (front ++ b ∷ back) ≡ r
        → (fault : DeviceFault) × ((read_to (half_number h) (image_at l h) ((half_head l h).read (front ++ b ∷ back)) >>= λ x. Ok x.0) ≡ Err fault)
    by_read (Err left) e = (_, ap (λ (r : Result (HalfHead × List ℕ) ℕ). read_to (half_number h) (image_at l h) r >>= λ x. Ok x.0) e)
    by_read (Ok x) e = absurd (not (sym (same_byte l h t front back a b x is of d fits e)))
