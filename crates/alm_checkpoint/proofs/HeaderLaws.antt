-- The texts of headers and heads are read as what was written, and what is read is encoded so.
use Rattle.std.proofs.Common.{◌≡◌, ℕ, ◌+◌, ◌-◌, ◌^◌, ◌<◌, ◌≤◌, Bool, true, false, ◌&&◌, cond, eqb, leb, List, [], ◌++◌, Option, Some, None, Ok, inl, inr, refl, sym, ap, subst, ◌∙◌, arith, length, length-append}
use Rattle.std.specs.Prelude.{bytes_eq}
use Rattle.std.specs.Int.{w16, w32, w64, to_be_bytes}
use Rattle.std.proofs.lemmas.Bool.{eqb-true, leb-true, le-leb, eq-eqb, and_parts, and_from, lt-leb}
use Rattle.std.proofs.lemmas.Slice.Eq.{bytes_eq-Decides}
use Rattle.std.proofs.lemmas.Option.{same_Some, none-some}
use Rattle.std.proofs.lemmas.List.{append-nil}
use Rattle.alm_codec.specs.declared.version.Version.{Version}
use Rattle.alm_codec.specs.declared.version.Version.TheVariants.{V01, V02, V03}
use Rattle.alm_codec.proofs.Bytes.{chosen}
use Rattle.alm_codec.specs.Format.{Format, number_field, raw, tested_field, both}
use Rattle.alm_codec.specs.Reading.{IsBytes}
use Rattle.alm_codec.proofs.Numbers.{wide16, wide32, wide64}
use Rattle.alm_codec.proofs.Formats.{Lawful, number_lawful, raw_lawful, coded_lawful, tested_lawful, both_lawful}
use Rattle.alm_checkpoint.specs.declared.layout.Layout.{Layout}
use Rattle.alm_checkpoint.specs.declared.half.Half.{Half}
use Rattle.alm_checkpoint.specs.declared.half_head.HalfHead.{HalfHead}
use Rattle.alm_checkpoint.specs.Layouts.{device_len, image_size, is_rows, is_areas, is_segment}
use Rattle.alm_checkpoint.specs.Headers.{device_name, version_named, name, of_rows, segment_fits, header, header_text, mark_weight, mark_of, allows, is_count, has_mark, mark_read, mark, length_field, sums_field, end_field, end_text, head_sum, IsSum, IsHeadOf, half_head, half_head_text}

-- ---- a field that passes a test

pub passing : {A : Type 0} (f : Format A) (test : A → Bool) (a : A) → f.Keeps a → test a ≡ true → (tested_field f test).Keeps a
passing f test a h e = (h, rw e refl)

cond_true : {A : Type 0} (b : Bool) (a c : A) → cond b (Some a) None ≡ Some c → b ≡ true
cond_true true a c e = refl
cond_true false a c e = absurd cc

pub passes : {A : Type 0} (f : Format A) (test : A → Bool) (a : A) → (tested_field f test).Keeps a → test a ≡ true
passes f test a h = cond_true (test a) a a h.1

-- ---- a header

abbrev segment_in : ℕ → ℕ → ℕ → Format ℕ
segment_in size rows areas = tested_field (number_field w64 (2 ^ 64)) (segment_fits size rows areas)

abbrev areas_in : ℕ → ℕ → Format (ℕ × ℕ)
areas_in size rows = both (tested_field (number_field w16 (2 ^ 16)) is_areas) (λ areas. segment_in size rows areas)

abbrev rows_in : ℕ → Format (ℕ × (ℕ × ℕ))
rows_in size = both (tested_field (number_field w32 (2 ^ 32)) is_rows) (λ rows. areas_in size rows)

abbrev fields_in : ℕ → Format (Version × (ℕ × (ℕ × ℕ)))
fields_in size = both name (λ _. rows_in size)

text_is : (text : List ℕ) (v : Version) → bytes_eq text (device_name v) ≡ true → text ≡ device_name v
text_is text v e = (bytes_eq-Decides text (device_name v)).0 e

named_is : (text : List ℕ) (v : Version) → (raw 8).Keeps text → version_named text ≡ Some v → text ≡ device_name v
named_is text v h e =
    elim (chosen (named V01) (Some V01) (cond (named V02) (Some V02) (cond (named V03) (Some V03) None)) (Some v) e) [
      | inl (t, s) ↦ text_is text V01 t ∙ ap device_name (same_Some V01 v s)
      | inr (t, s) ↦ elim (chosen (named V02) (Some V02) (cond (named V03) (Some V03) None) (Some v) s) [
        | inl (u, r) ↦ text_is text V02 u ∙ ap device_name (same_Some V02 v r)
        | inr (u, r) ↦ elim (chosen (named V03) (Some V03) None (Some v) r) [
          | inl (w, q) ↦ text_is text V03 w ∙ ap device_name (same_Some V03 v q)
          | inr (w, q) ↦ absurd (none-some v q)
        ]
      ]
    ]
  where
    named : Version → Bool
    named version = bytes_eq text (device_name version)

name_lawful : Lawful name
name_lawful = coded_lawful (raw 8) version_named device_name (raw_lawful 8) named_is

name_keeps : (v : Version) → name.Keeps v
name_keeps V01 = (refl, refl)
name_keeps V02 = (refl, refl)
name_keeps V03 = (refl, refl)

fields_lawful : (size : ℕ) → Lawful (fields_in size)
fields_lawful size =
    both_lawful name (λ _. rows_in size) name_lawful
    (λ _. both_lawful (tested_field (number_field w32 (2 ^ 32)) is_rows) (λ rows. areas_in size rows) (tested_lawful (number_field w32 (2 ^ 32)) is_rows (number_lawful w32 (2 ^ 32) wide32))
    (λ rows. both_lawful (tested_field (number_field w16 (2 ^ 16)) is_areas) (λ areas. segment_in size rows areas) (tested_lawful (number_field w16 (2 ^ 16)) is_areas (number_lawful w16 (2 ^ 16) wide16))
    (λ areas. tested_lawful (number_field w64 (2 ^ 64)) (segment_fits size rows areas) (number_lawful w64 (2 ^ 64) wide64))))

fields_are : (size : ℕ) (p : Version × (ℕ × (ℕ × ℕ))) (l : Layout) → (fields_in size).Keeps p → Some (of_rows p.1.0 p.1.1.0 p.1.1.1 p.0) ≡ Some l → p ≡ (l.version, (l.rows, (l.areas, l.segment)))
fields_are size p l h e = ap (λ (k : Layout). (k.version, (k.rows, (k.areas, k.segment)))) (same_Some (of_rows p.1.0 p.1.1.0 p.1.1.1 p.0) l e)

pub header_lawful : (size : ℕ) → Lawful (header size)
header_lawful size = coded_lawful (fields_in size) (λ p. Some (of_rows p.1.0 p.1.1.0 p.1.1.1 p.0)) (λ l. (l.version, (l.rows, (l.areas, l.segment)))) (fields_lawful size) (fields_are size)

-- a layout that suits a device of a size
pub record SuitsDevice (size : ℕ) (l : Layout) : Type 0 where
  pub rows : is_rows l.rows ≡ true
  pub areas : is_areas l.areas ≡ true
  pub segment : segment_fits size l.rows l.areas l.segment ≡ true

rows_small : (n : ℕ) → is_rows n ≡ true → n < 2 ^ 32
rows_small n e = omega (arith, leb-true n 16384 (and_parts (leb 1 n) (leb n 16384) e).1)

areas_small : (n : ℕ) → is_areas n ≡ true → n < 2 ^ 16
areas_small n e = omega (arith, leb-true n 64 (and_parts (leb 1 n) (leb n 64) e).1)

segment_small : (size rows areas n : ℕ) → segment_fits size rows areas n ≡ true → n < 2 ^ 64
segment_small size rows areas n e =
    let in_limits : is_segment n ≡ true = (and_parts (is_segment n) (leb (device_len (of_rows rows areas n V02)) size) e).0 in
    omega (arith, leb-true n 16777216 (and_parts (leb 4116 n) (leb n 16777216) in_limits).1)

pub header_keeps : (size : ℕ) (l : Layout) → SuitsDevice size l → (header size).Keeps l
header_keeps size l s = (
  (
    name_keeps l.version,
    (
      passing (number_field w32 (2 ^ 32)) is_rows l.rows (rows_small l.rows s.rows) s.rows,
      (
        passing (number_field w16 (2 ^ 16)) is_areas l.areas (areas_small l.areas s.areas) s.areas,
        passing (number_field w64 (2 ^ 64)) (segment_fits size l.rows l.areas) l.segment (segment_small size l.rows l.areas l.segment s.segment) s.segment,
      ),
    ),
  ),
  refl,
)

-- the text of a header is read
pub header_reads : (size : ℕ) (l : Layout) → SuitsDevice size l → (header size).read (header_text l) ≡ Ok (l, [])
header_reads size l s = ap (header size).read (sym (append-nil (header_text l))) ∙ (header_lawful size).again l [] (header_keeps size l s)

-- what is read is the text of a header
pub header_is : (size : ℕ) (bytes : List ℕ) (x : Layout × List ℕ) → IsBytes bytes → (header size).read bytes ≡ Ok x → (bytes ≡ header_text x.0 ++ x.1) × SuitsDevice size x.0
header_is size bytes x fits e =
    let t = (header_lawful size).takes bytes x fits e in
    let k = t.1.0.1 in (
      t.0.parts,
      record {
        rows = passes (number_field w32 (2 ^ 32)) is_rows x.0.rows k.0;
        areas = passes (number_field w16 (2 ^ 16)) is_areas x.0.areas k.1.0;
        segment = passes (number_field w64 (2 ^ 64)) (segment_fits size x.0.rows x.0.areas) x.0.segment k.1.1;
      },
    )

-- ---- the head of a half

-- what a field of mark and count encodes
pub record IsMark (header : Version) (n : ℕ) (m : Version × ℕ) : Type 0 where
  pub is : n ≡ mark_of m.0 m.1
  pub allowed : allows header m.0 ≡ true
  pub count : m.1 ≤ 2 ^ 48

abbrev pair : Version → ℕ → Version × ℕ
pair v n = (v, n)

-- the field is one with the mark of this version
marked_is : (header half : Version) (n : ℕ) → has_mark header half n ≡ true → IsMark header n (pair half (n - mark_weight half))
marked_is header half n e =
    let outer = and_parts (allows header half && leb (mark_weight half) n) (is_count (n - mark_weight half)) e in
    let inner = and_parts (allows header half) (leb (mark_weight half) n) outer.0 in
    let large : mark_weight half ≤ n = leb-true (mark_weight half) n inner.1 in
    record { is = omega (arith, large); allowed = inner.0; count = leb-true (n - mark_weight half) (2 ^ 48) outer.1 }

abbrev read_as : Version → ℕ → Option (Version × ℕ)
read_as half n = Some (pair half (n - mark_weight half))

pub unmarked_is : (header : Version) (n : ℕ) (m : Version × ℕ) → mark_read header n ≡ Some m → IsMark header n m
unmarked_is header n m e =
    elim (chosen (has_mark header V01 n) (read_as V01 n) (cond (has_mark header V02 n) (read_as V02 n) (cond (has_mark header V03 n) (read_as V03 n) None)) (Some m) e) [
      | inl (t, s) ↦ subst (IsMark header n) (same_Some (pair V01 (n - mark_weight V01)) m s) (marked_is header V01 n t)
      | inr (t, s) ↦ elim (chosen (has_mark header V02 n) (read_as V02 n) (cond (has_mark header V03 n) (read_as V03 n) None) (Some m) s) [
        | inl (u, r) ↦ subst (IsMark header n) (same_Some (pair V02 (n - mark_weight V02)) m r) (marked_is header V02 n u)
        | inr (u, r) ↦ elim (chosen (has_mark header V03 n) (read_as V03 n) None (Some m) r) [
          | inl (w, q) ↦ subst (IsMark header n) (same_Some (pair V03 (n - mark_weight V03)) m q) (marked_is header V03 n w)
          | inr (w, q) ↦ absurd (none-some m q)
        ]
      ]
    ]

-- a field with the mark of a version
has_own : (header v : Version) (n count : ℕ) → n ≡ mark_of v count → allows header v ≡ true → count ≤ 2 ^ 48 → has_mark header v n ≡ true
has_own header v n count e allowed c =
    let large = and_from (allows header v) (leb (mark_weight v) n) allowed (le-leb (mark_weight v) n (omega (arith, e))) in
    and_from (allows header v && leb (mark_weight v) n) (is_count (n - mark_weight v)) large (le-leb (n - mark_weight v) (2 ^ 48) (omega (arith, e, c)))

-- a field above all with the mark of a version
has_none : (header v : Version) (n : ℕ) → mark_weight v + 2 ^ 48 < n → has_mark header v n ≡ false
has_none header v n above = not_last (allows header v && leb (mark_weight v) n) (is_count (n - mark_weight v)) (lt-leb (n - mark_weight v) (2 ^ 48) (omega (arith, above)))
  where
    not_last : (a b : Bool) → b ≡ false → a && b ≡ false
    not_last true b off = off
    not_last false b off = refl

unmarked_at : (header v : Version) (n count : ℕ) → n ≡ mark_of v count → allows header v ≡ true → count ≤ 2 ^ 48 → mark_read header n ≡ Some (pair v count)
unmarked_at header V01 n count e allowed c =
    let rest : n - mark_weight V01 ≡ count = omega (arith, e) in
    rw (has_own header V01 n count e allowed c, rest) refl
unmarked_at header V02 n count e allowed c =
    let rest : n - mark_weight V02 ≡ count = omega (arith, e) in
    rw (has_none header V01 n (omega (arith, e)), has_own header V02 n count e allowed c, rest) refl
unmarked_at header V03 n count e allowed c =
    let rest : n - mark_weight V03 ≡ count = omega (arith, e) in
    rw (has_none header V01 n (omega (arith, e)), has_none header V02 n (omega (arith, e)), has_own header V03 n count e allowed c, rest) refl

marked_small : (v : Version) (count : ℕ) → count ≤ 2 ^ 48 → mark_of v count < 2 ^ 64
marked_small V01 count c = omega (arith, c)
marked_small V02 count c = omega (arith, c)
marked_small V03 count c = omega (arith, c)

mark_keeps : (header v : Version) (count : ℕ) → allows header v ≡ true → count ≤ 2 ^ 48 → (mark header).Keeps (pair v count)
mark_keeps header v count allowed c = (marked_small v count c, unmarked_at header v (mark_of v count) count refl allowed c)

mark_lawful : (header : Version) → Lawful (mark header)
mark_lawful header = coded_lawful (number_field w64 (2 ^ 64)) (mark_read header) (λ m. mark_of m.0 m.1) (number_lawful w64 (2 ^ 64) wide64) (λ n m h e. (unmarked_is header n m e).is)

-- the end of a head: the length of an image

abbrev size_read : ℕ → ℕ → Option ℕ
size_read image n = cond (eqb n image) (Some 0) None

size_is : (image n sum : ℕ) → size_read image n ≡ Some sum → (n ≡ image) × (sum ≡ 0)
size_is image n sum e =
    elim (chosen (eqb n image) (Some 0) None (Some sum) e) [
      | inl (t, s) ↦ (eqb-true n image t, sym (same_Some 0 sum s))
      | inr (t, s) ↦ absurd (none-some sum s)
    ]

length_lawful : (image : ℕ) → Lawful (length_field image)
length_lawful image = coded_lawful (number_field w64 (2 ^ 64)) (size_read image) (λ _. image) (number_lawful w64 (2 ^ 64) wide64) (λ n sum h e. (size_is image n sum e).0)

length_keeps : (image sum : ℕ) → image < 2 ^ 64 → sum ≡ 0 → (length_field image).Keeps sum
length_keeps image sum lt e = (lt, ap (λ (b : Bool). cond b (Some 0) None) (eq-eqb image image refl) ∙ ap (λ (n : ℕ). Some n) (sym e))

-- .. or two checksums

abbrev is_sum : ℕ → ℕ → Bool
is_sum sum n = eqb n sum

abbrev two_sums : (ℕ → ℕ) → Format (ℕ × ℕ)
two_sums head = both (number_field w32 (2 ^ 32)) (λ sum. tested_field (number_field w32 (2 ^ 32)) (is_sum (head sum)))

sums_are : (head : ℕ → ℕ) (p : ℕ × ℕ) (sum : ℕ) → (two_sums head).Keeps p → Some p.0 ≡ Some sum → p ≡ (sum, head sum)
sums_are head p sum h e =
    let second : p.1 ≡ head p.0 = eqb-true p.1 (head p.0) (passes (number_field w32 (2 ^ 32)) (is_sum (head p.0)) p.1 h.1) in
    ap (λ (n : ℕ). (p.0, n)) second ∙ ap (λ (n : ℕ). (n, head n)) (same_Some p.0 sum e)

sums_lawful : (head : ℕ → ℕ) → Lawful (sums_field head)
sums_lawful head =
    coded_lawful (two_sums head) (λ p. Some p.0) (λ sum. (sum, head sum))
    (both_lawful (number_field w32 (2 ^ 32)) (λ sum. tested_field (number_field w32 (2 ^ 32)) (is_sum (head sum))) (number_lawful w32 (2 ^ 32) wide32)
    (λ sum. tested_lawful (number_field w32 (2 ^ 32)) (is_sum (head sum)) (number_lawful w32 (2 ^ 32) wide32)))
    (sums_are head)

sums_keep : (head : ℕ → ℕ) (sum : ℕ) → sum < 2 ^ 32 → head sum < 2 ^ 32 → (sums_field head).Keeps sum
sums_keep head sum lt own = ((lt, passing (number_field w32 (2 ^ 32)) (is_sum (head sum)) (head sum) own (eq-eqb (head sum) (head sum) refl)), refl)

end_lawful : (l : Layout) (h : Half) (version : Version) (epoch count : ℕ) → Lawful (end_field l h version epoch count)
end_lawful l h V01 epoch count = length_lawful (image_size l)
end_lawful l h V02 epoch count = length_lawful (image_size l)
end_lawful l h V03 epoch count = sums_lawful (head_sum l h V03 epoch count)

end_keeps : (l : Layout) (h : Half) (version : Version) (epoch count sum : ℕ) → image_size l < 2 ^ 64 → IsSum version sum → (end_field l h version epoch count).Keeps sum
end_keeps l h V01 epoch count sum i s = length_keeps (image_size l) sum i s
end_keeps l h V02 epoch count sum i s = length_keeps (image_size l) sum i s
end_keeps l h V03 epoch count sum i s = sums_keep (head_sum l h V03 epoch count) sum s (omega arith)

end_sum : (l : Layout) (h : Half) (version : Version) (epoch count sum : ℕ) → (end_field l h version epoch count).Keeps sum → IsSum version sum
end_sum l h V01 epoch count sum k = (size_is (image_size l) (image_size l) sum k.1).1
end_sum l h V02 epoch count sum k = (size_is (image_size l) (image_size l) sum k.1).1
end_sum l h V03 epoch count sum k = k.0.0

end_is : (l : Layout) (h : Half) (version : Version) (epoch count sum : ℕ) → (end_field l h version epoch count).spell sum ≡ end_text l h version epoch count sum
end_is l h V01 epoch count sum = refl
end_is l h V02 epoch count sum = refl
end_is l h V03 epoch count sum = refl

abbrev mark_in : Layout → Half → ℕ → Format ((Version × ℕ) × ℕ)
mark_in l h epoch = both (mark l.version) (λ m. end_field l h m.0 epoch m.1)

abbrev head_in : Layout → Half → Format (ℕ × ((Version × ℕ) × ℕ))
head_in l h = both (number_field w64 (2 ^ 64)) (λ epoch. mark_in l h epoch)

head_in_lawful : (l : Layout) (h : Half) → Lawful (head_in l h)
head_in_lawful l h =
    both_lawful (number_field w64 (2 ^ 64)) (λ epoch. mark_in l h epoch) (number_lawful w64 (2 ^ 64) wide64)
    (λ epoch. both_lawful (mark l.version) (λ m. end_field l h m.0 epoch m.1) (mark_lawful l.version) (λ m. end_lawful l h m.0 epoch m.1))

abbrev told_of : ℕ → Version × ℕ → ℕ → HalfHead
told_of epoch m sum = record { epoch = epoch; version = m.0; count = m.1; sum = sum }

head_is_of : (p : ℕ × ((Version × ℕ) × ℕ)) (t : HalfHead) → Some (told_of p.0 p.1.0 p.1.1) ≡ Some t → p ≡ (t.epoch, ((t.version, t.count), t.sum))
head_is_of p t e = ap (λ (k : HalfHead). (k.epoch, ((k.version, k.count), k.sum))) (same_Some (told_of p.0 p.1.0 p.1.1) t e)

pub half_head_lawful : (l : Layout) (h : Half) → Lawful (half_head l h)
half_head_lawful l h = coded_lawful (head_in l h) (λ p. Some (told_of p.0 p.1.0 p.1.1)) (λ t. (t.epoch, ((t.version, t.count), t.sum))) (head_in_lawful l h) (λ p t k e. head_is_of p t e)

pub head_keeps : (l : Layout) (h : Half) (t : HalfHead) → IsHeadOf l t → image_size l < 2 ^ 64 → (half_head l h).Keeps t
head_keeps l h t is i = ((is.epoch, (mark_keeps l.version t.version t.count is.allowed is.count, end_keeps l h t.version t.epoch t.count t.sum i is.sum)), refl)

pub head_spelled : (l : Layout) (h : Half) (t : HalfHead) → (half_head l h).spell t ≡ half_head_text l h t
head_spelled l h t = ap (λ (end : List ℕ). to_be_bytes w64 t.epoch ++ (to_be_bytes w64 (mark_of t.version t.count) ++ end)) (end_is l h t.version t.epoch t.count t.sum)

-- the text of a head is read, whatever follows
pub head_again : (l : Layout) (h : Half) (t : HalfHead) (rest : List ℕ) → IsHeadOf l t → image_size l < 2 ^ 64 → (half_head l h).read (half_head_text l h t ++ rest) ≡ Ok (t, rest)
head_again l h t rest is i =
    ap (λ (text : List ℕ). (half_head l h).read (text ++ rest)) (sym (head_spelled l h t))
    ∙ (half_head_lawful l h).again t rest (head_keeps l h t is i)

pub head_reads : (l : Layout) (h : Half) (t : HalfHead) → IsHeadOf l t → image_size l < 2 ^ 64 → (half_head l h).read (half_head_text l h t) ≡ Ok (t, [])
head_reads l h t is i = ap (half_head l h).read (sym (append-nil (half_head_text l h t))) ∙ head_again l h t [] is i

-- what is read is the text of a head
pub record IsHead (l : Layout) (h : Half) (bytes : List ℕ) (x : HalfHead × List ℕ) : Type 0 where
  pub parts : bytes ≡ half_head_text l h x.0 ++ x.1
  pub is : IsHeadOf l x.0

pub head_is : (l : Layout) (h : Half) (bytes : List ℕ) (x : HalfHead × List ℕ) → IsBytes bytes → (half_head l h).read bytes ≡ Ok x → IsHead l h bytes x
head_is l h bytes x fits e =
    let t = (half_head_lawful l h).takes bytes x fits e in
    let k = t.1.0 in
    let m = unmarked_is l.version (mark_of x.0.version x.0.count) (pair x.0.version x.0.count) k.1.0.1 in
    record {
      parts = t.0.parts ∙ ap (λ (text : List ℕ). text ++ x.1) (head_spelled l h x.0);
      is = record { epoch = k.0; allowed = m.allowed; count = m.count; sum = end_sum l h x.0.version x.0.epoch x.0.count x.0.sum k.1.1 };
    }

-- ---- how long a head is

pub head_long : (l : Layout) (h : Half) (t : HalfHead) → length (half_head_text l h t) ≡ 24
head_long l h t =
    omega (
      arith,
      end_long t.version,
      length-append (to_be_bytes w64 t.epoch) (to_be_bytes w64 (mark_of t.version t.count) ++ end_text l h t.version t.epoch t.count t.sum),
      length-append (to_be_bytes w64 (mark_of t.version t.count)) (end_text l h t.version t.epoch t.count t.sum),
    )
  where
    end_long : (version : Version) → length (end_text l h version t.epoch t.count t.sum) ≡ 8
    end_long V01 = refl
    end_long V02 = refl
    end_long V03 = refl
