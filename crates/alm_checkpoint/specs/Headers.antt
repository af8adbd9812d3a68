-- The fields of the header and of the head of a half, each after its gate.
use Rattle.std.specs.Prelude.{◌≡◌, ℕ, ◌+◌, ◌-◌, ◌*◌, ◌%◌, ◌^◌, ◌<◌, ◌≤◌, ◌&&◌, Bool, true, false, List, [], ◌∷◌, ◌++◌, Option, Some, None, bytes_eq, nat_le, ◌==◌, if◌then◌else◌}
use Rattle.std.specs.Int.{w16, w32, w64, to_be_bytes}
use Rattle.alm_codec.specs.declared.version.Version.{Version}
use Rattle.alm_codec.specs.declared.version.Version.TheVariants.{V01, V02, V03}
use Rattle.alm_codec.specs.Format.{Format, number_field, raw, coded_field, tested_field, both}
use Rattle.alm_sum.specs.Crc.{checksum_of}
use Rattle.alm_checkpoint.specs.declared.layout.Layout.{Layout}
use Rattle.alm_checkpoint.specs.declared.half.Half.{Half}
use Rattle.alm_checkpoint.specs.declared.half_head.HalfHead.{HalfHead}
use Rattle.alm_checkpoint.specs.Layouts.{image_size, half_number, device_len, is_rows, is_areas, is_segment}
use Rattle.alm_types.specs.Sizes.{most_actions}

-- the last digit of a name: 1, 2 or 3
abbrev pub version_digit : Version → ℕ
version_digit V01 = 49
version_digit V02 = 50
version_digit V03 = 51

-- ALMSRV01, ALMSRV02 and ALMSRV03
abbrev pub device_name : Version → List ℕ
device_name version = 65 ∷ 76 ∷ 77 ∷ 83 ∷ 82 ∷ 86 ∷ 48 ∷ version_digit version ∷ []

-- the version with a name
abbrev pub version_named : List ℕ → Option Version
version_named text =
    if bytes_eq text (device_name V01) then Some V01
    else if bytes_eq text (device_name V02) then Some V02
    else if bytes_eq text (device_name V03) then Some V03
    else None

abbrev pub name : Format Version
name = coded_field (raw 8) version_named device_name

abbrev pub of_rows : ℕ → ℕ → ℕ → Version → Layout
of_rows rows areas segment version = record { rows = rows; areas = areas; segment = segment; version = version }

-- a segment within its limits, if two halves fit the device
abbrev pub segment_fits : (size rows areas : ℕ) → ℕ → Bool
segment_fits size rows areas n = is_segment n && nat_le (device_len (of_rows rows areas n V02)) size

-- the text of a header
abbrev pub header_text : Layout → List ℕ
header_text l = device_name l.version ++ (to_be_bytes w32 l.rows ++ (to_be_bytes w16 l.areas ++ to_be_bytes w64 l.segment))

-- the header of a device of this number of bytes
abbrev pub header : (size : ℕ) → Format Layout
header size =
    coded_field (both name (λ _. both (tested_field (number_field w32 (2 ^ 32)) is_rows) (λ rows.
    both (tested_field (number_field w16 (2 ^ 16)) is_areas) (λ areas. tested_field (number_field w64 (2 ^ 64)) (segment_fits size rows areas)))))
    (λ p. Some (of_rows p.1.0 p.1.1.0 p.1.1.1 p.0))
    (λ l. (l.version, (l.rows, (l.areas, l.segment))))

-- what the mark of a version adds to the count with which it is one field: 0, 2 or 253 in the field's first byte
abbrev pub mark_weight : Version → ℕ
mark_weight V01 = 0
mark_weight V02 = 2 * 2 ^ 56
mark_weight V03 = 253 * 2 ^ 56

abbrev pub mark_of : Version → (count : ℕ) → ℕ
mark_of version count = mark_weight version + count

-- whether a half of a version may be under a header: under version 01 also one of version 02, else only one of the header's
abbrev pub allows : (header half : Version) → Bool
allows V01 V01 = true
allows V01 V02 = true
allows V02 V02 = true
allows V03 V03 = true
allows _ _ = false

abbrev pub is_count : ℕ → Bool
is_count n = nat_le n most_actions

-- the field has the mark of a version that may be under the header, and a count
abbrev pub has_mark : (header half : Version) → ℕ → Bool
has_mark header half n = allows header half && nat_le (mark_weight half) n && is_count (n - mark_weight half)

-- the version and the count that the field encodes
abbrev pub mark_read : (header : Version) → ℕ → Option (Version × ℕ)
mark_read header n =
    if has_mark header V01 n then Some (V01, n - mark_weight V01)
    else if has_mark header V02 n then Some (V02, n - mark_weight V02)
    else if has_mark header V03 n then Some (V03, n - mark_weight V03)
    else None

abbrev pub mark : (header : Version) → Format (Version × ℕ)
mark header = coded_field (number_field w64 (2 ^ 64)) (mark_read header) (λ m. mark_of m.0 m.1)

-- the checksum of a text as a number of 32 bits
abbrev pub sum_number : List ℕ → ℕ
sum_number text = checksum_of text % 2 ^ 32

-- version 03 has checksums
abbrev pub is_summed : Version → Bool
is_summed V01 = false
is_summed V02 = false
is_summed V03 = true

-- the checksum of an image, if the version has it
abbrev pub image_sum : Version → (image : List ℕ) → ℕ
image_sum V01 image = 0
image_sum V02 image = 0
image_sum V03 image = sum_number image

-- what is a checksum of an image in a version
abbrev pub IsSum : Version → ℕ → Type 0
IsSum V01 sum = sum ≡ 0
IsSum V02 sum = sum ≡ 0
IsSum V03 sum = sum < 2 ^ 32

-- the checksum of a half's head: of the header, the half's number, and the fields of the head before it
abbrev pub head_sum : Layout → Half → Version → (epoch count sum : ℕ) → ℕ
head_sum l h version epoch count sum =
    sum_number (header_text l ++ half_number h ∷ (to_be_bytes w64 epoch ++ (to_be_bytes w64 (mark_of version count) ++ to_be_bytes w32 sum)))

-- the end of a half's head: the length of the image, or the checksums of image and head
abbrev pub end_text : Layout → Half → Version → (epoch count sum : ℕ) → List ℕ
end_text l h V01 epoch count sum = to_be_bytes w64 (image_size l)
end_text l h V02 epoch count sum = to_be_bytes w64 (image_size l)
end_text l h V03 epoch count sum = to_be_bytes w32 sum ++ to_be_bytes w32 (head_sum l h V03 epoch count sum)

-- the text of a half's head
abbrev pub half_head_text : Layout → Half → HalfHead → List ℕ
half_head_text l h t =
    to_be_bytes w64 t.epoch ++ (to_be_bytes w64 (mark_of t.version t.count) ++ end_text l h t.version t.epoch t.count t.sum)

-- a head that a half of a layout may have
pub record IsHeadOf (l : Layout) (t : HalfHead) : Type 0 where
  pub epoch : t.epoch < 2 ^ 64
  pub allowed : allows l.version t.version ≡ true
  pub count : t.count ≤ most_actions
  pub sum : IsSum t.version t.sum

-- the length of an image, which is known; it says nothing of a checksum
abbrev pub length_field : (image : ℕ) → Format ℕ
length_field image = coded_field (number_field w64 (2 ^ 64)) (λ n. if n == image then Some 0 else None) (λ _. image)

-- the checksum of an image, and that of a head, which it is part of
abbrev pub sums_field : (head : ℕ → ℕ) → Format ℕ
sums_field head =
    coded_field (both (number_field w32 (2 ^ 32)) (λ sum. tested_field (number_field w32 (2 ^ 32)) (λ n. n == head sum)))
    (λ p. Some p.0) (λ sum. (sum, head sum))

abbrev pub end_field : Layout → Half → Version → (epoch count : ℕ) → Format ℕ
end_field l h V01 epoch count = length_field (image_size l)
end_field l h V02 epoch count = length_field (image_size l)
end_field l h V03 epoch count = sums_field (head_sum l h V03 epoch count)

-- the head of a half of a layout
abbrev pub half_head : Layout → Half → Format HalfHead
half_head l h =
    coded_field (both (number_field w64 (2 ^ 64)) (λ epoch. both (mark l.version) (λ m. end_field l h m.0 epoch m.1)))
    (λ p. Some (record { epoch = p.0; version = p.1.0.0; count = p.1.0.1; sum = p.1.1 }))
    (λ t. (t.epoch, ((t.version, t.count), t.sum)))
