-- A device that is cut into its fields encodes what they say.
use Rattle.std.proofs.Common.{◌≡◌, ◌⊎◌, ℕ, suc, ◌+◌, ◌^◌, ◌<◌, ◌≤◌, Bool, true, false, leb, List, [], ◌∷◌, ◌++◌, length, take, Ok, refl, ap, ◌∙◌, append_assoc, arith, length-append}
use Rattle.std.proofs.lemmas.Bool.{leb-true, le-leb, and_parts, and_from}
use Rattle.std.proofs.lemmas.Nat.{from_be_bytes-to_be_bytes_8}
use Rattle.std.proofs.lemmas.List.{append-nil}
use Rattle.alm_model.specs.Plant.{Condensed}
use Rattle.alm_codec.specs.declared.version.Version.{Version}
use Rattle.alm_codec.specs.declared.version.Version.TheVariants.{V01, V02, V03}
use Rattle.alm_codec.specs.Image.{IsImageText, IsOf, image_text, image_len}
use Rattle.alm_codec.proofs.Spelled.{image_length}
use Rattle.alm_codec.specs.Versions.{is_open}
use Rattle.alm_segment.specs.Texts.{frames_text}
use Rattle.alm_segment.proofs.Segments.{folds}
use Rattle.alm_checkpoint.specs.declared.layout.Layout.{Layout}
use Rattle.alm_checkpoint.specs.declared.half_head.HalfHead.{HalfHead}
use Rattle.alm_checkpoint.specs.declared.half.Half.{Half}
use Rattle.alm_checkpoint.specs.declared.half.Half.TheVariants.{First, Second}
use Rattle.alm_checkpoint.specs.Layouts.{is_half_open, part, other, header_len, head_len, half_len, half_at, image_at, segment_at, image_size, device_len, is_segment, half_number}
use Rattle.alm_checkpoint.specs.Headers.{header_text, half_head_text, image_sum, IsSum, IsHeadOf}
use Rattle.alm_checkpoint.specs.Opening.{Opened, opened_half, ◌>>=◌, read_to, gate_in, epoch_in, choice, or_fault, layout_from, layout_in, head_by, head_of, chosen_from, half_head_from, beside_from, heads_from, heads_in, opened_in}
use Rattle.alm_checkpoint.specs.Standing.{Stands}
use Rattle.alm_checkpoint.specs.Cut.{Cut, IsLayout, Stores, IsBelow, Reaches, before, behind, device_of, head_before}
use Rattle.alm_checkpoint.proofs.HeaderLaws.{SuitsDevice, header_reads, head_reads, head_long}
use Rattle.alm_checkpoint.proofs.Pieces.{part_is, part_of, gate_short, epoch_short, chosen_first, chosen_second}

abbrev start_text : Layout → List ℕ
start_text l = 165 ∷ header_text l

abbrev mark_text : ℕ → Layout → Half → HalfHead → List ℕ
mark_text g l h t = g ∷ half_head_text l h t

mark_long : (g : ℕ) (l : Layout) (h : Half) (t : HalfHead) → length (mark_text g l h t) ≡ 25
mark_long g l h t = ap suc (head_long l h t)

-- what the opened device is
abbrev pub shown : Cut → List ℕ → Opened
shown c tail = record {
  layout = c.layout;
  half = c.half;
  head = head_before c.version c.epoch c.base;
  image = image_text c.base;
  segment = frames_text c.version c.epoch c.base.panel.count c.frames ++ tail;
}

-- ---- the bytes, field by field

flat : (h m i f t b o r : List ℕ) → (h ++ b) ++ (m ++ i ++ f) ++ t ++ r ≡ (h ++ b) ++ (m ++ (i ++ ((f ++ t) ++ r)))
flat h m i f t b o r = simp append_assoc

-- lengths of the fields
pub image_is_long : (l : Layout) (q : Condensed) → IsOf l.rows l.areas q.panel.count q → IsImageText q (image_text q) → length (image_text q) ≡ image_size l
image_is_long l q of h = image_length q h.rules ∙ (λ i. image_len (of.by_rows i) (of.by_areas i))

-- the places of the fields on a device
pub record Laid (device : List ℕ) (g : ℕ) (l : Layout) (h : Half) (t : HalfHead) (image segment beside : List ℕ) : Type 0 where
  pub size : device_len l ≤ length device
  pub start : part 0 header_len device ≡ start_text l
  pub mark : head_of l h device ≡ mark_text g l h t
  pub next : head_of l (other h) device ≡ take 25 beside
  pub image_there : part (image_at l h) (image_size l) device ≡ image
  pub segment_there : part (segment_at l h) l.segment device ≡ segment

abbrev bytes_of : ℕ → Layout → Half → HalfHead → (i f t o r : List ℕ) → List ℕ
bytes_of g l h head i f t o r = (start_text l ++ before h o) ++ (mark_text g l h head ++ i ++ f) ++ t ++ behind h o r

size_is : (s b m i f t e : List ℕ) → length ((s ++ b) ++ (m ++ i ++ f) ++ t ++ e) ≡ length s + length b + (length m + length i + length f) + length t + length e
size_is s b m i f t e =
    omega (
      arith,
      length-append ((s ++ b) ++ (m ++ i ++ f) ++ t) e,
      length-append ((s ++ b) ++ (m ++ i ++ f)) t,
      length-append (s ++ b) (m ++ i ++ f),
      length-append s b,
      length-append (m ++ i) f,
      length-append m i,
    )

cut_mark : (s b m i f t e : List ℕ) → (s ++ b) ++ (m ++ i ++ f) ++ t ++ e ≡ (s ++ b) ++ (m ++ (i ++ f ++ t ++ e))
cut_mark s b m i f t e = simp append_assoc

cut_image : (s b m i f t e : List ℕ) → (s ++ b) ++ (m ++ i ++ f) ++ t ++ e ≡ (s ++ b ++ m) ++ (i ++ (f ++ t ++ e))
cut_image s b m i f t e = simp append_assoc

cut_segment : (s b m i f t e : List ℕ) → (s ++ b) ++ (m ++ i ++ f) ++ t ++ e ≡ (s ++ b ++ m ++ i) ++ ((f ++ t) ++ e)
cut_segment s b m i f t e = simp append_assoc

cut_start : (s b m i f t e : List ℕ) → (s ++ b) ++ (m ++ i ++ f) ++ t ++ e ≡ [] ++ (s ++ (b ++ (m ++ i ++ f) ++ t ++ e))
cut_start s b m i f t e = simp append_assoc

cut_before : (s b m i f t e : List ℕ) → (s ++ b) ++ (m ++ i ++ f) ++ t ++ e ≡ s ++ (b ++ ((m ++ i ++ f) ++ t ++ e))
cut_before s b m i f t e = simp append_assoc

cut_behind : (s m i f t o r : List ℕ) → (s ++ []) ++ (m ++ i ++ f) ++ t ++ (o ++ r) ≡ (s ++ (m ++ i ++ f) ++ t) ++ (o ++ r)
cut_behind s m i f t o r = ap (λ (x : List ℕ). x ++ (m ++ i ++ f) ++ t ++ (o ++ r)) (append-nil s) ∙ simp append_assoc

pub laid : (g : ℕ) (l : Layout) (h : Half) (head : HalfHead) (i f t o r : List ℕ) → length i ≡ image_size l → length f + length t ≡ l.segment → length o ≡ half_len l
    → Laid (bytes_of g l h head i f t o r) g l h head i (f ++ t) o
laid g l First head i f t o r by_image by_segment by_other =
    let s = start_text l in
    let m : List ℕ = mark_text g l First head in
    let long : length m ≡ 25 = mark_long g l First head in
    let e : List ℕ = o ++ r in
    let segment : length (f ++ t) ≡ l.segment = length-append f t ∙ by_segment in
    record {
      size = omega (arith, size_is s [] m i f t e, length-append o r, long, by_image, by_segment, by_other);
      start = part_is 0 header_len [] s _ _ refl refl (cut_start s [] m i f t e);
      mark = part_is (half_at l First) head_len (s ++ []) m _ _ (omega (arith, length-append s [])) long (cut_mark s [] m i f t e);
      next = part_of (half_at l Second) 25 (s ++ (m ++ i ++ f) ++ t) o r _ (omega (arith, length-append (s ++ (m ++ i ++ f)) t, length-append s (m ++ i ++ f), length-append (m ++ i) f, length-append m i, long, by_image, by_segment)) (omega (arith, by_other)) (cut_behind s m i f t o r);
      image_there = part_is (image_at l First) (image_size l) (s ++ [] ++ m) i _ _ (omega (arith, length-append (s ++ []) m, length-append s [], long)) by_image (cut_image s [] m i f t e);
      segment_there = part_is (segment_at l First) l.segment (s ++ [] ++ m ++ i) (f ++ t) _ _ (omega (arith, length-append (s ++ [] ++ m) i, length-append (s ++ []) m, length-append s [], long, by_image)) segment (cut_segment s [] m i f t e);
    }
laid g l Second head i f t o r by_image by_segment by_other =
    let s = start_text l in
    let m : List ℕ = mark_text g l Second head in
    let long : length m ≡ 25 = mark_long g l Second head in
    let segment : length (f ++ t) ≡ l.segment = length-append f t ∙ by_segment in
    record {
      size = omega (arith, size_is s o m i f t r, long, by_image, by_segment, by_other);
      start = part_is 0 header_len [] s _ _ refl refl (cut_start s o m i f t r);
      mark = part_is (half_at l Second) head_len (s ++ o) m _ _ (omega (arith, length-append s o, by_other)) long (cut_mark s o m i f t r);
      next = part_of (half_at l First) 25 s o _ _ refl (omega (arith, by_other)) (cut_before s o m i f t r);
      image_there = part_is (image_at l Second) (image_size l) (s ++ o ++ m) i _ _ (omega (arith, length-append (s ++ o) m, length-append s o, long, by_other)) by_image (cut_image s o m i f t r);
      segment_there = part_is (segment_at l Second) l.segment (s ++ o ++ m ++ i) (f ++ t) _ _ (omega (arith, length-append (s ++ o ++ m) i, length-append (s ++ o) m, length-append s o, long, by_image, by_other)) segment (cut_segment s o m i f t r);
    }

-- ---- opening them

epoch_again : (g : ℕ) (l : Layout) (h : Half) (t : HalfHead) → t.epoch < 2 ^ 64 → epoch_in (mark_text g l h t) ≡ t.epoch
epoch_again g l h t lt = from_be_bytes-to_be_bytes_8 t.epoch lt

-- the head of the other half says what that half says
gate_beside : (device beside : List ℕ) (l : Layout) (h : Half) → head_of l h device ≡ take 25 beside → gate_in (head_of l h device) ≡ gate_in beside
gate_beside device beside l h e = ap gate_in e ∙ gate_short beside

epoch_beside : (device beside : List ℕ) (l : Layout) (h : Half) → head_of l h device ≡ take 25 beside → epoch_in (head_of l h device) ≡ epoch_in beside
epoch_beside device beside l h e = ap epoch_in e ∙ epoch_short beside

chosen : (device : List ℕ) (g : ℕ) (l : Layout) (h : Half) (t : HalfHead) (image segment beside : List ℕ) → Laid device g l h t image segment beside → is_half_open g ≡ true → t.epoch < 2 ^ 64 → (gate_in beside ≡ false) ⊎ (epoch_in beside < t.epoch) → chosen_from l (head_of l First device) (head_of l Second device) ≡ Ok h
chosen device g l First t image segment beside d opened lt below =
    let gate : gate_in (head_of l First device) ≡ true = ap gate_in d.mark ∙ opened in
    let mine : epoch_in (head_of l First device) ≡ t.epoch = ap epoch_in d.mark ∙ epoch_again g l First t lt in
    ap (λ (b : Bool). or_fault l (choice b (gate_in (head_of l Second device)) (epoch_in (head_of l First device)) (epoch_in (head_of l Second device)))) gate
    ∙ ap (λ (b : Bool). or_fault l (choice true b (epoch_in (head_of l First device)) (epoch_in (head_of l Second device)))) (gate_beside device beside l Second d.next)
    ∙ ap (λ (e : ℕ). or_fault l (choice true (gate_in beside) e (epoch_in (head_of l Second device)))) mine
    ∙ ap (λ (e : ℕ). or_fault l (choice true (gate_in beside) t.epoch e)) (epoch_beside device beside l Second d.next)
    ∙ ap (or_fault l) (chosen_first (gate_in beside) t.epoch (epoch_in beside) below)
chosen device g l Second t image segment beside d opened lt below =
    let gate : gate_in (head_of l Second device) ≡ true = ap gate_in d.mark ∙ opened in
    let mine : epoch_in (head_of l Second device) ≡ t.epoch = ap epoch_in d.mark ∙ epoch_again g l Second t lt in
    ap (λ (b : Bool). or_fault l (choice (gate_in (head_of l First device)) b (epoch_in (head_of l First device)) (epoch_in (head_of l Second device)))) gate
    ∙ ap (λ (b : Bool). or_fault l (choice b true (epoch_in (head_of l First device)) (epoch_in (head_of l Second device)))) (gate_beside device beside l First d.next)
    ∙ ap (λ (e : ℕ). or_fault l (choice (gate_in beside) true (epoch_in (head_of l First device)) e)) mine
    ∙ ap (λ (e : ℕ). or_fault l (choice (gate_in beside) true e t.epoch)) (epoch_beside device beside l First d.next)
    ∙ ap (or_fault l) (chosen_second (gate_in beside) (epoch_in beside) t.epoch below)

pub suited : (size : ℕ) (l : Layout) → IsLayout l → device_len l ≤ size → SuitsDevice size l
suited size l limits long = record {
  rows = limits.rows;
  areas = limits.areas;
  segment = and_from (is_segment l.segment) (leb (device_len l) size) limits.segment (le-leb (device_len l) size long);
}

-- the header of a device that is long enough
layout_again : (device : List ℕ) (l : Layout) → IsLayout l → device_len l ≤ length device → part 0 header_len device ≡ start_text l → layout_in device ≡ Ok l
unfolding layout_from
layout_again device l limits long start =
    let fits = suited (length device) l limits long in
    ap (layout_from (length device)) start
    ∙ ap (λ r. read_to 2 header_len r >>= λ x. Ok x.0) (header_reads (length device) l fits)

pub image_small : (l : Layout) → IsLayout l → image_size l < 2 ^ 64
image_small l limits =
    let rows = leb-true l.rows 16384 (and_parts (leb 1 l.rows) (leb l.rows 16384) limits.rows).1 in
    let areas = leb-true l.areas 64 (and_parts (leb 1 l.areas) (leb l.areas 64) limits.areas).1 in
    omega (arith, rows, areas)

-- a head
pub told_again : (g : ℕ) (l : Layout) (h : Half) (t : HalfHead) → IsLayout l → IsHeadOf l t → half_head_from l h (mark_text g l h t) ≡ Ok t
unfolding half_head_from
told_again g l h t limits is = ap (λ r. read_to (half_number h) (image_at l h) r >>= λ x. Ok x.0) (head_reads l h t is (image_small l limits))

pub head_is : (l : Layout) (device : List ℕ) (h : Half) → head_by h (head_of l First device) (head_of l Second device) ≡ head_of l h device
head_is l device First = refl
head_is l device Second = refl

-- both heads
heads_again : (device : List ℕ) (g : ℕ) (l : Layout) (h : Half) (t : HalfHead) (image segment beside : List ℕ) → Laid device g l h t image segment beside → is_half_open g ≡ true → IsLayout l → IsHeadOf l t → IsBelow l (other h) t.epoch beside → heads_in l device ≡ Ok (h, t)
unfolding heads_from
heads_again device g l h t image segment beside d gate limits is below =
    let first : List ℕ = head_of l First device in
    let second : List ℕ = head_of l Second device in
    ap (λ r. r >>= λ h. half_head_from l h (head_by h first second) >>= λ t. beside_from l (other h) (head_by (other h) first second) >>= λ _. Ok (h, t)) (chosen device g l h t image segment beside d gate is.epoch below.older)
    ∙ ap (λ (b : List ℕ). half_head_from l h b >>= λ t. beside_from l (other h) (head_by (other h) first second) >>= λ _. Ok (h, t)) (head_is l device h ∙ d.mark)
    ∙ ap (λ r. r >>= λ t. beside_from l (other h) (head_by (other h) first second) >>= λ _. Ok (h, t)) (told_again g l h t limits is)
    ∙ ap (λ (b : List ℕ). beside_from l (other h) b >>= λ _. Ok (h, t)) (head_is l device (other h) ∙ d.next)
    ∙ ap (λ r. r >>= λ _. Ok (h, t)) below.whole

pub opened : (device : List ℕ) (g : ℕ) (l : Layout) (h : Half) (t : HalfHead) (image segment beside : List ℕ) → Laid device g l h t image segment beside → is_half_open g ≡ true → IsLayout l → IsHeadOf l t → IsBelow l (other h) t.epoch beside
    → opened_in device ≡ Ok (record { layout = l; half = h; head = t; image = image; segment = segment })
unfolding opened_in
opened device g l h t image segment beside d gate limits is below =
    ap (λ r. r >>= λ l. heads_in l device >>= λ x. Ok (opened_half l x.0 x.1 device)) (layout_again device l limits d.size d.start)
    ∙ ap (λ r. r >>= λ x. Ok (opened_half l x.0 x.1 device)) (heads_again device g l h t image segment beside d gate limits is below)
    ∙ ap (λ (i : List ℕ). Ok (record { layout = l; half = h; head = t; image = i; segment = part (segment_at l h) l.segment device })) d.image_there
    ∙ ap (λ (s : List ℕ). Ok (record { layout = l; half = h; head = t; image = image; segment = s })) d.segment_there

-- ---- the half that is shown stands

-- a checksum is one
sum_is : (version : Version) (image : List ℕ) → IsSum version (image_sum version image)
sum_is V01 image = refl
sum_is V02 image = refl
sum_is V03 image = omega arith

-- the head of a half that stores a plant
pub head_fits : (c : Cut) (plant : Condensed) → Stores c plant → IsHeadOf c.layout (head_before c.version c.epoch c.base)
head_fits c plant s = record { epoch = s.epoch; allowed = s.version; count = s.count; sum = sum_is c.version (image_text c.base) }

pub shown_opens : (c : Cut) (plant : Condensed) (tail : List ℕ) → Stores c plant → Reaches c tail → opened_in (device_of c tail) ≡ Ok (shown c tail)
shown_opens c plant tail s reaches =
    opened (device_of c tail) 165 c.layout c.half (head_before c.version c.epoch c.base) (image_text c.base) (frames_text c.version c.epoch c.base.panel.count c.frames ++ tail) c.other
    (laid 165 c.layout c.half (head_before c.version c.epoch c.base) (image_text c.base) (frames_text c.version c.epoch c.base.panel.count c.frames) tail c.other c.rest (image_is_long c.layout c.base s.sizes s.image) reaches s.size)
    refl s.layout (head_fits c plant s) s.below

-- .. and so does the gate of the other half
pub shown_beside : (c : Cut) (plant : Condensed) (tail : List ℕ) → Stores c plant → Reaches c tail → gate_in (head_of c.layout (other c.half) (device_of c tail)) ≡ gate_in c.other
shown_beside c plant tail s reaches =
    gate_beside (device_of c tail) c.other c.layout (other c.half)
    (laid 165 c.layout c.half (head_before c.version c.epoch c.base) (image_text c.base) (frames_text c.version c.epoch c.base.panel.count c.frames) tail c.other c.rest (image_is_long c.layout c.base s.sizes s.image) reaches s.size).next

pub stands : (c : Cut) (plant : Condensed) (gate : ℕ) (tail : List ℕ) → Stores c plant → is_open c.version gate ≡ false → Reaches c (gate ∷ tail) → Stands (device_of c (gate ∷ tail)) c.epoch plant
stands c plant gate tail s shut reaches = record {
  opened = shown c (gate ∷ tail);
  opens = shown_opens c plant (gate ∷ tail) s reaches;
  in_epoch = refl;
  base = c.base;
  spells = record { sum = refl; sizes = s.sizes; image = s.image };
  left = suc (length tail);
  folds = folds c.version c.base c.epoch c.base.panel.count c.frames gate tail s.frames s.borne s.admitted shut ∙ ap (λ (q : Condensed). Ok (q, suc (length tail))) s.runs;
}
