-- A device that encodes a plant is cut into fields that say so.
use Rattle.std.proofs.Common.{◌≡◌, ◌⊎◌, ⊎_elim, inl, inr, ℕ, ◌+◌, ◌<◌, ◌≤◌, Bool, true, false, eqb, ltb, leb, cond, List, [], ◌∷◌, ◌++◌, length, take, drop, Result, Ok, Err, refl, sym, ap, subst, ◌∙◌, append_assoc, arith, length-append, length-drop}
use Rattle.std.proofs.Math.Seq.{take-add}
use Rattle.std.proofs.lemmas.Bool.{eqb-true, leb-true, ltb-true, ltb-false, eqb-false, and_parts}
use Rattle.std.proofs.lemmas.List.{append-nil, take-append-drop, drop-drop, length-take-le, length-take, take-take}
use Rattle.std.proofs.lemmas.Nat.{from_be_bytes-to_be_bytes_8}
use Rattle.alm_model.specs.Plant.{Condensed}
use Rattle.alm_codec.specs.Image.{image_text}
use Rattle.alm_codec.specs.Reading.{IsBytes}
use Rattle.alm_codec.proofs.Bytes.{IsBytes-drop, IsBytes-take}
use Rattle.alm_codec.specs.Versions.{is_open}
use Rattle.alm_segment.specs.Folding.{stored_in}
use Rattle.alm_segment.specs.Texts.{Frame, frames_text}
use Rattle.alm_segment.proofs.Found.{found}
use Rattle.alm_checkpoint.specs.declared.layout.Layout.{Layout}
use Rattle.alm_checkpoint.specs.declared.half_head.HalfHead.{HalfHead}
use Rattle.alm_checkpoint.specs.declared.device_fault.DeviceFault.{DeviceFault}
use Rattle.alm_checkpoint.specs.declared.device_fault.DeviceFault.TheVariants.{Unformatted}
use Rattle.alm_checkpoint.specs.declared.no_choice.NoChoice.TheVariants.{EqualEpochs}
use Rattle.alm_checkpoint.specs.declared.half.Half.{Half}
use Rattle.alm_checkpoint.specs.declared.half.Half.TheVariants.{First, Second}
use Rattle.alm_checkpoint.specs.Layouts.{layout_byte, is_header_open, is_half_open, part, other, header_len, head_len, half_len, half_at, image_at, segment_at, image_size, device_len, is_segment, half_number}
use Rattle.alm_checkpoint.specs.Headers.{header, half_head, header_text, half_head_text, image_sum, IsHeadOf}
use Rattle.alm_checkpoint.specs.Opening.{Opened, opened_half, ◌>>=◌, rule, read_to, gate_in, epoch_in, choice, or_fault, layout_from, layout_in, head_by, head_of, chosen_from, half_head_from, beside_from, heads_from, heads_in, opened_in}
use Rattle.alm_checkpoint.specs.Standing.{Stands, Spells, gate_place, end_of}
use Rattle.alm_checkpoint.specs.Cut.{Cut, IsCut, IsLayout, Stores, IsBelow, Reaches, before, behind, front, back, device_of, head_before}
use Rattle.alm_checkpoint.proofs.HeaderLaws.{header_is, head_is, head_long}
use Rattle.alm_checkpoint.proofs.Grown.{gate_at}
use Rattle.alm_checkpoint.proofs.Pieces.{gate_short, epoch_short}
use Rattle.alm_checkpoint.proofs.Shown.{head_is as one_head}

-- ---- what a step that succeeded had

bind_ok : {A B : Type 0} (r : Result A DeviceFault) (f : A → Result B DeviceFault) (y : B) → (r >>= f) ≡ Ok y → (x : A) × (r ≡ Ok x) × (f x ≡ Ok y)
bind_ok (Ok x) f y e = (x, refl, e)
bind_ok (Err d) f y e = absurd cc

rule_ok : (b : Bool) (fault : DeviceFault) (x : Unit {0}) → rule b fault ≡ Ok x → b ≡ true
rule_ok true fault x e = refl
rule_ok false fault x e = absurd cc

abbrev fine : {A : Type 0} → A → Result A DeviceFault
fine x = Ok x

fine_is : {A : Type 0} (x y : A) → fine x ≡ fine y → x ≡ y
fine_is x y e = cc

read_ok : {A : Type 0} (half end : ℕ) (r : Result A ℕ) (x : A) → read_to half end r ≡ Ok x → r ≡ Ok x
read_ok half end (Ok y) x e = ap (λ z. Ok z) (fine_is y x e)
read_ok half end (Err left) x e = absurd cc

-- a list of one byte and more
first_is : (bytes rest : List ℕ) → 1 ≤ length bytes → is_header_open (layout_byte bytes 0) ≡ true → drop 1 bytes ≡ rest → bytes ≡ 165 ∷ rest
first_is [] rest long gate e = absurd (omega (arith, long))
first_is (b ∷ bytes) rest long gate e = (λ i. eqb-true b 165 gate i ∷ e i)

first_of : (bytes rest : List ℕ) → 1 ≤ length bytes → drop 1 bytes ≡ rest → bytes ≡ layout_byte bytes 0 ∷ rest
first_of [] rest long e = absurd (omega (arith, long))
first_of (b ∷ bytes) rest long e = ap (λ (l : List ℕ). b ∷ l) e

nothing : (rest : List ℕ) → length rest ≡ 0 → rest ≡ []
nothing [] e = refl
nothing (x ∷ rest) e = absurd (omega (arith, e))

-- ---- the header

pub record Headed (device : List ℕ) (l : Layout) : Type 0 where
  pub start : part 0 header_len device ≡ 165 ∷ header_text l
  pub limits : IsLayout l
  pub size : device_len l ≤ length device

pub layout_is : (device : List ℕ) (l : Layout) → IsBytes device → layout_in device ≡ Ok l → Headed device l
unfolding layout_from
layout_is device l fits e =
    let start : List ℕ = part 0 header_len device in
    let a = bind_ok (rule (leb header_len (length start)) Unformatted) (λ _. rule (is_header_open (layout_byte start 0)) Unformatted >>= λ _. read_to 2 header_len ((header (length device)).read (drop 1 start)) >>= λ x. Ok x.0) l e in
    let b = bind_ok (rule (is_header_open (layout_byte start 0)) Unformatted) (λ _. read_to 2 header_len ((header (length device)).read (drop 1 start)) >>= λ x. Ok x.0) l a.2 in
    let d = bind_ok (read_to 2 header_len ((header (length device)).read (drop 1 start))) (λ x. Ok x.0) l b.2 in
    let long : header_len ≤ length start = leb-true header_len (length start) (rule_ok (leb header_len (length start)) Unformatted a.0 a.1) in
    let gate : is_header_open (layout_byte start 0) ≡ true = rule_ok (is_header_open (layout_byte start 0)) Unformatted b.0 b.1 in
    let h = header_is (length device) (drop 1 start) d.0 (IsBytes-drop 1 start (IsBytes-take header_len device fits)) (read_ok 2 header_len ((header (length device)).read (drop 1 start)) d.0 d.1) in
    let same : d.0.0 ≡ l = fine_is d.0.0 l d.2 in
    let most : length start ≤ header_len = omega (arith, length-take header_len device) in
    let rest : d.0.1 ≡ [] = nothing d.0.1 (omega (arith, ap length h.0, length-append (header_text d.0.0) d.0.1, length-drop 1 start, most)) in
    let text : drop 1 start ≡ header_text d.0.0 = h.0 ∙ ap (λ (r : List ℕ). header_text d.0.0 ++ r) rest ∙ append-nil (header_text d.0.0) in
    let sized = and_parts (is_segment d.0.0.segment) (leb (device_len d.0.0) (length device)) h.1.segment in
    subst (Headed device) same
    (record {
      start = first_is start (header_text d.0.0) (omega (arith, long)) gate text;
      limits = record { rows = h.1.rows; areas = h.1.areas; segment = sized.0 };
      size = leb-true (device_len d.0.0) (length device) sized.1;
    })

-- ---- the half that stands

record IsChosen (device : List ℕ) (l : Layout) (h : Half) : Type 0 where
  gate : gate_in (head_of l h device) ≡ true
  below : (gate_in (head_of l (other h) device) ≡ false) ⊎ (epoch_in (head_of l (other h) device) < epoch_in (head_of l h device))

abbrev Choices : Layout → Half → (b d : Bool) (e f : ℕ) → Type 0
Choices l First b d e f = (b ≡ true) × ((d ≡ false) ⊎ (f < e))
Choices l Second b d e f = (d ≡ true) × ((b ≡ false) ⊎ (e < f))

half_is : (l : Layout) (h k : Half) (b d : Bool) (e f : ℕ) → Choices l k b d e f → fine k ≡ fine h → Choices l h b d e f
half_is l h k b d e f p same = subst (λ (x : Half). Choices l x b d e f) (fine_is k h same) p

both_open : (l : Layout) (h : Half) (e f : ℕ) (same less : Bool) → eqb e f ≡ same → ltb e f ≡ less → or_fault l (cond same (Err EqualEpochs) (cond less (Ok Second) (Ok First))) ≡ Ok h → Choices l h true true e f
both_open l h e f true less p q r = absurd cc
both_open l h e f false true p q r = half_is l h Second true true e f (refl, inr (ltb-true e f q)) r
both_open l h e f false false p q r = half_is l h First true true e f (refl, inr (omega (arith, ltb-false e f q, eqb-false e f p))) r

choice_is : (l : Layout) (h : Half) (b d : Bool) (e f : ℕ) → or_fault l (choice b d e f) ≡ Ok h → Choices l h b d e f
choice_is l h false false e f r = absurd cc
choice_is l h true false e f r = half_is l h First true false e f (refl, inl refl) r
choice_is l h false true e f r = half_is l h Second false true e f (refl, inl refl) r
choice_is l h true true e f r = both_open l h e f (eqb e f) (ltb e f) refl refl r

chosen_is : (device : List ℕ) (l : Layout) (h : Half) → chosen_from l (head_of l First device) (head_of l Second device) ≡ Ok h → IsChosen device l h
chosen_is device l First e =
    let c = choice_is l First (gate_in (head_of l First device)) (gate_in (head_of l Second device)) (epoch_in (head_of l First device)) (epoch_in (head_of l Second device)) e in
    record { gate = c.0; below = c.1 }
chosen_is device l Second e =
    let c = choice_is l Second (gate_in (head_of l First device)) (gate_in (head_of l Second device)) (epoch_in (head_of l First device)) (epoch_in (head_of l Second device)) e in
    record { gate = c.0; below = c.1 }

-- ---- its head

half_fits : (l : Layout) (h : Half) (device : List ℕ) → device_len l ≤ length device → half_at l h + half_len l ≤ length device
half_fits l First device size = omega (arith, size)
half_fits l Second device size = omega (arith, size)

record IsTold (device : List ℕ) (l : Layout) (h : Half) (t : HalfHead) : Type 0 where
  mark : head_of l h device ≡ layout_byte (head_of l h device) 0 ∷ half_head_text l h t
  is : IsHeadOf l t

told_is : (device : List ℕ) (l : Layout) (h : Half) (t : HalfHead) → IsBytes device → device_len l ≤ length device → half_head_from l h (head_of l h device) ≡ Ok t → IsTold device l h t
unfolding half_head_from
told_is device l h t fits size e =
    let bytes : List ℕ = head_of l h device in
    let d = bind_ok (read_to (half_number h) (image_at l h) ((half_head l h).read (drop 1 bytes))) (λ x. Ok x.0) t e in
    let k = head_is l h (drop 1 bytes) d.0 (IsBytes-drop 1 bytes (IsBytes-take head_len (drop (half_at l h) device) (IsBytes-drop (half_at l h) device fits))) (read_ok (half_number h) (image_at l h) ((half_head l h).read (drop 1 bytes)) d.0 d.1) in
    let same : d.0.0 ≡ t = fine_is d.0.0 t d.2 in
    let long : length bytes ≡ 25 = length-take-le head_len (drop (half_at l h) device) (omega (arith, length-drop (half_at l h) device, half_fits l h device size)) in
    let rest : d.0.1 ≡ [] = nothing d.0.1 (omega (arith, ap length k.parts, length-append (half_head_text l h d.0.0) d.0.1, head_long l h d.0.0, length-drop 1 bytes, long)) in
    let text : drop 1 bytes ≡ half_head_text l h d.0.0 = k.parts ∙ ap (λ (r : List ℕ). half_head_text l h d.0.0 ++ r) rest ∙ append-nil (half_head_text l h d.0.0) in
    subst (IsTold device l h) same (record { mark = first_of bytes (half_head_text l h d.0.0) (omega (arith, long)) text; is = k.is })

-- ---- the device's bytes by their places

part_join : (at n m : ℕ) (bytes : List ℕ) → part at (n + m) bytes ≡ part at n bytes ++ part (at + n) m bytes
part_join at n m bytes = take-add n m (drop at bytes) ∙ ap (λ (l : List ℕ). part at n bytes ++ take m l) (drop-drop n at bytes)

half_parts : (l : Layout) (h : Half) (device : List ℕ) → part (half_at l h) (half_len l) device ≡ head_of l h device ++ part (image_at l h) (image_size l) device ++ part (segment_at l h) l.segment device
half_parts l h device =
    let place : half_at l h + (head_len + image_size l) ≡ segment_at l h = omega arith in
    part_join (half_at l h) (head_len + image_size l) l.segment device
    ∙ ap (λ (n : ℕ). part (half_at l h) (head_len + image_size l) device ++ part n l.segment device) place
    ∙ ap (λ (x : List ℕ). x ++ part (segment_at l h) l.segment device) (part_join (half_at l h) head_len (image_size l) device)

thirds : (n m k : ℕ) (bytes : List ℕ) → bytes ≡ part 0 n bytes ++ part n m bytes ++ part (n + m) k bytes ++ drop (n + m + k) bytes
thirds n m k bytes =
    sym (take-append-drop (n + m + k) bytes)
    ∙ ap (λ (x : List ℕ). x ++ drop (n + m + k) bytes) (take-add (n + m) k bytes)
    ∙ ap (λ (x : List ℕ). (x ++ part (n + m) k bytes) ++ drop (n + m + k) bytes) (take-add n m bytes)

abbrev half_bytes : Layout → Half → List ℕ → List ℕ
half_bytes l h device = part (half_at l h) (half_len l) device

abbrev rest_bytes : Layout → List ℕ → List ℕ
rest_bytes l device = drop (device_len l) device

regroup_first : (s a b r : List ℕ) → s ++ a ++ b ++ r ≡ (s ++ []) ++ a ++ (b ++ r)
regroup_first s a b r = append_assoc (s ++ a) b r ∙ ap (λ (x : List ℕ). x ++ a ++ (b ++ r)) (sym (append-nil s))

in_order : (l : Layout) (h : Half) (device : List ℕ) → device ≡ (part 0 header_len device ++ before h (half_bytes l (other h) device)) ++ half_bytes l h device ++ behind h (half_bytes l (other h) device) (rest_bytes l device)
in_order l First device = thirds header_len (half_len l) (half_len l) device ∙ regroup_first (part 0 header_len device) (half_bytes l First device) (half_bytes l Second device) (rest_bytes l device)
in_order l Second device = thirds header_len (half_len l) (half_len l) device

-- ---- the cut

pub record CutOf (device : List ℕ) (epoch : ℕ) (plant : Condensed) (o : Opened) (base : Condensed) (left : ℕ) : Type 0 where
  pub cut : Cut
  pub gate : ℕ
  pub tail : List ℕ
  pub is : device ≡ device_of cut (gate ∷ tail)
  pub stores : Stores cut plant
  pub shut : is_open cut.version gate ≡ false
  pub reaches : Reaches cut (gate ∷ tail)
  pub left_is : left ≡ length (gate ∷ tail)
  pub gate_there : length (front cut) + left ≡ end_of o
  pub of_layout : cut.layout ≡ o.layout
  pub of_half : cut.half ≡ o.half
  pub of_version : cut.version ≡ o.head.version
  pub of_epoch : cut.epoch ≡ epoch
  pub of_base : cut.base ≡ base
  -- the other half's gate
  pub of_other : gate_in (head_of o.layout (other o.half) device) ≡ is_half_open (layout_byte cut.other 0)

head_short : (l : Layout) (h : Half) (device : List ℕ) → head_of l h device ≡ take 25 (half_bytes l h device)
head_short l h device = sym (take-take 25 (half_len l) (drop (half_at l h) device) (omega arith))

-- what is read of both heads
record AreHeads (device : List ℕ) (l : Layout) (h : Half) (t : HalfHead) : Type 0 where
  choice : chosen_from l (head_of l First device) (head_of l Second device) ≡ Ok h
  told : half_head_from l h (head_of l h device) ≡ Ok t
  whole : beside_from l (other h) (head_of l (other h) device) ≡ Ok tt

heads_are : (device : List ℕ) (l : Layout) (h : Half) (t : HalfHead) → heads_in l device ≡ Ok (h, t) → AreHeads device l h t
unfolding heads_from
heads_are device l h t e =
    let first : List ℕ = head_of l First device in
    let second : List ℕ = head_of l Second device in
    let a = bind_ok (chosen_from l first second) (λ h. half_head_from l h (head_by h first second) >>= λ t. beside_from l (other h) (head_by (other h) first second) >>= λ _. Ok (h, t)) (h, t) e in
    let b = bind_ok (half_head_from l a.0 (head_by a.0 first second)) (λ t. beside_from l (other a.0) (head_by (other a.0) first second) >>= λ _. Ok (a.0, t)) (h, t) a.2 in
    let d = bind_ok (beside_from l (other a.0) (head_by (other a.0) first second)) (λ _. Ok (a.0, b.0)) (h, t) b.2 in
    let same : pair_of a.0 b.0 ≡ pair_of h t = fine_is (a.0, b.0) (h, t) d.2 in
    let here : AreHeads device l a.0 b.0 = record {
      choice = a.1;
      told = ap (half_head_from l a.0) (sym (one_head l device a.0)) ∙ b.1;
      whole = ap (beside_from l (other a.0)) (sym (one_head l device (other a.0))) ∙ d.1;
    } in
    subst (λ (p : Half × HalfHead). AreHeads device l p.0 p.1) same here
  where
    pair_of : Half → HalfHead → Half × HalfHead
    pair_of h t = (h, t)

below_is : (device : List ℕ) (l : Layout) (h : Half) (t : HalfHead) → IsChosen device l h → IsTold device l h t → beside_from l (other h) (head_of l (other h) device) ≡ Ok tt → IsBelow l (other h) t.epoch (half_bytes l (other h) device)
below_is device l h t c m whole =
    let beside : List ℕ = half_bytes l (other h) device in
    let gate : gate_in (head_of l (other h) device) ≡ gate_in beside = ap gate_in (head_short l (other h) device) ∙ gate_short beside in
    let epoch : epoch_in (head_of l (other h) device) ≡ epoch_in beside = ap epoch_in (head_short l (other h) device) ∙ epoch_short beside in
    let mine : epoch_in (head_of l h device) ≡ t.epoch = ap epoch_in m.mark ∙ from_be_bytes-to_be_bytes_8 t.epoch m.is.epoch in
    record {
      older = ⊎_elim (λ shut. inl (sym gate ∙ shut)) (λ lt. inr (omega (arith, lt, epoch, mine))) c.below;
      whole = ap (beside_from l (other h)) (sym (head_short l (other h) device)) ∙ whole;
    }

abbrev cut_here : (device : List ℕ) (l : Layout) (h : Half) (t : HalfHead) (base : Condensed) (frames : List Frame) → Cut
cut_here device l h t base frames = record { layout = l; half = h; version = t.version; epoch = t.epoch; base = base; frames = frames; other = half_bytes l (other h) device; rest = rest_bytes l device }

regroup_half : (s m i f g e : List ℕ) → s ++ (m ++ i ++ (f ++ g)) ++ e ≡ s ++ (m ++ i ++ f) ++ g ++ e
regroup_half s m i f g e = simp append_assoc

pub cut_at : (device : List ℕ) (l : Layout) (h : Half) (t : HalfHead) (base plant : Condensed) (left : ℕ) → IsBytes device → layout_in device ≡ Ok l → heads_in l device ≡ Ok (h, t)
    → Spells (opened_half l h t device) base → stored_in t.version t.epoch base (part (segment_at l h) l.segment device) ≡ Ok (plant, left) → CutOf device t.epoch plant (opened_half l h t device) base left
cut_at device l h t base plant left fits e_layout e_heads spells folds =
    let hs = heads_are device l h t e_heads in
    let hd = layout_is device l fits e_layout in
    let ch = chosen_is device l h hs.choice in
    let tl = told_is device l h t fits hd.size hs.told in
    let segment : List ℕ = part (segment_at l h) l.segment device in
    let f = found t.version base t.epoch base.panel.count segment (plant, left) (IsBytes-take l.segment (drop (segment_at l h) device) (IsBytes-drop (segment_at l h) device fits)) folds in
    let c = cut_here device l h t base f.frames in
    let counted : t.count ≡ base.panel.count = sym spells.sizes.by_count in
    let summed : t.sum ≡ image_sum t.version (image_text base) = spells.sum ∙ ap (image_sum t.version) spells.image.text in
    let head : HalfHead = head_before t.version t.epoch base in
    let same_head : t ≡ head = (λ i. record { epoch = t.epoch; version = t.version; count = counted i; sum = summed i }) in
    let start : List ℕ = 165 ∷ header_text l ++ before h c.other in
    let own : ℕ = layout_byte (head_of l h device) 0 in
    let text : List ℕ = frames_text t.version t.epoch base.panel.count f.frames in
    let half : half_bytes l h device ≡ (165 ∷ half_head_text l h head) ++ image_text base ++ (text ++ f.gate ∷ f.tail) =
    half_parts l h device
    ∙ ap (λ (m : List ℕ). m ++ part (image_at l h) (image_size l) device ++ segment) tl.mark
    ∙ ap (λ (k : HalfHead). (own ∷ half_head_text l h k) ++ part (image_at l h) (image_size l) device ++ segment) same_head
    ∙ ap (λ (i : List ℕ). (own ∷ half_head_text l h head) ++ i ++ segment) spells.image.text
    ∙ ap (λ (s : List ℕ). (own ∷ half_head_text l h head) ++ image_text base ++ s) f.parts
    ∙ ap (λ (g : ℕ). (g ∷ half_head_text l h head) ++ image_text base ++ (text ++ f.gate ∷ f.tail)) (eqb-true own 165 ch.gate) in
    let shown : device ≡ device_of c (f.gate ∷ f.tail) =
    in_order l h device
    ∙ ap (λ (s : List ℕ). (s ++ before h c.other) ++ half_bytes l h device ++ back c) hd.start
    ∙ ap (λ (b : List ℕ). start ++ b ++ back c) half
    ∙ regroup_half start (165 ∷ half_head_text l h head) (image_text base) text (f.gate ∷ f.tail) (back c) in
    let long : length segment ≡ l.segment = length-take-le l.segment (drop (segment_at l h) device) (omega (arith, length-drop (segment_at l h) device, half_fits l h device hd.size)) in
    let reaches : Reaches c (f.gate ∷ f.tail) = sym (ap length f.parts ∙ length-append text (f.gate ∷ f.tail)) ∙ long in
    let beside : length c.other ≡ half_len l = length-take-le (half_len l) (drop (half_at l (other h)) device) (omega (arith, length-drop (half_at l (other h)) device, half_fits l (other h) device hd.size)) in
    let stores : Stores c plant = record {
      layout = hd.limits;
      version = tl.is.allowed;
      epoch = tl.is.epoch;
      image = record { rules = spells.image.rules; fits = spells.image.fits; text = refl };
      sizes = record { by_rows = spells.sizes.by_rows; by_areas = spells.sizes.by_areas; by_count = refl };
      count = omega (arith, tl.is.count, counted);
      frames = f.are_frames;
      borne = f.borne;
      admitted = f.admitted;
      runs = f.runs;
      size = beside;
      below = below_is device l h t ch tl hs.whole;
    } in
    record {
      cut = c;
      gate = f.gate;
      tail = f.tail;
      is = shown;
      stores = stores;
      shut = f.shut;
      reaches = reaches;
      left_is = omega (arith, f.left);
      gate_there = omega (arith, f.left, gate_at c plant (f.gate ∷ f.tail) stores reaches);
      of_layout = refl;
      of_half = refl;
      of_version = refl;
      of_epoch = refl;
      of_base = refl;
      of_other = ap gate_in (head_short l (other h) device) ∙ gate_short (half_bytes l (other h) device);
    }

-- the layout of a device that opens
pub layout_of : (device : List ℕ) (o : Opened) → opened_in device ≡ Ok o → layout_in device ≡ Ok o.layout
unfolding opened_in
layout_of device o opens =
    let a = bind_ok (layout_in device) (λ l. heads_in l device >>= λ x. Ok (opened_half l x.0 x.1 device)) o opens in
    let b = bind_ok (heads_in a.0 device) (λ x. Ok (opened_half a.0 x.0 x.1 device)) o a.2 in
    a.1 ∙ ap (λ (x : Opened). Ok x.layout) (fine_is (opened_half a.0 b.0.0 b.0.1 device) o b.2)

-- what a device encodes is cut so
pub cut_of : (device : List ℕ) (epoch : ℕ) (plant : Condensed) (s : Stands device epoch plant) → IsBytes device → CutOf device epoch plant s.opened s.base s.left
unfolding opened_in
cut_of device epoch plant s fits =
    let a = bind_ok (layout_in device) (λ l. heads_in l device >>= λ x. Ok (opened_half l x.0 x.1 device)) s.opened s.opens in
    let b = bind_ok (heads_in a.0 device) (λ x. Ok (opened_half a.0 x.0 x.1 device)) s.opened a.2 in
    let h : Half = b.0.0 in
    let t : HalfHead = b.0.1 in
    let same : opened_half a.0 h t device ≡ s.opened = fine_is (opened_half a.0 h t device) s.opened b.2 in
    let epochs : epoch ≡ t.epoch = sym s.in_epoch ∙ ap (λ (o : Opened). o.head.epoch) (sym same) in
    let spells : Spells (opened_half a.0 h t device) s.base = subst (λ (o : Opened). Spells o s.base) (sym same) s.spells in
    let one : stored_in t.version t.epoch s.base (part (segment_at a.0 h) a.0.segment device) ≡ stored_in s.opened.head.version epoch s.base s.opened.segment = (λ i. stored_in (same i).head.version (sym epochs i) s.base (same i).segment) in
    let cut = cut_at device a.0 h t s.base plant s.left fits a.1 b.1 spells (one ∙ s.folds) in
    subst (λ (e : ℕ). CutOf device e plant s.opened s.base s.left) (sym epochs) (subst (λ (o : Opened). CutOf device t.epoch plant o s.base s.left) same cut)

pub stands_cut : (device : List ℕ) (epoch : ℕ) (plant : Condensed) (s : Stands device epoch plant) → IsBytes device → IsCut device epoch plant (gate_place s)
stands_cut device epoch plant s fits =
    let k = cut_of device epoch plant s fits in
    record { cut = k.cut; gate = k.gate; tail = k.tail; is = k.is; stores = k.stores; shut = k.shut; reaches = k.reaches; of_epoch = k.of_epoch; gate_is = omega (arith, k.gate_there) }
