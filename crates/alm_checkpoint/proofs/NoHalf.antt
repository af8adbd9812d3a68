-- A device whose halves are both shut is damaged.
use Rattle.std.proofs.Common.{◌≡◌, ◌≢◌, inl, ℕ, ◌+◌, suc, false, List, ◌∷◌, ◌++◌, length, get_or, take, drop, Result, Ok, Err, sym, ◌∙◌, ap, subst, arith, length-append}
use Rattle.std.proofs.lemmas.Bool.{ne_eqb}
use Rattle.std.proofs.lemmas.List.{get_or_append_left, get_or-append-add, get_or-take, get_or-drop, take-append-le}
use Rattle.alm_model.specs.Plant.{Condensed}
use Rattle.alm_checkpoint.specs.declared.layout.Layout.{Layout}
use Rattle.alm_checkpoint.specs.declared.half.Half.{Half}
use Rattle.alm_checkpoint.specs.declared.half.Half.TheVariants.{First, Second}
use Rattle.alm_checkpoint.specs.declared.half_head.HalfHead.{HalfHead}
use Rattle.alm_checkpoint.specs.declared.device_fault.DeviceFault.{DeviceFault}
use Rattle.alm_checkpoint.specs.declared.device_fault.DeviceFault.TheVariants.{Damaged}
use Rattle.alm_checkpoint.specs.Layouts.{is_half_open, part, header_len, half_at, half_len, image_size, other}
use Rattle.alm_checkpoint.specs.Opening.{opened_half, ◌>>=◌, gate_in, epoch_in, choice, or_fault, layout_from, layout_in, head_of, head_by, half_head_from, beside_from, heads_from, heads_in, opened_in}
use Rattle.alm_checkpoint.specs.Standing.{Stands, HasFault}
use Rattle.alm_checkpoint.proofs.CutOf.{layout_of}

-- the gate of a half is one byte of the device
gate_of : (l : Layout) (h : Half) (device : List ℕ) → gate_in (head_of l h device) ≡ is_half_open (get_or device (half_at l h) 0)
gate_of l h device = ap is_half_open (get_or-take 25 (drop (half_at l h) device) 0 0 (omega arith) ∙ get_or-drop (half_at l h) device 0 0 ∙ ap (λ (n : ℕ). get_or device n 0) zero_more)
  where
    zero_more : half_at l h + 0 ≡ half_at l h
    zero_more = omega arith

-- both are shut
abbrev AreShut : Layout → List ℕ → Type 0
AreShut l device = (gate_in (head_of l First device) ≡ false) × (gate_in (head_of l Second device) ≡ false)

none_stands : (l : Layout) (device : List ℕ) → AreShut l device → heads_in l device ≡ Err (Damaged 2 (half_at l First))
unfolding heads_from
none_stands l device shut =
    let first : List ℕ = head_of l First device in
    let second : List ℕ = head_of l Second device in
    ap (λ (r : Result Half DeviceFault). r >>= λ h. half_head_from l h (head_by h first second) >>= λ t. beside_from l (other h) (head_by (other h) first second) >>= λ _. Ok (h, t))
    (λ i. or_fault l (choice (shut.0 i) (shut.1 i) (epoch_in first) (epoch_in second)))

pub no_half_stands : (l : Layout) (device : List ℕ) → layout_in device ≡ Ok l → AreShut l device → HasFault device (Damaged 2 (half_at l First))
unfolding opened_in
no_half_stands l device header shut =
    inl (ap (λ (r : Result Layout DeviceFault). r >>= λ l. heads_in l device >>= λ x. Ok (opened_half l x.0 x.1 device)) header
    ∙ ap (λ (r : Result (Half × HalfHead) DeviceFault). r >>= λ x. Ok (opened_half l x.0 x.1 device)) (none_stands l device shut))

-- one byte after the header is changed
module _ (front back : List ℕ) (old new : ℕ) where
  abbrev was : List ℕ
  was = front ++ old ∷ back

  abbrev is : List ℕ
  is = front ++ new ∷ back

  same_size : length is ≡ length was
  same_size = length-append front (new ∷ back) ∙ sym (length-append front (old ∷ back))

  same_header : (n : ℕ) → length front ≡ header_len + n → layout_in is ≡ layout_in was
  unfolding layout_from
  same_header n long =
      let first : (x : ℕ) → part 0 header_len (front ++ x ∷ back) ≡ take header_len front = λ x. take-append-le header_len front (x ∷ back) (omega (arith, long)) in
      λ i. layout_from (same_size i) ((first new ∙ sym (first old)) i)

  changed : get_or is (length front) 0 ≡ new
  changed = ap (λ (n : ℕ). get_or is n 0) (let e : length front ≡ length front + 0 = omega arith in e) ∙ get_or-append-add front (new ∷ back) 0 0

  before : (n : ℕ) (m : ℕ) → length front ≡ n + suc m → get_or is n 0 ≡ get_or was n 0
  before n m long = get_or_append_left front (new ∷ back) 0 n (omega (arith, long)) ∙ sym (get_or_append_left front (old ∷ back) 0 n (omega (arith, long)))

  after : (n : ℕ) (m : ℕ) → n ≡ length front + suc m → get_or is n 0 ≡ get_or was n 0
  after n m there =
      ap (λ (x : ℕ). get_or is x 0) there ∙ get_or-append-add front (new ∷ back) (suc m) 0
      ∙ sym (ap (λ (x : ℕ). get_or was x 0) there ∙ get_or-append-add front (old ∷ back) (suc m) 0)

-- the gate of the half that stands is another byte, and the other half's is closed
module _ (l : Layout) (front back : List ℕ) (gate : ℕ) (differs : gate ≢ 165) where
  abbrev device : List ℕ
  device = front ++ 165 ∷ back

  abbrev damaged : List ℕ
  damaged = front ++ gate ∷ back

  shut_here : (h : Half) → length front ≡ half_at l h → gate_in (head_of l h damaged) ≡ false
  shut_here h place = gate_of l h damaged ∙ ap is_half_open (ap (λ (n : ℕ). get_or damaged n 0) (sym place) ∙ changed front back 165 gate) ∙ ne_eqb gate 165 differs

  shut_beside : (h : Half) → length front ≡ half_at l h → gate_in (head_of l (other h) device) ≡ false → gate_in (head_of l (other h) damaged) ≡ false
  shut_beside First place closed =
      gate_of l Second damaged ∙ ap is_half_open (after front back 165 gate (half_at l Second) (24 + image_size l + l.segment) (omega (arith, place))) ∙ sym (gate_of l Second device) ∙ closed
  shut_beside Second place closed =
      gate_of l First damaged ∙ ap is_half_open (before front back 165 gate (half_at l First) (24 + image_size l + l.segment) (omega (arith, place))) ∙ sym (gate_of l First device) ∙ closed

  both_shut : (h : Half) → length front ≡ half_at l h → gate_in (head_of l (other h) device) ≡ false → AreShut l damaged
  both_shut First place closed = (shut_here First place, shut_beside First place closed)
  both_shut Second place closed = (shut_beside Second place closed, shut_here Second place)

  behind_header : (h : Half) → length front ≡ half_at l h → layout_in damaged ≡ layout_in device
  behind_header First place = same_header front back 165 gate 0 (omega (arith, place))
  behind_header Second place = same_header front back 165 gate (half_len l) (omega (arith, place))

  pub gate_is_told : (h : Half) → layout_in device ≡ Ok l → length front ≡ half_at l h → gate_in (head_of l (other h) device) ≡ false → HasFault damaged (Damaged 2 (half_at l First))
  gate_is_told h header place closed = no_half_stands l damaged (behind_header h place ∙ header) (both_shut h place closed)

pub told_gate : (bytes : List ℕ) (epoch : ℕ) (plant : Condensed) (s : Stands bytes epoch plant) (front back : List ℕ) (gate : ℕ) → bytes ≡ front ++ 165 ∷ back → length front ≡ half_at s.opened.layout s.opened.half
    → gate_in (head_of s.opened.layout (other s.opened.half) bytes) ≡ false → gate ≢ 165 → HasFault (front ++ gate ∷ back) (Damaged 2 (half_at s.opened.layout First))
told_gate bytes epoch plant s front back gate text place closed differs =
    gate_is_told s.opened.layout front back gate differs s.opened.half (subst (λ (b : List ℕ). layout_in b ≡ Ok s.opened.layout) text (layout_of bytes s.opened s.opens)) place
    (subst (λ (b : List ℕ). gate_in (head_of s.opened.layout (other s.opened.half) b) ≡ false) text closed)
