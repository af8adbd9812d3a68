-- Opening by steps.
use Rattle.std.proofs.Common.{◌≡◌, inl, inr, ℕ, min, List, length, Result, Ok, Err, refl, sym, ap, subst, ◌∙◌}
use Rattle.alm_model.specs.Plant.{Condensed}
use Rattle.alm_checkpoint.specs.declared.layout.Layout.{Layout}
use Rattle.alm_checkpoint.specs.declared.half_head.HalfHead.{HalfHead}
use Rattle.alm_checkpoint.specs.declared.half.Half.{Half}
use Rattle.alm_checkpoint.specs.declared.half.Half.TheVariants.{First, Second}
use Rattle.alm_checkpoint.specs.declared.device_fault.DeviceFault.{DeviceFault}
use Rattle.std.proofs.lemmas.List.{take_min}
use Rattle.alm_checkpoint.specs.declared.restore_fault.RestoreFault.{RestoreFault}
use Rattle.alm_checkpoint.specs.declared.restore_fault.RestoreFault.TheVariants as restore
use Rattle.alm_checkpoint.specs.Layouts.{part, header_len, head_len, half_at, image_at, segment_at, image_size}
use Rattle.alm_checkpoint.specs.Opening.{Opened, opened_with, opened_half, ◌>>=◌, layout_from, layout_in, heads_from, heads_in, head_of, opened_in}
use Rattle.alm_checkpoint.specs.Standing.{Stands, HasFault}
use Rattle.alm_checkpoint.specs.Restoring.{Holds, IsUnrestored, IsRefused, StandsIn}

pub opens : (device : List ℕ) (l : Layout) (h : Half) (t : HalfHead) → layout_in device ≡ Ok l → heads_in l device ≡ Ok (h, t) → opened_in device ≡ Ok (opened_half l h t device)
unfolding opened_in
opens device l h t e f =
    ap (λ r. r >>= λ l. heads_in l device >>= λ x. Ok (opened_half l x.0 x.1 device)) e
    ∙ ap (λ r. r >>= λ x. Ok (opened_half l x.0 x.1 device)) f

pub no_layout : (device : List ℕ) (fault : DeviceFault) → layout_in device ≡ Err fault → HasFault device fault
unfolding opened_in
no_layout device fault e = inl (ap (λ r. r >>= λ l. heads_in l device >>= λ x. Ok (opened_half l x.0 x.1 device)) e)

pub no_heads : (device : List ℕ) (l : Layout) (fault : DeviceFault) → layout_in device ≡ Ok l → heads_in l device ≡ Err fault → HasFault device fault
unfolding opened_in
no_heads device l fault e f =
    inl (ap (λ r. r >>= λ l. heads_in l device >>= λ x. Ok (opened_half l x.0 x.1 device)) e
    ∙ ap (λ r. r >>= λ x. Ok (opened_half l x.0 x.1 device)) f)

-- what the half holds, the device encodes
abbrev pub stands_by : (device : List ℕ) (o : Opened) (plant : Condensed) (gate : ℕ) → opened_in device ≡ Ok o → Holds o plant gate → Stands device o.head.epoch plant
stands_by device o plant gate e h = record { opened = o; opens = e; in_epoch = refl; base = h.base; spells = h.spells; left = h.left; folds = h.folds }

pub fault_by : (device : List ℕ) (o : Opened) (fault : RestoreFault) → opened_in device ≡ Ok o → IsUnrestored o fault → IsRefused device fault
fault_by device o restore.OutOfMemory e h = tt
fault_by device o (restore.Damaged fault) e (inl h) = inr (inl (record { opened = o; opens = e; at = h.at; damage = h.damage; is = h.is }))
fault_by device o (restore.Damaged fault) e (inr h) = inr (inr (record { opened = o; opens = e; base = h.base; spells = h.spells; left = h.left; folds = h.folds; is = h.is }))

-- ---- by the bytes that an opener reads

pub start_is : (device text : List ℕ) (n : ℕ) → n ≡ min 23 (length device) → text ≡ part 0 n device → text ≡ part 0 header_len device
start_is device text n e f = f ∙ ap (λ (k : ℕ). part 0 k device) e ∙ take_min 23 device

pub layout_by : (device start : List ℕ) (result : Result Layout DeviceFault) → result ≡ layout_from (length device) start → start ≡ part 0 header_len device → layout_in device ≡ result
layout_by device start result e f = sym (e ∙ ap (layout_from (length device)) f)

pub head_by : (device text : List ℕ) (l : Layout) (h : Half) (at : ℕ) → at ≡ half_at l h → text ≡ part at head_len device → text ≡ head_of l h device
head_by device text l h at e f = f ∙ ap (λ (k : ℕ). part k head_len device) e

pub heads_by : (device a b : List ℕ) (l : Layout) (r : Result (Half × HalfHead) DeviceFault) → a ≡ head_of l First device → b ≡ head_of l Second device → r ≡ heads_from l a b → heads_in l device ≡ r
heads_by device a b l r p q e = sym (e ∙ (λ i. heads_from l (p i) (q i)))

-- what was read of the half
pub held_by : (device image segment : List ℕ) (l : Layout) (h : Half) (t : HalfHead) (i s n m : ℕ) → image ≡ part i n device → i ≡ image_at l h → n ≡ image_size l → segment ≡ part s m device → s ≡ segment_at l h → m ≡ l.segment
    → opened_with l h t image segment ≡ opened_half l h t device
held_by device image segment l h t i s n m e ie ne f se me =
    (λ j. opened_with l h t (e j) (f j)) ∙ (λ j. opened_with l h t (part (ie j) (ne j) device) (part (se j) (me j) device))

pub stands_in_by : (device : List ℕ) (l : Layout) (h : Half) (t : HalfHead) (o : Opened) (plant : Condensed) (gate : ℕ) → layout_in device ≡ Ok l → heads_in l device ≡ Ok (h, t) → o ≡ opened_half l h t device → Holds o plant gate
    → StandsIn device l h t.version t.epoch plant gate
stands_in_by device l h t o plant gate e f same held =
    let k : Holds (opened_half l h t device) plant gate = subst (λ (x : Opened). Holds x plant gate) same held in
    record { stands = stands_by device (opened_half l h t device) plant gate (opens device l h t e f) k; of_layout = refl; of_half = refl; of_version = refl; gate_is = k.gate_is }

pub refused_by : (device : List ℕ) (l : Layout) (h : Half) (t : HalfHead) (o : Opened) (fault : RestoreFault) → layout_in device ≡ Ok l → heads_in l device ≡ Ok (h, t) → o ≡ opened_half l h t device → IsUnrestored o fault
    → IsRefused device fault
refused_by device l h t o fault e f same un = fault_by device (opened_half l h t device) fault (opens device l h t e f) (subst (λ (x : Opened). IsUnrestored x fault) same un)
