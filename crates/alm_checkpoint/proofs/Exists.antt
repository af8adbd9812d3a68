-- The bytes of a device encode a plant, or have a fault.
use Rattle.std.proofs.Common.{◌≡◌, inl, inr, ℕ, ◌+◌, ◌-◌, Bool, true, false, cond, eqb, leb, List, Option, Some, None, Result, Ok, Err, refl, ap, ◌∙◌}
use Rattle.std.specs.Prelude.{option_map}
use Rattle.std.proofs.lemmas.Bool.{leb-true, eqb-true, and_parts}
use Rattle.alm_model.specs.Plant.{Condensed}
use Rattle.alm_codec.specs.ImageFields.{damage_in}
use Rattle.alm_codec.specs.Reading.{IsBytes}
use Rattle.alm_codec.proofs.Bytes.{IsBytes-drop, IsBytes-take}
use Rattle.alm_codec.proofs.Total.{image_there}
use Rattle.alm_segment.specs.Folding.{stored_in}
use Rattle.alm_checkpoint.specs.declared.layout.Layout.{Layout}
use Rattle.alm_checkpoint.specs.declared.half_head.HalfHead.{HalfHead}
use Rattle.alm_checkpoint.specs.declared.half.Half.{Half}
use Rattle.alm_checkpoint.specs.declared.device_fault.DeviceFault.{DeviceFault}
use Rattle.alm_checkpoint.specs.declared.device_fault.DeviceFault.TheVariants.{Damaged}
use Rattle.alm_checkpoint.specs.Layouts.{part, image_at, image_sum_at, image_size, half_number}
use Rattle.alm_checkpoint.specs.Headers.{image_sum}
use Rattle.alm_checkpoint.specs.Opening.{Opened, opened_half, layout_in, heads_in, opened_in}
use Rattle.alm_checkpoint.specs.Standing.{Spells, Meaning, end_of, image_damage}
use Rattle.alm_checkpoint.specs.Cut.{IsLayout}
use Rattle.alm_checkpoint.proofs.CutOf.{layout_is}
use Rattle.alm_checkpoint.proofs.Opens.{opens, no_layout, no_heads}

by_fold : (device : List ℕ) (o : Opened) (base : Condensed) (r : Result (Condensed × ℕ) ℕ) → opened_in device ≡ Ok o → Spells o base → stored_in o.head.version o.head.epoch base o.segment ≡ r → Meaning device
by_fold device o base (Ok x) e s f = inl (o.head.epoch, x.0, record { opened = o; opens = e; in_epoch = refl; base = base; spells = s; left = x.1; folds = f })
by_fold device o base (Err left) e s f = inr (Damaged (half_number o.half) (end_of o - left), inr (inr (record { opened = o; opens = e; base = base; spells = s; left = left; folds = f; is = refl })))

-- the image has the head's checksum
by_fields : (device : List ℕ) (o : Opened) (d : Option ℕ) → opened_in device ≡ Ok o → IsLayout o.layout → IsBytes o.image → eqb o.head.sum (image_sum o.head.version o.image) ≡ true → damage_in o.layout.rows o.layout.areas o.head.count o.image ≡ d → Meaning device
by_fields device o (Some at) e limits fits same f =
    let damage : image_damage o ≡ Some (image_at o.layout o.half + at) =
    ap (λ (b : Bool). cond b (option_map (λ at. image_at o.layout o.half + at) (damage_in o.layout.rows o.layout.areas o.head.count o.image)) (Some (image_sum_at o.layout o.half))) same
    ∙ ap (option_map (λ at. image_at o.layout o.half + at)) f in
    inr (Damaged (half_number o.half) (image_at o.layout o.half + at), inr (inl (record { opened = o; opens = e; at = image_at o.layout o.half + at; damage = damage; is = refl })))
by_fields device o None e limits fits same f =
    let rows = and_parts (leb 1 o.layout.rows) (leb o.layout.rows 16384) limits.rows in
    let areas = and_parts (leb 1 o.layout.areas) (leb o.layout.areas 64) limits.areas in
    let q = image_there o.layout.rows o.layout.areas o.head.count o.image (leb-true 1 o.layout.rows rows.0, leb-true o.layout.rows 16384 rows.1) (leb-true 1 o.layout.areas areas.0, leb-true o.layout.areas 64 areas.1) fits f in
    by_fold device o q.0 (stored_in o.head.version o.head.epoch q.0 o.segment) e (record { sum = eqb-true o.head.sum (image_sum o.head.version o.image) same; sizes = q.1; image = q.2 }) refl

by_image : (device : List ℕ) (o : Opened) (b : Bool) → opened_in device ≡ Ok o → IsLayout o.layout → IsBytes o.image → eqb o.head.sum (image_sum o.head.version o.image) ≡ b → Meaning device
by_image device o true e limits fits same = by_fields device o (damage_in o.layout.rows o.layout.areas o.head.count o.image) e limits fits same refl
by_image device o false e limits fits other =
    let damage : image_damage o ≡ Some (image_sum_at o.layout o.half) =
    ap (λ (b : Bool). cond b (option_map (λ at. image_at o.layout o.half + at) (damage_in o.layout.rows o.layout.areas o.head.count o.image)) (Some (image_sum_at o.layout o.half))) other in
    inr (Damaged (half_number o.half) (image_sum_at o.layout o.half), inr (inl (record { opened = o; opens = e; at = image_sum_at o.layout o.half; damage = damage; is = refl })))

by_heads : (device : List ℕ) (l : Layout) (r : Result (Half × HalfHead) DeviceFault) → IsBytes device → layout_in device ≡ Ok l → heads_in l device ≡ r → Meaning device
by_heads device l (Err fault) fits e f = inr (fault, no_heads device l fault e f)
by_heads device l (Ok (h, t)) fits e f =
    by_image device (opened_half l h t device) (eqb t.sum (image_sum t.version (part (image_at l h) (image_size l) device))) (opens device l h t e f) (layout_is device l fits e).limits
    (IsBytes-take (image_size l) _ (IsBytes-drop (image_at l h) device fits)) refl

by_layout : (device : List ℕ) (r : Result Layout DeviceFault) → IsBytes device → layout_in device ≡ r → Meaning device
by_layout device (Err fault) fits e = inr (fault, no_layout device fault e)
by_layout device (Ok l) fits e = by_heads device l (heads_in l device) fits e refl

pub meaning : (device : List ℕ) → IsBytes device → Meaning device
meaning device fits = by_layout device (layout_in device) fits refl
