-- The bytes of a device encode one plant in one epoch, or have one fault.
use Rattle.std.proofs.Common.{◌≡◌, inl, inr, ℕ, ◌+◌, ◌-◌, Bool, cond, List, [], length, Some, None, Result, Ok, Err, refl, sym, ap, subst, ◌∙◌}
use Rattle.std.specs.Prelude.{option_map}
use Rattle.std.proofs.lemmas.Bool.{eq-eqb}
use Rattle.alm_model.specs.Plant.{Condensed}
use Rattle.alm_codec.specs.Image.{IsOf}
use Rattle.alm_codec.specs.ImageFields.{damage_in, left_at}
use Rattle.alm_codec.proofs.SameImage.{no_image_begins, image_whole}
use Rattle.alm_segment.specs.Folding.{stored_in}
use Rattle.alm_checkpoint.specs.declared.device_fault.DeviceFault.{DeviceFault}
use Rattle.alm_checkpoint.specs.declared.device_fault.DeviceFault.TheVariants.{Damaged}
use Rattle.alm_checkpoint.specs.Layouts.{image_at, image_sum_at, half_number}
use Rattle.alm_checkpoint.specs.Headers.{image_sum}
use Rattle.alm_checkpoint.specs.Opening.{Opened, opened_in}
use Rattle.alm_checkpoint.specs.Standing.{Stands, Spells, HasFault, end_of, image_damage}

abbrev well : {A B : Type 0} → A → Result A B
well x = Ok x

abbrev ill : {A B : Type 0} → B → Result A B
ill x = Err x

well_is : {A B : Type 0} (x y : A) → well {B = B} x ≡ well y → x ≡ y
well_is x y e = cc

ill_is : {A B : Type 0} (x y : B) → ill {A = A} x ≡ ill y → x ≡ y
ill_is x y e = cc

well_not : {A B : Type 0} (r : Result A B) (x : A) (y : B) → r ≡ Ok x → r ≡ Err y → ⊥
well_not r x y e f = let g = sym e ∙ f in cc

-- what opens, opens as one
same_opened : (device : List ℕ) (o p : Opened) → opened_in device ≡ Ok o → opened_in device ≡ Ok p → o ≡ p
same_opened device o p e f = well_is o p (sym e ∙ f)

-- an image is that of one plant
same_base : (o : Opened) (q r : Condensed) → Spells o q → Spells o r → q ≡ r
same_base o q r s t =
    let of : IsOf (length r.panel.rows) (length r.floods) r.panel.count q = record {
      by_rows = s.sizes.by_rows ∙ sym t.sizes.by_rows;
      by_areas = s.sizes.by_areas ∙ sym t.sizes.by_areas;
      by_count = s.sizes.by_count ∙ sym t.sizes.by_count;
    } in
    no_image_begins q r o.image o.image [] [] s.image t.image of refl

-- .. and not damaged
undamaged : (o : Opened) (q : Condensed) (at : ℕ) → Spells o q → image_damage o ≡ Some at → ⊥
undamaged o q at s e =
    let field : option_map (λ at. image_at o.layout o.half + at) (damage_in o.layout.rows o.layout.areas o.head.count o.image) ≡ Some at =
    sym (ap (λ (b : Bool). cond b (option_map (λ at. image_at o.layout o.half + at) (damage_in o.layout.rows o.layout.areas o.head.count o.image)) (Some (image_sum_at o.layout o.half))) (eq-eqb o.head.sum (image_sum o.head.version o.image) s.sum)) ∙ e in
    let none : damage_in o.layout.rows o.layout.areas o.head.count o.image ≡ None = ap (λ r. option_map (λ left. length o.image - left) (left_at r)) (image_whole o.layout.rows o.layout.areas o.head.count q o.image s.sizes s.image) in
    let f = sym (ap (option_map (λ at. image_at o.layout o.half + at)) none) ∙ field in cc

abbrev pair : Condensed → ℕ → Condensed × ℕ
pair q left = (q, left)

pub stands_once : (device : List ℕ) (e f : ℕ) (q r : Condensed) → Stands device e q → Stands device f r → (e ≡ f) × (q ≡ r)
stands_once device e f q r s t =
    let same = same_opened device s.opened t.opened s.opens t.opens in
    let epochs : e ≡ f = sym s.in_epoch ∙ ap (λ (o : Opened). o.head.epoch) same ∙ t.in_epoch in
    let bases : s.base ≡ t.base = same_base t.opened s.base t.base (subst (λ (o : Opened). Spells o s.base) same s.spells) t.spells in
    let one : stored_in s.opened.head.version e s.base s.opened.segment ≡ stored_in t.opened.head.version f t.base t.opened.segment = (λ i. stored_in (same i).head.version (epochs i) (bases i) (same i).segment) in
    let ends = well_is {A = Condensed × ℕ} {B = ℕ} (pair q s.left) (pair r t.left) (sym s.folds ∙ one ∙ t.folds) in
    (epochs, ap (λ (x : Condensed × ℕ). x.0) ends)

pub stands_or_fault : (device : List ℕ) (e : ℕ) (q : Condensed) (fault : DeviceFault) → Stands device e q → HasFault device fault → ⊥
stands_or_fault device e q fault s (inl f) = well_not (opened_in device) s.opened fault s.opens f
stands_or_fault device e q fault s (inr (inl f)) =
    let same = same_opened device s.opened f.opened s.opens f.opens in
    undamaged f.opened s.base f.at (subst (λ (o : Opened). Spells o s.base) same s.spells) f.damage
stands_or_fault device e q fault s (inr (inr f)) =
    let same = same_opened device s.opened f.opened s.opens f.opens in
    let epochs : e ≡ f.opened.head.epoch = sym s.in_epoch ∙ ap (λ (o : Opened). o.head.epoch) same in
    let bases : s.base ≡ f.base = same_base f.opened s.base f.base (subst (λ (o : Opened). Spells o s.base) same s.spells) f.spells in
    let one : stored_in s.opened.head.version e s.base s.opened.segment ≡ stored_in f.opened.head.version f.opened.head.epoch f.base f.opened.segment = (λ i. stored_in (same i).head.version (epochs i) (bases i) (same i).segment) in
    well_not (stored_in f.opened.head.version f.opened.head.epoch f.base f.opened.segment) (pair q s.left) f.left (sym one ∙ s.folds) f.folds

same_places : (a b : ℕ) → Some a ≡ Some b → a ≡ b
same_places a b e = cc

pub fault_once : (device : List ℕ) (x y : DeviceFault) → HasFault device x → HasFault device y → x ≡ y
fault_once device x y (inl f) (inl g) = ill_is x y (sym f ∙ g)
fault_once device x y (inl f) (inr (inl g)) = absurd (well_not (opened_in device) g.opened x g.opens f)
fault_once device x y (inl f) (inr (inr g)) = absurd (well_not (opened_in device) g.opened x g.opens f)
fault_once device x y (inr (inl f)) (inl g) = absurd (well_not (opened_in device) f.opened y f.opens g)
fault_once device x y (inr (inr f)) (inl g) = absurd (well_not (opened_in device) f.opened y f.opens g)
fault_once device x y (inr (inl f)) (inr (inl g)) =
    let same = same_opened device f.opened g.opened f.opens g.opens in
    let ats : f.at ≡ g.at = same_places f.at g.at (sym f.damage ∙ ap image_damage same ∙ g.damage) in
    f.is ∙ (λ i. Damaged (half_number (same i).half) (ats i)) ∙ sym g.is
fault_once device x y (inr (inl f)) (inr (inr g)) =
    let same = same_opened device g.opened f.opened g.opens f.opens in
    absurd (undamaged f.opened g.base f.at (subst (λ (o : Opened). Spells o g.base) same g.spells) f.damage)
fault_once device x y (inr (inr f)) (inr (inl g)) =
    let same = same_opened device f.opened g.opened f.opens g.opens in
    absurd (undamaged g.opened f.base g.at (subst (λ (o : Opened). Spells o f.base) same f.spells) g.damage)
fault_once device x y (inr (inr f)) (inr (inr g)) =
    let same = same_opened device f.opened g.opened f.opens g.opens in
    let bases : f.base ≡ g.base = same_base g.opened f.base g.base (subst (λ (o : Opened). Spells o f.base) same f.spells) g.spells in
    let one : stored_in f.opened.head.version f.opened.head.epoch f.base f.opened.segment ≡ stored_in g.opened.head.version g.opened.head.epoch g.base g.opened.segment = (λ i. stored_in (same i).head.version (same i).head.epoch (bases i) (same i).segment) in
    let lefts = ill_is {A = Condensed × ℕ} f.left g.left (sym f.folds ∙ one ∙ g.folds) in
    f.is ∙ (λ i. Damaged (half_number (same i).half) (end_of (same i) - lefts i)) ∙ sym g.is
