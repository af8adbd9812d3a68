use Rattle.std.proofs.Common.{List, ℕ, Ok, ap, ◌∙◌, arith}
use Rattle.alm_model.specs.Plant.{Condensed}
use Rattle.alm_model.specs.Parts.{plant_of}
use Rattle.alm_codec.specs.Image.{IsOf}
use Rattle.alm_codec.specs.ImageFields.{image_in}
use Rattle.alm_codec.proofs.SameImage.{image_found, image_only, image_ends, image_undamaged, nothing}
use Rattle.alm_codec.proofs.image_reader.read_image.Goals as goal

pub returns-in-Ok-default-empty-clause-found : goal.returns-in-Ok-default-empty-clause-found
returns-in-Ok-default-empty-clause-found c =
    let e = c.in-Ok-default-empty.ensures in
    let q : Condensed = plant_of c.in-Ok-default-empty.parts in
    image_found c.args.rows c.args.areas c.args.count q c.args.bytes.now c.requires.rows c.requires.areas (record { by_rows = e.rows; by_areas = e.floods; by_count = e.count }) e.attrs e.moments e.ages (λ i. omega (arith, c.type_inv.bytes i))
    (e.image ∙ ap (λ (r : List ℕ). Ok (image_in q, r)) (nothing c.in-Ok-default-empty.field-0-1.now (omega (arith, c.in-Ok-default-empty.len_below))))

pub returns-in-Ok-default-empty-clause-only : goal.returns-in-Ok-default-empty-clause-only
returns-in-Ok-default-empty-clause-only c = λ q of h.
    let e = c.in-Ok-default-empty.ensures in
    let p : Condensed = plant_of c.in-Ok-default-empty.parts in
    let own : IsOf c.args.rows c.args.areas c.args.count p = record { by_rows = e.rows; by_areas = e.floods; by_count = e.count } in
    let found = image_found c.args.rows c.args.areas c.args.count p c.args.bytes.now c.requires.rows c.requires.areas own e.attrs e.moments e.ages (λ i. omega (arith, c.type_inv.bytes i))
    (e.image ∙ ap (λ (r : List ℕ). Ok (image_in p, r)) (nothing c.in-Ok-default-empty.field-0-1.now (omega (arith, c.in-Ok-default-empty.len_below)))) in
    image_only c.args.rows c.args.areas c.args.count p q c.args.bytes.now c.in-Ok-default-empty.field-0-1.now own of found.rules h e.image

pub returns-in-Ok-clause-only : goal.returns-in-Ok-clause-only
returns-in-Ok-clause-only c = λ q of h. image_ends c.args.rows c.args.areas c.args.count q _ c.args.bytes.now c.in-Ok.rest.now of h c.in-Ok.ensures.image (omega (arith, c.in-Ok.len_at_least))

pub returns-in-Err-Field-clause-only : goal.returns-in-Err-Field-clause-only
returns-in-Err-Field-clause-only c = λ q of h. image_undamaged c.args.rows c.args.areas c.args.count c.in-Err-Field.left.0 q c.args.bytes.now of h (rw c.in-Err-Field.field-0-is at c.in-Err-Field.ensures.image)
