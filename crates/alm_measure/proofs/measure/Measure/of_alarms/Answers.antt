use Rattle.std.proofs.Common.{◌≡◌, ◌<◌, ◌∙◌, ap, sym, length}
use Rattle.std.proofs.lemmas.List.{length-map}
use Rattle.std.proofs.lemmas.List.Elements.{All-map}
use Rattle.alm_types.specs.declared.attr.Attr.{Attr}
use Rattle.alm_measure.proofs.measure.Measure.of_alarms.Goals as goal

pub invariant_of-result : goal.invariant_of-result
invariant_of-result c =
    let alarms = c.args.alarms.now in
    let areas = c.in_ok-areas_of.ensures.items in
    let long : length c.in_ok-areas_of.field-0.items ≡ length alarms = ap length areas ∙ length-map alarms (λ (a : Attr). a.area) in
    let ages = ap length c.in_ok-rings_of.ensures.items in (
      record {
        few = rw long c.requires.few;
        moments = ap length c.in_ok-exact-2.ensures.items ∙ c.requires.moments ∙ sym long;
        floods = ap length c.in_ok-exact.ensures.items ∙ c.requires.floods ∙ sym ages;
        in_areas = rw (areas, ages) (All-map (λ area. area < length c.args.ages.now) (λ (a : Attr). a.area) alarms c.requires.areas);
      },
      record {
        areas = c.in_ok-areas_of.ensures.room;
        rings = c.in_ok-rings_of.ensures.room;
        floods = c.in_ok-exact.ensures.room;
        moments = c.in_ok-exact-2.ensures.room;
      },
    )
