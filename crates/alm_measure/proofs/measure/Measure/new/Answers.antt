use Rattle.std.proofs.Common.{◌≡◌, ◌∙◌, List, ap, false, length, map, replicate, rules}
use Rattle.std.proofs.lemmas.List.{length-replicate}
use Rattle.alm_types.specs.declared.attr.Attr.{Attr}
use Rattle.alm_measure.proofs.Sound.{sound-made}
use Rattle.alm_measure.proofs.measure.Measure.new.Goals as goal

pub invariant_of-result : goal.invariant_of-result
invariant_of-result c =
    let alarms = c.alarms-alarms.ensures.alarms in
    let areas = c.in_ok-areas_of.ensures.items ∙ ap (λ (alarms : List Attr). map (λ a. a.area) alarms) alarms in
    let no : c.in_ok-vec.field-0.items ≡ replicate c.areas-areas.result false = search rules in
    let floods = c.in_ok-exact.ensures.items ∙ no in
    let moments = c.in_ok-exact-2.ensures.items ∙ c.in_ok-no_moments.ensures in (
      sound-made c.args.table.now _ c.alarms-alarms.ensures.table areas
          (ap length c.in_ok-new_rings.ensures.items ∙ length-replicate _ _ ∙ c.areas-areas.ensures.areas)
          (ap length floods ∙ length-replicate _ _ ∙ c.areas-areas.ensures.areas)
          (ap length moments ∙ length-replicate _ _ ∙ ap length alarms),
      record {
        areas = c.in_ok-areas_of.ensures.room;
        rings = c.in_ok-new_rings.ensures.room;
        floods = c.in_ok-exact.ensures.room;
        moments = c.in_ok-exact-2.ensures.room;
      },
    )
