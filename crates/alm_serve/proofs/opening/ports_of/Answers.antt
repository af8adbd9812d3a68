use Rattle.std.proofs.Common.{◌∙◌, ◌∷◌, ◌++◌, [], inl, inr, map, slice_get, ap, sym, subst}
use Rattle.std.proofs.lemmas.List.{map-append}
use Rattle.alm_rings.proofs.Ordered.{push_cases}
use Rattle.alm_serve.specs.Ports.{IsUnused}
use Rattle.alm_serve.proofs.opening.ports_of.Goals as goal

pub loop-bound-preserved : goal.loop-bound-preserved
loop-bound-preserved g c =
    let inv = c.loop-bound.invariant in
    let opened = c.in_ok-open_port in
    let items = c.in-Ok.ensures.items in
    record {
      slots = rw (items, map-append, map-append) (ap (λ l. l ++ opened.field-0.slot ∷ []) inv.slots ∙ ap (λ n. map (λ b. b.slot) c.loop-bound.yielded ++ n ∷ []) opened.ensures.slot);
      unused = λ j p at. elim (push_cases c.loop-bound.ports.items opened.field-0 p j (ap (λ x. slice_get x j) (sym items) ∙ at)) [
        | inl old ↦ inv.unused j p old
        | inr new ↦ subst IsUnused new.1 opened.ensures.unused
      ];
    }
