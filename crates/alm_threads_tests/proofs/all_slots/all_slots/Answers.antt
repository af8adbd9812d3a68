use Rattle.std.proofs.Common.{rules, ◌≡◌, ◌∷◌, [], length, slice_get, inl, inr, ap, sym, ◌∙◌, arith, length-append}
use Rattle.alm_rings.proofs.Ordered.{push_cases}
use Rattle.alm_threads_tests.proofs.all_slots.all_slots.Goals as goal

pub loop-number-preserved : goal.loop-number-preserved
loop-number-preserved c =
    let inv = c.loop-number.invariant in
    let items = c.push_reserved.ensures.items in
    let at : c.in-Some.slot ≡ c.loop-number.number = search rules in
    record {
      count = omega (arith, ap length items, length-append c.loop-number.slots.items (c.in-Some.slot ∷ []), inv.count);
      room = omega (arith, inv.room, c.push_reserved.ensures.capacity);
      order = λ j k is. elim (push_cases c.loop-number.slots.items c.in-Some.slot k j (ap (λ x. slice_get x j) (sym items) ∙ is)) [
        | inl old ↦ inv.order j k old
        | inr new ↦ sym new.1 ∙ (at ∙ (sym inv.count ∙ sym new.0))
      ];
    }

pub returns-clause-apart : goal.returns-clause-apart
returns-clause-apart c = λ j k d e p q same. sym (c.loop-number.invariant.order j d p) ∙ same ∙ c.loop-number.invariant.order k e q
