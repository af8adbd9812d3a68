use Rattle.std.proofs.Common.{◌≡◌, ◌<◌, ◌∙◌, ap, sym, refl, rules, arith, length}
use Rattle.std.proofs.lemmas.Option.{slice_get_read, slice_get_within, same_Some}
use Rattle.alm_rings.specs.declared.outbox.Outbox.{Outbox}
use Rattle.alm_rings.specs.Placed.{outbox_at}
use Rattle.alm_threads.proofs.Removed.{at_first, without, nowhere, none_more}
use Rattle.alm_threads.proofs.closing.take_outbox.Goals as goal

pub returns-then-number-clause-outbox : goal.returns-then-number-clause-outbox
returns-then-number-clause-outbox g c =
    let xs = c.loop-place.outboxes.items in
    let less : c.loop-place.place < length xs = search rules in
    let at = slice_get_read xs _ c.loop-place.place c.remove.result refl less c.remove.ensures.value in
    let seen = slice_get_read xs _ c.loop-place.place c.index.result.now refl less c.index.ensures in
    let one = same_Some c.index.result.now c.remove.result (sym seen ∙ at) in
    let here : c.remove.result.slot ≡ c.args.slot = omega (arith, ap (λ (o : Outbox _ _). o.slot) one, c.slot.ensures, c.number.ensures.number, c.number-in-loop-place.ensures.number, c.if-number.true) in
    sym (sym (ap (λ v. outbox_at c.args.slot v.items) c.loop-place.invariant.0) ∙ at_first (λ (o : Outbox _ _). o.slot) xs c.loop-place.place c.args.slot c.remove.result at here c.loop-place.invariant.1)

pub returns-then-number-clause-others : goal.returns-then-number-clause-others
returns-then-number-clause-others g c = λ s other.
    let xs = c.loop-place.outboxes.items in
    let less : c.loop-place.place < length xs = search rules in
    let at = slice_get_read xs _ c.loop-place.place c.remove.result refl less c.remove.ensures.value in
    let seen = slice_get_read xs _ c.loop-place.place c.index.result.now refl less c.index.ensures in
    let one = same_Some c.index.result.now c.remove.result (sym seen ∙ at) in
    let here : c.remove.result.slot ≡ c.args.slot = omega (arith, ap (λ (o : Outbox _ _). o.slot) one, c.slot.ensures, c.number.ensures.number, c.number-in-loop-place.ensures.number, c.if-number.true) in
    ap (λ l. outbox_at s l) c.remove.ensures.items ∙ (without (λ (o : Outbox _ _). o.slot) xs c.loop-place.place s c.remove.result at (λ p. other (sym p ∙ here)) ∙ ap (λ v. outbox_at s v.items) c.loop-place.invariant.0)

pub loop-place-preserved : goal.loop-place-preserved
loop-place-preserved g c =
    let xs = c.loop-place.outboxes.items in
    let less : c.loop-place.place < length xs = search rules in
    let seen = slice_get_read xs _ c.loop-place.place c.index.result.now refl less c.index.ensures in
    (c.loop-place.invariant.0, none_more (λ (o : Outbox _ _). o.slot) xs c.loop-place.place c.args.slot c.index.result.now seen (λ p. omega (arith, p, c.slot.ensures, c.number.ensures.number, c.number-in-loop-place.ensures.number, c.if-number.false)) c.loop-place.invariant.1)

pub returns-clause-outbox : goal.returns-clause-outbox
returns-clause-outbox g c =
    let xs = c.loop-place.outboxes.items in
    sym (sym (ap (λ v. outbox_at c.args.slot v.items) c.loop-place.invariant.0) ∙ nowhere (λ (o : Outbox _ _). o.slot) xs c.args.slot (λ j x at. c.loop-place.invariant.1 j x (omega (arith, slice_get_within xs j x at, c.loop-place-test.false, c.len-place-end.ensures, c.loop-place.auto.place-end, c.loop-place.outboxes.ok, ap (λ v. length v.items) c.loop-place.invariant.0)) at))
