use Rattle.std.proofs.Common.{◌∙◌, ◌∷◌, ◌++◌, [], take, ap, sym}
use Rattle.std.proofs.lemmas.List.{map-append, take_more}
use Rattle.alm_serve.proofs.socket_folder.bind_all.Goals as goal

pub loop-slot-preserved : goal.loop-slot-preserved
loop-slot-preserved g c =
    let slots = c.args.slots.now in
    let i = c.loop-slot.slot-index in
    let more = take_more slots i c.slot-item.result c.loop-slot-test.true in
    rw (c.in-Ok.ensures.items, map-append) (ap (λ l. l ++ c.in_ok-bind_one.field-0.slot ∷ []) c.loop-slot.invariant ∙ (ap (λ n. take i slots ++ n ∷ []) (c.in_ok-bind_one.ensures ∙ c.slot-item.is) ∙ sym more))
