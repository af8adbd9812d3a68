use Rattle.std.proofs.Common.{◌≡◌, ◌<◌, ℕ, [], get_or, length, ◌∙◌, ap, arith}
use Rattle.std.specs.Prelude.{slice_set}
use Rattle.std.proofs.lemmas.List.{get_or_default}
use Rattle.alm_desk.proofs.Slots.{fed_at, broken_at}
use Rattle.alm_desk.proofs.local_desk.LocalDesk.feed.Goals as goal

pub returns-in-Ok-clause-fed : goal.returns-in-Ok-clause-fed
returns-in-Ok-clause-fed g c =
    let items = c.self.inside.decoders.items in
    let number : c.number.result ≡ c.args.slot = c.number.ensures.number in
    let within : c.args.slot < length items = omega arith in
    rw (← c.self.view_is) (fed_at _ _ c.args.slot c.args.piece.now _ _ c.index_mut-decoder.result.now c.feed_slot.new.decoder within c.if-self.false c.if-self.false
    (c.index_mut-decoder.ensures.value ∙ ap (λ (i : ℕ). get_or items i c.index_mut-decoder.result.now) number ∙ get_or_default items c.args.slot _ [] within)
    (ap (λ (i : ℕ). slice_set items i c.feed_slot.new.decoder) number) c.in-Ok.ensures.fed)

pub returns-in-Err-clause-broken : goal.returns-in-Err-clause-broken
returns-in-Err-clause-broken g c =
    let items = c.self.inside.decoders.items in
    let number : c.number.result ≡ c.args.slot = c.number.ensures.number in
    let within : c.args.slot < length items = omega arith in
    let held = c.index_mut-decoder.ensures.value ∙ ap (λ (i : ℕ). get_or items i c.index_mut-decoder.result.now) number ∙ get_or_default items c.args.slot _ [] within in
    λ e. rw (← c.self.view_is) (broken_at items c.args.slot c.args.piece.now _ within held c.in-Err.ensures.broken)
