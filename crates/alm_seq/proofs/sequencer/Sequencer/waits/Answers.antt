use Rattle.std.proofs.Common.{◌∙◌, ap, sym, refl}
use Rattle.std.proofs.lemmas.Option.{slice_get_read}
use Rattle.alm_rings.specs.declared.inbox.Inbox.{Inbox}
use Rattle.alm_rings.specs.Placed.{end_at}
use Rattle.alm_rings.proofs.Slots.{placed_apart, found}
use Rattle.alm_seq.proofs.sequencer.Sequencer.waits.Goals as goal

pub returns : goal.returns
returns g c =
    let s = c.args.self.now in
    let inboxes = s.inboxes.items in
    let k = c.place-place.result in
    let i = c.index.result.now in
    let at = slice_get_read inboxes _ k i refl c.place-place.ensures.limit c.index.ensures in
    let here = ap (λ n. end_at (λ (i : Inbox). i.slot) n inboxes) (sym (c.place-place.ensures.slot i at)) ∙ found (λ i. i.slot) inboxes k i (placed_apart (λ i. i.slot) inboxes s.places s.placed) at in
    rw here c.waits.ensures
