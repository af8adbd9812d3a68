use Rattle.std.proofs.Common.{ap, sym, ◌∙◌}
use Rattle.std.specs.Prelude.{get_or}
use Rattle.std.proofs.lemmas.Option.{slice_get_within, same_Some}
use Rattle.alm_rings.proofs.Slots.{standing}
use Rattle.alm_seq.proofs.sequencer.Sequencer.place.Goals as goal

pub returns-clause-limit : goal.returns-clause-limit
returns-clause-limit g c =
    let s = c.args.self.now in
    let at = standing (λ i. i.slot) s.inboxes.items s.places c.args.slot _ s.placed c.requires (ap (λ n. get_or s.places n 0) (sym c.number.ensures.number)) in
    slice_get_within s.inboxes.items _ at.0 at.1.0

pub returns-clause-slot : goal.returns-clause-slot
returns-clause-slot g c = λ i is.
    let s = c.args.self.now in
    let at = standing (λ i. i.slot) s.inboxes.items s.places c.args.slot _ s.placed c.requires (ap (λ n. get_or s.places n 0) (sym c.number.ensures.number)) in
    ap (λ i. i.slot) (same_Some i at.0 (sym is ∙ at.1.0)) ∙ at.1.1
