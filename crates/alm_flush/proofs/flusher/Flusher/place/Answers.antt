use Rattle.std.proofs.Common.{ap, sym}
use Rattle.std.specs.Prelude.{get_or}
use Rattle.alm_rings.proofs.Slots.{no_end}
use Rattle.alm_flush.proofs.flusher.Flusher.place.Goals as goal

pub returns-clause-missing : goal.returns-clause-missing
returns-clause-missing g c = λ far.
    let f = c.args.self.now in
    no_end (λ o. o.slot) f.outboxes.items f.places c.args.slot _ f.placed (ap (λ n. get_or f.places n 0) (sym c.number.ensures.number)) far
