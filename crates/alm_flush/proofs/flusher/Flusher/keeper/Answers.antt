use Rattle.std.proofs.Common.{◌++◌}
use Rattle.alm_model.specs.Judging.{accepted_of, entries_in}
use Rattle.alm_rings.specs.Batches.{fetched_of}
use Rattle.alm_flush.specs.HeldBatch.{stored_of}
use Rattle.alm_flush.proofs.HeldLaws.{shown_prefix, told_stored}
use Rattle.alm_flush.proofs.flusher.Flusher.keeper.Goals as goal

pub returns-clause-prefix : goal.returns-clause-prefix
returns-clause-prefix g c =
    let f = c.args.self.now in
    let before = entries_in (fetched_of f.before.value) in
    (accepted_of (before ++ stored_of f.held), (f.stored, rw f.published (shown_prefix before f.held)))

pub returns-clause-numbers : goal.returns-clause-numbers
returns-clause-numbers g c = λ s k r is.
    let f = c.args.self.now in
    let base = g.B.Board.base f.board in
    let before = entries_in (fetched_of f.before.value) in
    told_stored base (g.K.Store.state f.store).stored before f.held r.number f.number (f.numbers s k r is) f.number_is f.stored
