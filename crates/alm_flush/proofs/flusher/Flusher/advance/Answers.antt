use Rattle.std.proofs.Common.{◌∙◌, ◌++◌, ◌+◌, length, ap, sym, inl, refl}
use Rattle.alm_model.specs.Judging.{accepted_of, entries_in, of_slot, logged_of}
use Rattle.alm_model.specs.Step.{run}
use Rattle.alm_rings.specs.Batches.{fetched_of}
use Rattle.alm_flush.specs.Replies.{replies_to}
use Rattle.alm_flush.specs.HeldBatch.{batches_of, published_entries, stored_of, released_entries}
use Rattle.alm_flush.proofs.HeldLaws.{run_more, prefix_nothing}
use Rattle.std.proofs.Math.Logic.{∥∥₁_map}
use Rattle.alm_model.specs.Rules.{admits_all}
use Rattle.alm_flush.proofs.flusher.Flusher.advance.Goals as goal

pub invariant_of-self : goal.invariant_of-self
invariant_of-self g c =
    let old = c.args.self.now in
    let base = g.B.Board.base old.board in
    let was = sym c.in-Fetched.ensures.value in
    let before = entries_in (fetched_of old.before.value) in
    let items = c.in-Fetched.batch.entries in
    let stood = old.stored ∙ ap (λ h. run base (accepted_of (before ++ stored_of h))) was in
    let shown = old.published ∙ ap (λ h. accepted_of (before ++ published_entries h)) was in
    let rest = c.in-Committed.ensures.step.stores.answer.2 in
    record {
      placed = old.placed;
      back = old.back;
      held_is = old.held_is ∙ ap (λ h. fetched_of old.before.value ++ batches_of h) was;
      stored = c.in-Committed.ensures.step.stores.answer.1 ∙ (ap (λ p. run p (accepted_of items)) stood ∙ run_more base before items);
      published = old.published ∙ ap (λ h. accepted_of (before ++ published_entries h)) was;
      logged = old.logged ∙ ap (λ h. logged_of (before ++ published_entries h)) was;
      pending = prefix_nothing (g.B.Board.pending old.board) (logged_of items) (rw was at old.pending);
      released = λ s. old.released s ∙ ap (λ h. replies_to (of_slot s (before ++ released_entries h))) was;
      number_is = old.number_is ∙ ap (λ h. base.panel.count + length (accepted_of (before ++ released_entries h))) was;
      numbers = old.numbers;
      idle = λ _. rest;
      next = λ h. absurd (rest h);
      admitted = λ h. absurd (rest h);
      ready = ap (λ p. admits_all p (accepted_of items)) (ap (run base) shown ∙ sym stood) ∙ c.in-Committed.ensures.step.stores.passed refl;
      either = ∥∥₁_map (c.in-Committed.ensures.idle.1 refl) inl;
    }
