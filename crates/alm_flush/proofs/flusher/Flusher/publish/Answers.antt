use Rattle.std.proofs.Common.{◌∙◌, ◌++◌, ◌+◌, [], length, ap, subst, sym, refl}
use Rattle.alm_model.specs.Judging.{accepted_of, entries_in, of_slot, logged_of}
use Rattle.alm_model.specs.Step.{run}
use Rattle.alm_rings.specs.Batches.{fetched_of}
use Rattle.alm_flush.specs.Replies.{replies_to}
use Rattle.alm_flush.specs.HeldBatch.{batches_of, ready_of, published_entries, stored_of, released_entries, waiting_of}
use Rattle.alm_flush.proofs.HeldLaws.{accepted_more, logged_more}
use Rattle.alm_model.specs.Rules.{admits_all}
use Rattle.alm_model.proofs.Runs.{admitted_where}
use Rattle.alm_flush.proofs.flusher.Flusher.publish.Goals as goal

pub invariant_of-self : goal.invariant_of-self
invariant_of-self g c =
    let old = c.args.self.now in
    let same = c.in-Ok.ensures.base in
    let was = sym c.in-Committed.ensures.value in
    let before = entries_in (fetched_of old.before.value) in
    let items = c.in-Committed.batch.entries in
    let shown = old.published ∙ ap (λ h. accepted_of (before ++ published_entries h)) was in
    let logged = old.logged ∙ ap (λ h. logged_of (before ++ published_entries h)) was in
    let store = old.store in
    record {
      placed = old.placed;
      back = old.back;
      held_is = old.held_is ∙ ap (λ h. fetched_of old.before.value ++ batches_of h) was;
      stored = old.stored ∙ (ap (λ h. run (g.B.Board.base old.board) (accepted_of (before ++ stored_of h))) was ∙ ap (λ b. run b (accepted_of (before ++ items))) (sym same));
      published = c.in-Ok.ensures.ok.0 ∙ (ap (λ l. l ++ accepted_of items) shown ∙ accepted_more before items);
      logged = c.in-Ok.ensures.logged ∙ (ap (λ l. l ++ logged_of items) logged ∙ logged_more before items);
      pending = rw c.in-Ok.ensures.ok.1 refl;
      released = λ s. old.released s ∙ ap (λ h. replies_to (of_slot s (before ++ released_entries h))) was;
      number_is = old.number_is ∙ (ap (λ h. (g.B.Board.base old.board).panel.count + length (accepted_of (before ++ released_entries h))) was ∙ ap (λ b. b.panel.count + length (accepted_of (before ++ []))) (sym same));
      numbers = old.numbers;
      idle = λ e. old.idle (ap (λ h. accepted_of (waiting_of h)) was);
      next = λ p. old.next p ∙ ap (λ h. run (g.K.Store.state store).stored (accepted_of (waiting_of h))) was;
      admitted = λ p. refl;
      ready = refl;
      either = rw was at old.either;
    }

pub publish-requires-clause-admitted : goal.publish-requires-clause-admitted
publish-requires-clause-admitted g c =
    let old = c.args.self.now in
    admitted_where _ _ (ap (λ h. admits_all (run (g.B.Board.base old.board) (g.B.Board.published old.board)) (accepted_of (ready_of h))) c.in-Committed.ensures.value ∙ old.ready)

pub publish-requires-clause-vouched : goal.publish-requires-clause-vouched
publish-requires-clause-vouched g c =
    let old = c.args.self.now in
    subst (λ h. g.V.Voucher.vouches c.args.voucher.now (g.B.Board.published old.board ++ accepted_of (ready_of h))) (sym c.in-Committed.ensures.value) c.requires.vouched
