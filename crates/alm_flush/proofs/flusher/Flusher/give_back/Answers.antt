use Rattle.std.proofs.Common.{◌≡◌, ◌≤◌, ◌∙◌, ◌++◌, ◌+◌, ◌∷◌, [], length, take, ap, sym, subst, length-append, None}
use Rattle.std.specs.Prelude.{slice_get}
use Rattle.std.proofs.lemmas.List.{append-nil}
use Rattle.alm_model.specs.Judging.{accepted_of, entries_in, of_slot, logged_of}
use Rattle.alm_model.specs.Step.{run}
use Rattle.alm_model.proofs.Legal.{entries_snoc}
use Rattle.alm_rings.specs.Batches.{fetched_of, given_of}
use Rattle.alm_flush.specs.Replies.{replies_to}
use Rattle.alm_flush.specs.HeldBatch.{batches_of, ready_of, published_entries, stored_of, released_entries, waiting_of, next_entry_of}
use Rattle.alm_flush.specs.Flushes.{AreAllReleased}
use Rattle.alm_flush.specs.declared.held.Held.TheVariants.{Nothing}
use Rattle.alm_flush.proofs.HeldLaws.{none_past, take_all}
use Rattle.alm_model.specs.Rules.{admits_all}
use Rattle.alm_flush.proofs.flusher.Flusher.give_back.Goals as goal

pub invariant_of-self : goal.invariant_of-self
invariant_of-self g c =
    let old = c.args.self.now in
    let base = g.B.Board.base old.board in
    let was = sym c.in-Published.ensures.value in
    let is : c.replace.new.dest ≡ Nothing = c.replace.ensures.after in
    let b = c.in-Published.batch in
    let items = b.entries in
    let before = entries_in (fetched_of old.before.value) in
    let none : slice_get items c.in-Published.released ≡ None = sym (ap next_entry_of was) ∙ sym c.in-None.ensures in
    let all : take c.in-Published.released items ≡ items = take_all items c.in-Published.released (none_past items c.in-Published.released none) in
    let fetched : fetched_of c.of.result.value ≡ fetched_of old.before.value ++ b ∷ [] =
    ap fetched_of c.of.ensures ∙ (c.in-Ok.ensures.fetched.0 ∙ (old.held_is ∙ ap (λ h. fetched_of old.before.value ++ batches_of h) was)) in
    let entries : entries_in (fetched_of c.of.result.value) ++ [] ≡ before ++ items =
    append-nil (entries_in (fetched_of c.of.result.value)) ∙ (ap entries_in fetched ∙ entries_snoc (fetched_of old.before.value) b) in
    let told : before ++ released_entries old.held ≡ entries_in (fetched_of c.of.result.value) ++ [] =
    ap (λ h. before ++ released_entries h) was ∙ (ap (λ l. before ++ l) all ∙ sym entries) in
    let now : before ++ released_entries old.held ≡ entries_in (fetched_of c.of.result.value) ++ released_entries c.replace.new.dest = told ∙ ap (λ h. entries_in (fetched_of c.of.result.value) ++ released_entries h) (sym is) in
    record {
      placed = old.placed;
      back = old.back;
      held_is = c.in-Ok.ensures.fetched.0 ∙ (old.held_is ∙ (ap (λ h. fetched_of old.before.value ++ batches_of h) was ∙ (sym fetched ∙ (sym (append-nil (fetched_of c.of.result.value)) ∙ ap (λ h. fetched_of c.of.result.value ++ batches_of h) (sym is)))));
      stored = old.stored ∙ ap (λ l. run base (accepted_of l)) (ap (λ h. before ++ stored_of h) was ∙ (sym entries ∙ ap (λ h. entries_in (fetched_of c.of.result.value) ++ stored_of h) (sym is)));
      published = old.published ∙ ap accepted_of (ap (λ h. before ++ published_entries h) was ∙ (sym entries ∙ ap (λ h. entries_in (fetched_of c.of.result.value) ++ published_entries h) (sym is)));
      logged = old.logged ∙ ap logged_of (ap (λ h. before ++ published_entries h) was ∙ (sym entries ∙ ap (λ h. entries_in (fetched_of c.of.result.value) ++ published_entries h) (sym is)));
      pending = rw is (rw was at old.pending);
      released = λ s. old.released s ∙ ap (λ l. replies_to (of_slot s l)) now;
      number_is = old.number_is ∙ ap (λ l. base.panel.count + length (accepted_of l)) now;
      numbers = old.numbers;
      idle = λ _. old.idle (ap (λ h. accepted_of (waiting_of h)) was);
      next = λ p. old.next p ∙ (ap (λ h. run (g.K.Store.state old.store).stored (accepted_of (waiting_of h))) was ∙ ap (λ h. run (g.K.Store.state old.store).stored (accepted_of (waiting_of h))) (sym is));
      admitted = λ p. ap (λ h. admits_all (g.K.Store.state old.store).stored (accepted_of (waiting_of h))) is;
      ready = ap (λ h. admits_all (run (g.B.Board.base old.board) (g.B.Board.published old.board)) (accepted_of (ready_of h))) is;
      either = rw is (rw was at old.either);
    }

pub returns-in-Ok-clause-given : goal.returns-in-Ok-clause-given
returns-in-Ok-clause-given g c =
    let old = c.args.self.now in
    let was = sym c.in-Published.ensures.value in
    let none : slice_get c.in-Published.batch.entries c.in-Published.released ≡ None = sym (ap next_entry_of was) ∙ sym c.in-None.ensures in
    let done : length c.in-Published.batch.entries ≤ c.in-Published.released = none_past c.in-Published.batch.entries c.in-Published.released none in
    record {
      done = subst AreAllReleased (sym was) done;
      held = c.replace.ensures.after;
      more = ap length c.in-Ok.ensures.ok.0 ∙ length-append (given_of old.fetch) _;
    }
