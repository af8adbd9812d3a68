use Rattle.std.proofs.Common.{◌≡◌, ◌∙◌, ◌++◌, [], sym, ap, subst}
use Rattle.std.proofs.lemmas.List.{append-nil}
use Rattle.alm_rings.specs.Batches.{fetched_of, sealed_of}
use Rattle.alm_rings.specs.Placed.{released_by, taken_by}
use Rattle.alm_seq.specs.Sequences.{SealAnswers}
use Rattle.alm_threads.specs.Finished.{AreAllTaken}
use Rattle.alm_threads.proofs.Finished.{answered_all}
use Rattle.alm_threads.proofs.finishing.finish_some.Goals as goal

pub returns-clause-done : goal.returns-clause-done
returns-clause-done g c = λ t.
    let left = c.is_left.ensures c.if-is_left.false in
    let s = c.seal-sealed.new.self in
    let b = c.batches_beside.new.self.flusher in
    let f = c.fetch-fetched.new.self.flusher in
    let e = c.fetch-fetched.ensures.empty left.2 in
    let seal = subst (λ r. SealAnswers r c.take_each-found.new.sequencer s) left.1 c.seal-sealed.ensures.answer in
    let all : fetched_of f.fetch ≡ sealed_of s.ends =
    e.1 ∙ (sym (append-nil (fetched_of b.fetch)) ∙ (ap (λ l. fetched_of b.fetch ++ l) (sym e.2) ∙ (c.batches_beside.ensures.fetched ∙ c.batches_beside.ensures.sealed))) in
    let none : s.batch.entries ≡ [] = ap (λ x. x.entries) seal.0.2 ∙ seal.1 in
    record {
      taken = subst (λ x. AreAllTaken c.take_each-found.new.consoles x.items) (sym c.seal-sealed.ensures.inboxes) (c.take_each-found.ensures.none left.0);
      answered = λ n.
          answered_all n (fetched_of f.before.value) (fetched_of f.fetch) (sealed_of s.ends) s.batch.entries f.held (released_by n f.outboxes.items) (taken_by n s.inboxes.items)
          e.0 f.held_is all none (f.released n) (s.wants n);
    }
