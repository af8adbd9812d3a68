use Rattle.std.proofs.Common.{◌∙◌, ◌++◌, ◌+◌, ◌∷◌, [], length, ap, refl, sym, inl, inr, ⊎_elim, arith}
use Rattle.std.proofs.Math.Logic.{∥∥₁_map}
use Rattle.std.proofs.lemmas.List.{append-nil}
use Rattle.alm_model.specs.Judging.{accepted_of, entries_in, of_slot, logged_of}
use Rattle.alm_model.specs.Step.{run}
use Rattle.alm_rings.specs.Batches.{fetched_of}
use Rattle.alm_flush.specs.Replies.{replies_to}
use Rattle.alm_flush.specs.HeldBatch.{batches_of, published_entries, stored_of, released_entries, waiting_of}
use Rattle.alm_store.specs.State.{StoreState}
use Rattle.alm_flush.proofs.Pacing.{keeps_same}
use Rattle.alm_flush.proofs.flusher.Flusher.fetch.Goals as goal

pub invariant_of-self : goal.invariant_of-self
invariant_of-self g c =
    let old = c.args.self.now in
    let base = g.B.Board.base old.board in
    let was = c.in-Nothing.is in
    let b = c.in-Some.batch in
    let before = entries_in (fetched_of old.before.value) in
    let nothing = old.idle (ap (λ h. accepted_of (waiting_of h)) was) in
    let m = c.mark.ensures in
    let stored = ap (λ (s : StoreState). s.stored) m.state in
    let phase = ap (λ (s : StoreState). s.phase) m.state in
    let next = ap (λ (s : StoreState). s.next) m.state in
    let held = old.held_is ∙ (ap (λ h. fetched_of old.before.value ++ batches_of h) was ∙ append-nil (fetched_of old.before.value)) in
    record {
      placed = old.placed;
      back = old.back;
      held_is = c.in-Some.ensures.some ∙ ap (λ l. l ++ b ∷ []) held;
      stored = stored ∙ (old.stored ∙ ap (λ h. run base (accepted_of (before ++ stored_of h))) was);
      published = old.published ∙ ap (λ h. accepted_of (before ++ published_entries h)) was;
      logged = old.logged ∙ ap (λ h. logged_of (before ++ published_entries h)) was;
      pending = rw was at old.pending;
      released = λ s. old.released s ∙ ap (λ h. replies_to (of_slot s (before ++ released_entries h))) was;
      number_is = old.number_is ∙ ap (λ h. base.panel.count + length (accepted_of (before ++ released_entries h))) was;
      numbers = old.numbers;
      idle = λ _ p. nothing (sym phase ∙ p);
      next = λ p. absurd (nothing (sym phase ∙ p));
      admitted = λ p. absurd (nothing (sym phase ∙ p));
      ready = refl;
      either = ∥∥₁_map (rw was at old.either) (λ e. elim e [ inl p ↦ inl (next ∙ (p ∙ sym stored)) | inr p ↦ inl (next ∙ (p ∙ sym stored)) ]);
    }

pub returns-in-Some-clause-pace : goal.returns-in-Some-clause-pace
returns-in-Some-clause-pace g c = λ keeps.
    let K = g.K.Store in
    let old = c.args.self.now.store in
    let new = c.mark.new.self in
    let s = c.mark.ensures.state in
    let used = ap (λ (x : StoreState). x.used) s in
    let segment = ap (λ (x : StoreState). x.segment) s in
    let going = ap (λ (x : StoreState). x.going) s in
    let phase = ap (λ (x : StoreState). x.phase) s in
    let written = ap (λ (x : StoreState). x.written) s in
    keeps_same (K.state old).used (K.state new).used (K.state old).segment (K.state new).segment (K.state old).going (K.state new).going (used, segment, going) (K.state old).phase (K.state new).phase (K.state old).written (K.state new).written
    (λ _ a. ⊎_elim (λ e. inl (sym phase ∙ e)) (λ x. absurd (omega (arith, x, written))) a) keeps
