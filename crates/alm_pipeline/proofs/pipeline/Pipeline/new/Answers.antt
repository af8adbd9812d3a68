use Rattle.std.proofs.Common.{◌≡◌, ◌++◌, [], length, is_some, ap, sym, subst, ◌∙◌, refl, arith}
use Rattle.std.proofs.lemmas.List.{append-nil}
use Rattle.alm_model.specs.Judging.{accepted_of, entries_in}
use Rattle.alm_rings.specs.Placed.{inbox_at, outbox_at, taken_by, released_by}
use Rattle.alm_rings.specs.Batches.{AreBatchEnds, fetched_of, given_of}
use Rattle.alm_seq.specs.Spares.{spares}
use Rattle.alm_flush.specs.HeldBatch.{stored_of, published_entries}
use Rattle.alm_flush.specs.Flushes.{IsGivenUp}
use Rattle.alm_pipeline.specs.Matches.{entries_of, notes_of, stage_of}
use Rattle.alm_pipeline.proofs.Placing.{ring_trans, ring_sym}
use Rattle.alm_pipeline.proofs.pipeline.Pipeline.new.Goals as goal

pub invariant_of-result : goal.invariant_of-result
invariant_of-result g c =
    let e = c.in-Ok.ensures in
    let seq = c.new-sequencer in
    let fl = c.new-flusher in
    let bb = c.batches_beside in
    let are = bb.ensures.ends in
    let s = bb.new.seal in
    let f = bb.new.fetch in
    let same = seq.ensures.ends.0 in
    record {
      count = e.count;
      inboxes = λ n few. ap (λ v. is_some (inbox_at n v.items)) seq.ensures.inboxes ∙ e.inboxes n few;
      outboxes = λ n few. ap (λ v. is_some (outbox_at n v.items)) fl.ensures.parts.2 ∙ e.outboxes n few;
      requests = λ n k i is there. e.requests n k i is (ap (λ v. inbox_at n v.items) (sym seq.ensures.inboxes) ∙ there);
      replies = λ n k o is there. e.replies n k o is (ap (λ v. outbox_at n v.items) (sym fl.ensures.parts.2) ∙ there);
      batches = subst (λ x. AreBatchEnds seq.result.ends x) (sym fl.ensures.parts.3) (
        ring_trans seq.result.ends.full.end s.full.end f.full.end (ring_sym s.full.end seq.result.ends.full.end same.0.0) are.0,
        ring_trans f.empty.end s.empty.end seq.result.ends.empty.end are.1 same.1.0,
      );
      bases = seq.ensures.new.1 ∙ ((c.in-Ok-copy.ensures ∙ c.stored.ensures) ∙ (sym (c.in-Ok-copy-2.ensures ∙ c.stored-2.ensures) ∙ sym (ap (λ b. b.base.value) fl.ensures.parts.1 ∙ c.new.ensures.base)));
    }

pub returns-clause-open : goal.returns-clause-open
returns-clause-open g c = λ base kept floor is enough.
    let e = c.in-Ok.ensures in
    let seq = c.new-sequencer in
    let fl = c.new-flusher in
    let bb = c.batches_beside.ensures in
    let ob = c.in-Ok-open_batches.ensures.new in
    let parts = fl.ensures.parts in
    let held = fl.ensures.held in
    let fetched : fetched_of fl.result.fetch ≡ [] = ap fetched_of parts.3 ∙ (bb.sealed.1 ∙ ob.1) in
    let before : fetched_of fl.result.before.value ≡ [] = ap fetched_of held.1 ∙ (bb.sealed.1 ∙ ob.1) in
    let eight : length (given_of c.in-Ok-open_batches.fetch) ≡ 8 = ap length ob.3 in
    record {
      opened = refl;
      going = λ p. absurd (cc (c.requires.idle, ap (λ k. (g.K.Store.state k).phase) parts.0, p));
      trying = λ x. subst IsGivenUp held.0 x;
      fits = record {
        slots = record {
          requests = λ s k at. (e.consoles s k at).0;
          judged = λ s. ap (λ v. length (taken_by s v.items)) seq.ensures.inboxes ∙ ap length (e.taken s);
          notes = λ s. ap (λ v. notes_of (released_by s v.items)) parts.2 ∙ ap notes_of (e.released s);
          receipts = λ s k at. ap length (e.consoles s k at).1;
          few = λ s. omega arith;
        };
        batches = record {
          entries = sym (ap (λ l. entries_in l ++ seq.result.batch.entries) seq.ensures.ends.1) ∙ seq.ensures.new.0;
          waiting = ap entries_of seq.ensures.ends.1 ∙ sym (ap (λ l. entries_of l ++ []) fetched);
          held = ap stage_of held.0;
          spared = omega (arith, seq.ensures.ends.2, ap length bb.empties.0, ap length ob.2, ap (λ f. length (given_of f)) parts.3, ap length bb.empties.1, eight, ap spares seq.ensures.new.2);
          eight = omega arith;
        };
        lists = record {
          opened = kept;
          judged_from = seq.ensures.new.1 ∙ (c.in-Ok-copy.ensures ∙ (c.stored.ensures ∙ is));
          stored_from = ap (λ b. b.base.value) parts.1 ∙ (c.new.ensures.base ∙ (c.in-Ok-copy-2.ensures ∙ (c.stored-2.ensures ∙ is)));
          all = sym (ap (λ l. kept ++ accepted_of l) seq.ensures.new.0 ∙ append-nil kept);
          kept = sym ((λ i. kept ++ accepted_of (entries_in (before i) ++ stored_of (held.0 i))) ∙ append-nil kept);
          shown = sym ((λ i. kept ++ accepted_of (entries_in (before i) ++ published_entries (held.0 i))) ∙ append-nil kept);
          enough = enough;
        };
      };
    }
