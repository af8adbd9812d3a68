use Rattle.std.proofs.Common.{is_some, ◌≡◌, ◌∙◌, ◌++◌, length, ap, sym, subst, append_assoc, length-append, arith}
use Rattle.alm_model.specs.Judging.{accepted_of, entries_in}
use Rattle.alm_rings.specs.Placed.{released_by}
use Rattle.alm_rings.specs.Placed.{outbox_at}
use Rattle.alm_rings.specs.Batches.{AreBatchEnds, fetched_of, given_of}
use Rattle.alm_flush.specs.HeldBatch.{stored_of, published_entries}
use Rattle.alm_flush.proofs.HeldLaws.{accepted_more}
use Rattle.alm_pipeline.specs.World.{Stored, after_publish}
use Rattle.alm_flush.specs.Flushes.{IsGivenUp}
use Rattle.alm_pipeline.specs.Matches.{stage_of, entries_of, notes_of, batch_held_at}
use Rattle.alm_pipeline.proofs.Calls.{published_batch}
use Rattle.alm_pipeline.proofs.Moved.{opened_as}
use Rattle.alm_pipeline.proofs.pipeline.Pipeline.publish.Goals as goal

pub invariant_of-self : goal.invariant_of-self
invariant_of-self g c =
    let p = c.tell_batches.new.self in
    let same = c.publish.ensures.same in
    record {
      count = p.count;
      inboxes = p.inboxes;
      outboxes = λ s few. ap (λ x. is_some (outbox_at s x.items)) same.1 ∙ p.outboxes s few;
      requests = p.requests;
      replies = λ s k o at there. p.replies s k o at (ap (λ x. outbox_at s x.items) (sym same.1) ∙ there);
      batches = subst (λ f. AreBatchEnds p.sequencer.ends f) (sym same.3) p.batches;
      bases = p.bases ∙ sym c.publish.ensures.base;
    }

pub returns-in-Published-clause-fits : goal.returns-in-Published-clause-fits
returns-in-Published-clause-fits g c = λ w m.
    let p = c.tell_batches.new.self in
    let o = c.tell_batches.ensures.«open» w m in
    let f = o.fits in
    let new = c.publish.new.self in
    let same = c.in-Published.ensures.same in
    let held = published_batch p.flusher.held new.held c.in-Published.ensures.held in
    let items = held.0.entries in
    let before = entries_in (fetched_of p.flusher.before.value) in
    let stage : w.stage ≡ Stored items = sym f.batches.held ∙ ap stage_of held.1 in
    opened_as _ _ _ (ap (after_publish w) (sym stage)) (record {
      opened = o.opened;
      going = λ e. o.going (ap (λ k. (g.K.Store.state k).phase) (sym same.0) ∙ e);
      trying = λ x. subst IsGivenUp held.2 x;
      fits = record {
        slots = record { requests = f.slots.requests; judged = f.slots.judged; notes = λ s. ap (λ x. notes_of (released_by s x)) (ap (λ v. v.items) same.1) ∙ f.slots.notes s; receipts = f.slots.receipts; few = f.slots.few };
        batches = record {
          entries = f.batches.entries;
          waiting = f.batches.waiting ∙ ap (λ e. entries_of (fetched_of e) ++ w.sealed) (sym same.3);
          held = ap stage_of held.2;
          spared = f.batches.spared ∙ omega (arith, ap (λ e. length (given_of e)) same.3);
          eight = omega (arith, f.batches.eight, ap batch_held_at stage);
        };
        lists = record {
          opened = f.lists.opened;
          judged_from = f.lists.judged_from;
          stored_from = c.in-Published.ensures.base ∙ f.lists.stored_from;
          all = f.lists.all;
          kept = f.lists.kept ∙ (ap (λ h. f.lists.opened ++ accepted_of (before ++ stored_of h)) held.1 ∙ (ap (λ h. f.lists.opened ++ accepted_of (before ++ stored_of h)) (sym held.2)
              ∙ ap (λ e. f.lists.opened ++ accepted_of (entries_in (fetched_of e) ++ stored_of new.held)) (sym same.2)));
          shown = ap (λ l. l ++ accepted_of items) (f.lists.shown ∙ ap (λ h. f.lists.opened ++ accepted_of (before ++ published_entries h)) held.1)
              ∙ (append_assoc f.lists.opened _ (accepted_of items) ∙ (ap (λ l. f.lists.opened ++ l) (accepted_more before items)
              ∙ (ap (λ h. f.lists.opened ++ accepted_of (before ++ published_entries h)) (sym held.2) ∙ ap (λ e. f.lists.opened ++ accepted_of (entries_in (fetched_of e) ++ published_entries new.held)) (sym same.2))));
          enough = omega (arith, f.lists.enough, length-append w.published (accepted_of items));
        };
      };
    })
