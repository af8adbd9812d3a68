use Rattle.std.proofs.Common.{◌≡◌, ◌++◌, length, slice_get, slice_set, is_some, true, inl, inr, ap, sym, subst, ◌∙◌, refl, arith}
use Rattle.std.proofs.lemmas.List.{length-set}
use Rattle.std.proofs.lemmas.Option.{slice_get_read}
use Rattle.rtrb.specs.Ring.{IsPair}
use Rattle.alm_model.specs.Judging.{accepted_of, entries_in}
use Rattle.alm_rings.specs.declared.console.Console.{Console}
use Rattle.alm_rings.specs.Ends.{sent_of, received_of}
use Rattle.alm_rings.specs.Placed.{inbox_at, outbox_at}
use Rattle.alm_rings.specs.Batches.{AreBatchEnds, sealed_of, fetched_of, emptied_of, given_of}
use Rattle.alm_seq.specs.Spares.{spares}
use Rattle.alm_flush.specs.HeldBatch.{stored_of, published_entries}
use Rattle.alm_flush.specs.Flushes.{IsGivenUp}
use Rattle.alm_pipeline.specs.Matches.{KnowsEnds, entries_of, notes_of, stage_of}
use Rattle.alm_pipeline.proofs.Placing.{set_here, set_cases, still_inbox, still_outbox, ring_trans, ring_sym}
use Rattle.alm_pipeline.proofs.pipeline.Pipeline.tell.Goals as goal

pub invariant_of-self : goal.invariant_of-self
invariant_of-self g c =
    let old = c.args.self.now in
    let cs = old.consoles.items in
    let at = c.number.result in
    let slot = c.args.slot in
    let is = c.number.ensures.number in
    let rb = c.requests_beside in
    let pb = c.replies_beside in
    let new = pb.new.console in
    let seals = rb.ensures.seals in
    let same = pb.ensures.same in
    record {
      count = length-set cs at new ∙ old.count;
      inboxes = λ s few. still_inbox _ _ (rb.ensures.inboxes s) (old.inboxes s few);
      outboxes = λ s few. still_outbox _ _ (pb.ensures.outboxes s) (old.outboxes s few);
      requests = λ s k i here there. elim (set_cases cs s at new k here) [
        | inl h ↦ subst (λ (x : Console _ _). IsPair x.requests i.requests) h.1
            (ring_trans new.requests.end rb.new.console.requests.end i.requests.end (ring_sym rb.new.console.requests.end new.requests.end pb.ensures.console.0.0.0)
            (rb.ensures.ends i (ap (λ n. inbox_at n rb.new.self.inboxes.items) (sym is ∙ sym h.0) ∙ there)))
        | inr o ↦ old.requests s k i o.1 (sym (rb.ensures.others s (λ p. o.0 (p ∙ sym is))) ∙ there)
      ];
      replies = λ s k x here there. elim (set_cases cs s at new k here) [
        | inl h ↦ subst (λ (y : Console _ _). IsPair x.replies y.replies) h.1 (pb.ensures.ends x (ap (λ n. outbox_at n pb.new.self.outboxes.items) (sym is ∙ sym h.0) ∙ there))
        | inr o ↦ old.replies s k x o.1 (sym (pb.ensures.others s (λ p. o.0 (p ∙ sym is))) ∙ there)
      ];
      batches = subst (λ e. AreBatchEnds e pb.new.self.fetch) (sym seals.0.1) (subst (λ f. AreBatchEnds old.sequencer.ends f) (sym same.3) old.batches);
      bases = seals.0.0 ∙ (old.bases ∙ sym (ap (λ b. b.base.value) same.1));
    }

pub returns-clause-open : goal.returns-clause-open
returns-clause-open g c = λ w m.
    let old = c.args.self.now in
    let cs = old.consoles.items in
    let at = c.number.result in
    let rb = c.requests_beside in
    let pb = c.replies_beside in
    let new = pb.new.console in
    let seals = rb.ensures.seals in
    let same = pb.ensures.same in
    let f = m.fits in
    let l = f.lists in
    let was = slice_get_read cs _ at c.index_mut-console.result.now refl (omega (arith, c.number.ensures.limit, old.count)) c.index_mut-console.ensures.value in
    record {
      opened = m.opened;
      going = λ e. m.going (ap (λ k. (g.K.Store.state k).phase) (sym same.0) ∙ e);
      trying = λ x. m.trying (subst IsGivenUp same.4 x);
      fits = record {
        slots = record {
          requests = λ s k is. elim (set_cases cs s at new k is) [
            | inl h ↦ ap sent_of (sym h.1) ∙ (pb.ensures.console.2 ∙ (rb.ensures.console.1 ∙ (f.slots.requests at c.index_mut-console.result.now was ∙ ap w.sent (sym h.0))))
            | inr o ↦ f.slots.requests s k o.1
          ];
          judged = λ s. ap length (rb.ensures.taken s) ∙ f.slots.judged s;
          notes = λ s. ap notes_of (pb.ensures.released s) ∙ f.slots.notes s;
          receipts = λ s k is. elim (set_cases cs s at new k is) [
            | inl h ↦ ap (λ x. length (received_of x)) (sym h.1) ∙ (ap length (pb.ensures.console.1 ∙ rb.ensures.console.2) ∙ (f.slots.receipts at c.index_mut-console.result.now was ∙ ap w.received (sym h.0)))
            | inr o ↦ f.slots.receipts s k o.1
          ];
          few = f.slots.few;
        };
        batches = record {
          entries = ap (λ b. b.entries) seals.1 ∙ f.batches.entries;
          waiting = ap (λ e. entries_of (sealed_of e)) seals.0.1 ∙ (f.batches.waiting ∙ ap (λ e. entries_of (fetched_of e) ++ w.sealed) (sym same.3));
          held = ap stage_of same.4 ∙ f.batches.held;
          spared = omega (arith, f.batches.spared, ap (λ e. length (emptied_of e)) seals.0.1, ap (λ e. length (given_of e)) same.3, ap spares seals.0.2);
          eight = f.batches.eight;
        };
        lists = record {
          opened = l.opened;
          judged_from = seals.0.0 ∙ l.judged_from;
          stored_from = ap (λ b. b.base.value) same.1 ∙ l.stored_from;
          all = l.all ∙ (λ i. l.opened ++ accepted_of (entries_in (sealed_of (sym seals.0.1 i)) ++ (sym seals.1 i).entries));
          kept = l.kept ∙ (λ i. l.opened ++ accepted_of (entries_in (fetched_of (sym same.2 i)) ++ stored_of (sym same.4 i)));
          shown = l.shown ∙ (λ i. l.opened ++ accepted_of (entries_in (fetched_of (sym same.2 i)) ++ published_entries (sym same.4 i)));
          enough = l.enough;
        };
      };
    }

pub returns-clause-knows : goal.returns-clause-knows
returns-clause-knows g c =
    let old = c.args.self.now in
    let cs = old.consoles.items in
    let at = c.number.result in
    let rb = c.requests_beside.ensures in
    let pb = c.replies_beside.ensures in
    let new = c.replies_beside.new.console in
    λ k is. elim (set_cases cs c.args.slot at new k is) [
      | inl h ↦ subst (λ (x : Console _ _). KnowsEnds c.args.slot x c.requests_beside.new.self.inboxes.items c.replies_beside.new.self.outboxes.items) h.1 (record {
        requests = rb.requests ∙ sym pb.console.2;
        replies = pb.replies;
        serials = omega (arith, rb.serials, ap length pb.console.2);
        room = omega (arith, rb.room, ap length pb.console.2, pb.console.3);
        reply_room = pb.room;
      })
      | inr o ↦ absurd (o.0 (sym c.number.ensures.number))
    ]

pub returns-clause-there : goal.returns-clause-there
returns-clause-there g c =
    let old = c.args.self.now in
    let cs = old.consoles.items in
    let new = c.replies_beside.new.console in
    subst (λ n. is_some (slice_get (slice_set cs c.number.result new) n) ≡ true) c.number.ensures.number (ap is_some (set_here cs c.number.result new (omega (arith, c.number.ensures.limit, old.count))))
