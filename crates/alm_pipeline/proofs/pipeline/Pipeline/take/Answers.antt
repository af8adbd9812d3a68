use Rattle.std.proofs.Common.{◌≡◌, inl, inr, ◌+◌, ◌∙◌, ◌++◌, ◌∷◌, [], List, ℕ, Some, Option, slice_get, length, ap, sym, subst, refl, arith, append_assoc, length-append}
use Rattle.alm_model.specs.Step.{run}
use Rattle.alm_model.specs.Judging.{accepted_of, verdict_of, entries_in}
use Rattle.alm_model.proofs.Legal.{accepted_append}
use Rattle.alm_model.proofs.Runs.{run_append}
use Rattle.alm_types.specs.declared.want.Want.{Want}
use Rattle.alm_types.specs.declared.entry.Entry.{Entry}
use Rattle.alm_rings.specs.Ends.{sent_of}
use Rattle.alm_rings.specs.Placed.{inbox_at, taken_in, taken_by, waiting_by}
use Rattle.alm_rings.specs.Batches.{AreBatchEnds, sealed_of, emptied_of}
use Rattle.alm_seq.specs.Sequences.{live_of, history_of}
use Rattle.alm_seq.specs.Spares.{spares}
use Rattle.alm_pipeline.specs.World.{live, judges, entry_for, with_entry, with_at}
use Rattle.alm_pipeline.specs.Matches.{entries_of}
use Rattle.alm_pipeline.proofs.Lists.{taken_is}
use Rattle.alm_pipeline.proofs.Moved.{opened_as}
use Rattle.alm_pipeline.proofs.Placing.{some_there, still_inbox, back_inbox, ring_trans, same_or_not, with_here, with_there}
use Rattle.alm_pipeline.proofs.pipeline.Pipeline.take.Goals as goal

pub returns-in-Taken-clause-answer : goal.returns-in-Taken-clause-answer
returns-in-Taken-clause-answer g c = λ w m.
    let mid = c.tell_all.new.self in
    let slot = c.args.slot in
    let o = c.tell_all.ensures.«open» w m in
    let f = o.fits in
    let t = c.in-Taken.ensures.answer.1 in
    let some = c.if-not-waits.ensures.0 refl in
    let k = some_there (slice_get mid.consoles.items slot) c.tell_all.ensures.there in
    let knows = (c.tell_all.ensures.knows.0 k.0 k.1).requests in
    let sent = f.slots.requests slot k.0 k.1 in
    let taken = taken_by slot mid.sequencer.inboxes.items in
    let waiting = waiting_by slot mid.sequencer.inboxes.items in
    let get : slice_get (w.sent slot) (w.taken slot) ≡ Some t.entry.want =
    ap (λ (l : List Want). slice_get l (w.taken slot)) (sym sent) ∙ (ap (λ (n : ℕ). slice_get (sent_of k.0) n) (sym (f.slots.judged slot))
    ∙ taken_is taken waiting (sent_of k.0) (waiting_by slot c.take.new.self.inboxes.items) t.entry.want knows some t.next) in
    let lives : live_of mid.sequencer ≡ live w =
    ap (λ b. run b (accepted_of (history_of mid.sequencer))) f.lists.judged_from ∙ (sym (run_append w.base f.lists.opened (accepted_of (history_of mid.sequencer))) ∙ ap (run w.base) (sym f.lists.all)) in (
      (o.opened, omega (arith, ap length knows, length-append taken waiting, some, ap length sent, f.slots.judged slot), omega (arith, c.in-Taken.ensures.answer.0, ap length f.batches.entries)),
      subst (λ (o : Option Want). judges w slot o c.in-Taken.verdict) (sym get) (t.judged ∙ (λ i. verdict_of (lives i) (record { slot = t.of i; want = t.entry.want }))),
    )

pub returns-in-Taken-clause-fits : goal.returns-in-Taken-clause-fits
returns-in-Taken-clause-fits g c = λ w m.
    let mid = c.tell_all.new.self in
    let new = c.take.new.self in
    let slot = c.args.slot in
    let o = c.tell_all.ensures.«open» w m in
    let f = o.fits in
    let t = c.in-Taken.ensures.answer.1 in
    let seals = c.in-Taken.ensures.seals in
    let some = c.if-not-waits.ensures.0 refl in
    let k = some_there (slice_get mid.consoles.items slot) c.tell_all.ensures.there in
    let knows = (c.tell_all.ensures.knows.0 k.0 k.1).requests in
    let taken = taken_by slot mid.sequencer.inboxes.items in
    let waiting = waiting_by slot mid.sequencer.inboxes.items in
    let get : slice_get (w.sent slot) (w.taken slot) ≡ Some t.entry.want =
    ap (λ (l : List Want). slice_get l (w.taken slot)) (sym (f.slots.requests slot k.0 k.1)) ∙ (ap (λ (n : ℕ). slice_get (sent_of k.0) n) (sym (f.slots.judged slot))
    ∙ taken_is taken waiting (sent_of k.0) (waiting_by slot new.inboxes.items) t.entry.want knows some t.next) in
    let more : length (taken_by slot new.inboxes.items) ≡ w.taken slot + 1 = omega (arith, ap length t.taken, length-append taken (t.entry.want ∷ []), f.slots.judged slot) in
    let e : Entry = record { slot = slot; serial = w.taken slot + 1; want = t.entry.want; verdict = c.in-Taken.verdict } in
    let serial : t.entry.serial ≡ w.taken slot + 1 = t.serial ∙ more in
    let same : t.entry ≡ e = λ i. record { slot = t.of i; serial = serial i; want = t.entry.want; verdict = t.told i } in
    let open' : new.batch.entries ≡ mid.sequencer.batch.entries ++ e ∷ [] = t.entries ∙ ap (λ x. mid.sequencer.batch.entries ++ x ∷ []) same in
    let sealed = entries_in (sealed_of mid.sequencer.ends) in
    let up = with_at w.taken slot (w.taken slot + 1) in
    opened_as _ _ _ (ap (λ (o : Option Want). with_entry w slot (entry_for w slot o c.in-Taken.verdict)) (sym get)) (record {
      opened = o.opened;
      going = o.going;
      trying = o.trying;
      fits = record {
        slots = record {
          requests = f.slots.requests;
          judged = λ s. elim (same_or_not s slot) [
            | inl q ↦ ap (λ n. length (taken_by n new.inboxes.items)) q ∙ (more ∙ sym (with_here w.taken slot (w.taken slot + 1) s q))
            | inr n ↦ ap (λ x. length (taken_in x)) (t.others s n) ∙ (f.slots.judged s ∙ sym (with_there w.taken slot (w.taken slot + 1) s n))
          ];
          notes = f.slots.notes;
          receipts = f.slots.receipts;
          few = f.slots.few;
        };
        batches = record {
          entries = open' ∙ ap (λ l. l ++ e ∷ []) f.batches.entries;
          waiting = ap (λ s. entries_of (sealed_of s)) seals.1 ∙ f.batches.waiting;
          held = f.batches.held;
          spared = omega (arith, ap (λ s. length (emptied_of s)) seals.1, ap spares seals.2, f.batches.spared);
          eight = f.batches.eight;
        };
        lists = record {
          opened = f.lists.opened;
          judged_from = seals.0 ∙ f.lists.judged_from;
          stored_from = f.lists.stored_from;
          all = ap (λ l. l ++ accepted_of (e ∷ [])) f.lists.all ∙ (append_assoc f.lists.opened (accepted_of (sealed ++ mid.sequencer.batch.entries)) (accepted_of (e ∷ []))
              ∙ ap (λ l. f.lists.opened ++ l) (sym (accepted_append (sealed ++ mid.sequencer.batch.entries) (e ∷ [])) ∙ ap accepted_of (append_assoc sealed mid.sequencer.batch.entries (e ∷ []) ∙ (ap (λ l. sealed ++ l) (sym open') ∙ ap (λ s. entries_in (sealed_of s) ++ new.batch.entries) (sym seals.1)))));
          kept = f.lists.kept;
          shown = f.lists.shown;
          enough = f.lists.enough;
        };
      };
    })

pub invariant_of-self : goal.invariant_of-self
invariant_of-self g c =
    let p = c.tell_all.new.self in
    let t = c.take in
    record {
      count = p.count;
      inboxes = λ s few. still_inbox _ _ (t.ensures.inboxes s) (p.inboxes s few);
      outboxes = p.outboxes;
      requests = λ s k i here there. let b = back_inbox (inbox_at s p.sequencer.inboxes.items) (inbox_at s t.new.self.inboxes.items) i (t.ensures.inboxes s) there in
          ring_trans k.requests.end b.0.requests.end i.requests.end (p.requests s k b.0 here b.1) b.2.0.0;
      replies = p.replies;
      batches = subst (λ e. AreBatchEnds e p.flusher.fetch) (sym t.ensures.seals.1) p.batches;
      bases = t.ensures.seals.0 ∙ p.bases;
    }
