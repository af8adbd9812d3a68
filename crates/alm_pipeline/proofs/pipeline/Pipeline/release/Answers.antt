use Rattle.std.proofs.Common.{suc, ◌≡◌, inl, inr, ◌+◌, ◌-◌, ◌∙◌, ◌++◌, ◌∷◌, [], ℕ, Option, Some, drop, length, ap, sym, subst, refl, arith, length-append}
use Rattle.std.proofs.Math.Nat.{max-le}
use Rattle.std.proofs.lemmas.Option.{same_Some}
use Rattle.alm_types.specs.declared.entry.Entry.{Entry}
use Rattle.alm_model.specs.Judging.{accepted_of, entries_in}
use Rattle.alm_model.proofs.Runs.{run_count}
use Rattle.alm_board.specs.Logs.{actions_of}
use Rattle.alm_rings.specs.Placed.{outbox_at, released_in, released_by, room_by, taken_by, waiting_by}
use Rattle.alm_rings.specs.Batches.{AreBatchEnds, fetched_of, given_of}
use Rattle.alm_flush.specs.HeldBatch.{stored_of, published_entries, left_of, after_release, next_entry_of}
use Rattle.alm_flush.proofs.HeldLaws.{stored_pass, shown_pass}
use Rattle.alm_pipeline.specs.World.{BatchStage, Shown, Note, HasVerdicts, goes_to, next_entry, next_notes, note_of, raise, told_more, tells, with_at}
use Rattle.alm_flush.specs.Flushes.{IsGivenUp}
use Rattle.alm_pipeline.specs.Matches.{stage_of, entries_of, note, notes_of, batch_held_at}
use Rattle.alm_pipeline.proofs.Moved.{opened_as}
use Rattle.alm_pipeline.proofs.Counts.{notes_append, released_lt}
use Rattle.alm_pipeline.proofs.Ready.{something_left, published_at, next_at_is}
use Rattle.alm_pipeline.proofs.Placing.{some_there, still_outbox, back_outbox, ring_trans, ring_sym, same_or_not, with_here, with_there}
use Rattle.alm_pipeline.proofs.pipeline.Pipeline.release.Goals as goal

pub invariant_of-self : goal.invariant_of-self
invariant_of-self g c =
    let p = c.tell_all.new.self in
    let r = c.release in
    let same = r.ensures.same in
    record {
      count = p.count;
      inboxes = p.inboxes;
      outboxes = λ s few. still_outbox _ _ (r.ensures.ends s) (p.outboxes s few);
      requests = p.requests;
      replies = λ s k o here there. let b = back_outbox (outbox_at s p.flusher.outboxes.items) (outbox_at s r.new.self.outboxes.items) o (r.ensures.ends s) there in
          ring_trans o.replies.end b.0.replies.end k.replies.end (ring_sym b.0.replies.end o.replies.end b.2.0.0) (p.replies s k b.0 here b.1);
      batches = subst (λ f. AreBatchEnds p.sequencer.ends f) (sym same.3) p.batches;
      bases = p.bases ∙ sym (ap (λ b. b.base.value) same.1);
    }

pub returns-in-Full-clause-answer : goal.returns-in-Full-clause-answer
returns-in-Full-clause-answer g c = λ w m possible.
    let p = c.tell_all.new.self in
    let f = (c.tell_all.ensures.«open» w m).fits in
    let a = c.in-Full.ensures.answer in
    let s = c.in-Some.entry.slot in
    let next : next_entry_of p.flusher.held ≡ Some c.in-Some.entry = ap next_entry_of c.tell_all.ensures.held ∙ sym c.in-Some.ensures in
    let of : c.in-Full.field-0 ≡ s = sym a.of ∙ ap (λ (e : Entry). e.slot) (same_Some a.entry c.in-Some.entry (sym a.next ∙ next)) in
    let outs = p.flusher.outboxes.items in
    let none : room_by s outs ≡ 0 = subst (λ (n : ℕ). room_by n outs ≡ 0) of a.cause in
    let k = some_there _ c.tell_all.ensures.there in
    let n = c.tell_all.ensures.knows.0 k.0 k.1 in
    let less = released_lt p c.tell_all.ensures.knows.1 s c.in-Some.entry next refl in
    let all : length (taken_by s p.sequencer.inboxes.items) + length (waiting_by s p.sequencer.inboxes.items) ≡ length (w.sent s) = sym (length-append (taken_by s p.sequencer.inboxes.items) (waiting_by s p.sequencer.inboxes.items)) ∙ (ap length n.requests ∙ ap length (f.slots.requests s k.0 k.1)) in
    absurd (omega (arith, none, less, all, n.reply_room, f.slots.few s, f.slots.receipts s k.0 k.1))

pub returns-in-Released-clause-answer : goal.returns-in-Released-clause-answer
returns-in-Released-clause-answer g c = λ w m.
    let mid = c.tell_all.new.self in
    let o = c.tell_all.ensures.«open» w m in
    let a = c.in-Released.ensures.answer in (
      (o.opened, subst HasVerdicts o.fits.batches.held (something_left mid.flusher.held a.entry a.next)),
      subst (λ (e : Option Entry). goes_to e c.in-Released.slot) (sym (next_at_is mid.flusher.held a.entry a.next) ∙ ap (λ (s : BatchStage). next_entry s) o.fits.batches.held) a.of,
    )

pub returns-in-Released-clause-fits : goal.returns-in-Released-clause-fits
returns-in-Released-clause-fits g c = λ w m.
    let p = c.tell_all.new.self in
    let o = c.tell_all.ensures.«open» w m in
    let f = o.fits in
    let l = f.lists in
    let new = c.release.new.self in
    let same = c.in-Released.ensures.same in
    let a = c.in-Released.ensures.answer in
    let slot = c.in-Released.slot in
    let at = published_at p.flusher.held a.entry a.next in
    let items = at.0.entries in
    let n = at.1 in
    let before = entries_in (fetched_of p.flusher.before.value) in
    let shown = accepted_of (before ++ published_entries p.flusher.held) in
    let stage : w.stage ≡ Shown items n = sym f.batches.held ∙ ap stage_of at.2 in
    let total = w.base.panel.count + length w.published in
    let next : Note = record { serial = a.entry.serial; verdict = a.entry.verdict; number = total - length (accepted_of (drop (suc n) items)) } in
    let notes : next_notes w w.stage ≡ next ∷ [] = ap (next_notes w) stage ∙ ap (note_of w items n) at.3 in
    let left : length (left_of p.flusher.held) ≡ length (accepted_of (drop (suc n) items)) = ap (λ h. length (left_of h)) at.2 in
    let num : a.receipt.number + length (left_of p.flusher.held) ≡ p.flusher.board.base.value.panel.count + length (actions_of p.flusher.board.log) = a.number in
    let log : length (actions_of p.flusher.board.log) ≡ length shown = ap length p.flusher.published in
    let number : a.receipt.number ≡ total - length (accepted_of (drop (suc n) items)) =
    omega (arith, num, left, ap (λ q. q.panel.count) l.stored_from, run_count w.base l.opened, log, ap length l.shown, length-append l.opened shown) in
    let one : note a.receipt ≡ next = λ i. record { serial = a.serial i; verdict = a.verdict i; number = number i } in
    let held : new.held ≡ after_release p.flusher.held = a.held in
    let list = w.released slot ++ next ∷ [] in
    let world : record w { stage = told_more (Shown items n); released = with_at w.released slot list; floor = raise w.floor (next ∷ []) } ≡ tells w slot (next_notes w w.stage) =
    λ i. record w { stage = told_more (sym stage i); released = with_at w.released slot (w.released slot ++ sym notes i); floor = raise w.floor (sym notes i) } in
    opened_as _ _ _ world (record {
      opened = o.opened;
      going = λ e. o.going (ap (λ k. (g.K.Store.state k).phase) (sym same.0) ∙ e);
      trying = λ x. subst IsGivenUp (held ∙ ap after_release at.2) x;
      fits = record {
        slots = record {
          requests = f.slots.requests;
          judged = f.slots.judged;
          notes = λ s. elim (same_or_not s slot) [
            | inl q ↦ ap (λ x. notes_of (released_by x new.outboxes.items)) q ∙ (ap notes_of a.released ∙ (notes_append (released_by slot p.flusher.outboxes.items) (a.receipt ∷ []) ∙ ((λ i. f.slots.notes slot i ++ one i ∷ []) ∙ sym (with_here w.released slot list s q))))
            | inr d ↦ ap (λ x. notes_of (released_in x)) (a.others s d) ∙ (f.slots.notes s ∙ sym (with_there w.released slot list s d))
          ];
          receipts = f.slots.receipts;
          few = f.slots.few;
        };
        batches = record {
          entries = f.batches.entries;
          waiting = f.batches.waiting ∙ ap (λ e. entries_of (fetched_of e) ++ w.sealed) (sym same.3);
          held = ap stage_of (held ∙ ap after_release at.2);
          spared = f.batches.spared ∙ omega (arith, ap (λ e. length (given_of e)) same.3);
          eight = omega (arith, f.batches.eight, ap batch_held_at stage);
        };
        lists = record {
          opened = l.opened;
          judged_from = l.judged_from;
          stored_from = ap (λ b. b.base.value) same.1 ∙ l.stored_from;
          all = l.all;
          kept = l.kept ∙ (ap (λ x. l.opened ++ accepted_of (before ++ x)) (sym (ap stored_of held ∙ stored_pass p.flusher.held)) ∙ ap (λ e. l.opened ++ accepted_of (entries_in (fetched_of e) ++ stored_of new.held)) (sym same.2));
          shown = l.shown ∙ (ap (λ x. l.opened ++ accepted_of (before ++ x)) (sym (ap published_entries held ∙ shown_pass p.flusher.held)) ∙ ap (λ e. l.opened ++ accepted_of (entries_in (fetched_of e) ++ published_entries new.held)) (sym same.2));
          enough = max-le l.enough (omega arith);
        };
      };
    })

pub returns-in-Full-clause-fits : goal.returns-in-Full-clause-fits
returns-in-Full-clause-fits g c = λ w m.
    let p = c.tell_all.new.self in
    let o = c.tell_all.ensures.«open» w m in
    let f = o.fits in
    let l = f.lists in
    let same = c.in-Full.ensures.same in
    let a = c.in-Full.ensures.answer in
    record {
      opened = o.opened;
      going = λ e. o.going (ap (λ k. (g.K.Store.state k).phase) (sym same.0) ∙ e);
      trying = λ x. o.trying (subst IsGivenUp a.held x);
      fits = record {
        slots = record { requests = f.slots.requests; judged = f.slots.judged; notes = λ s. ap notes_of (a.released s) ∙ f.slots.notes s; receipts = f.slots.receipts; few = f.slots.few };
        batches = record {
          entries = f.batches.entries;
          waiting = f.batches.waiting ∙ ap (λ e. entries_of (fetched_of e) ++ w.sealed) (sym same.3);
          held = ap stage_of a.held ∙ f.batches.held;
          spared = f.batches.spared ∙ omega (arith, ap (λ e. length (given_of e)) same.3);
          eight = f.batches.eight;
        };
        lists = record {
          opened = l.opened;
          judged_from = l.judged_from;
          stored_from = ap (λ b. b.base.value) same.1 ∙ l.stored_from;
          all = l.all;
          kept = l.kept ∙ (λ i. l.opened ++ accepted_of (entries_in (fetched_of (sym same.2 i)) ++ stored_of (sym a.held i)));
          shown = l.shown ∙ (λ i. l.opened ++ accepted_of (entries_in (fetched_of (sym same.2 i)) ++ published_entries (sym a.held i)));
          enough = l.enough;
        };
      };
    }
