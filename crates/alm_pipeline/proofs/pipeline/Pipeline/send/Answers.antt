use Rattle.std.proofs.Common.{◌≡◌, ⊎_elim, inl, inr, ◌<◌, ◌≤◌, ◌+◌, ◌^◌, ◌++◌, ◌∷◌, [], Some, slice_get, length, ap, sym, subst, ◌∙◌, refl, arith, length-append}
use Rattle.std.proofs.lemmas.Bool.{cases_lt}
use Rattle.std.proofs.lemmas.List.{length-set}
use Rattle.std.proofs.lemmas.Option.{slice_get_read}
use Rattle.rtrb.specs.Ring.{IsPair}
use Rattle.alm_rings.specs.declared.console.Console.{Console}
use Rattle.alm_rings.specs.Ends.{sent_of, received_of, coming_to}
use Rattle.alm_pipeline.proofs.Placing.{set_cases, still_requests, still_replies, same_or_not, with_here, with_there}
use Rattle.alm_pipeline.proofs.Counts.{released_le}
use Rattle.alm_pipeline.proofs.pipeline.Pipeline.send.Goals as goal

pub invariant_of-self : goal.invariant_of-self
invariant_of-self g c =
    let p = c.tell_all.new.self in
    let cs = p.consoles.items in
    let at = c.number.result in
    let old = c.index_mut-console.result.now in
    let new = c.send.new.self in
    let was = slice_get_read cs _ at old refl (omega (arith, c.number.ensures.limit, p.count)) c.index_mut-console.ensures.value in
    let same = c.send.ensures.end in
    record {
      count = length-set cs at new ∙ p.count;
      inboxes = p.inboxes;
      outboxes = p.outboxes;
      requests = λ s k i here there. elim (set_cases cs s at new k here) [
        | inl h ↦ subst (λ (x : Console _ _). IsPair x.requests i.requests) h.1 (still_requests old new i same (p.requests s old i (ap (slice_get cs) h.0 ∙ was) there))
        | inr o ↦ p.requests s k i o.1 there
      ];
      replies = λ s k x here there. elim (set_cases cs s at new k here) [
        | inl h ↦ subst (λ (y : Console _ _). IsPair x.replies y.replies) h.1 (still_replies old new x same (p.replies s old x (ap (slice_get cs) h.0 ∙ was) there))
        | inr o ↦ p.replies s k x o.1 there
      ];
      batches = p.batches;
      bases = p.bases;
    }

pub returns-in-Ok-clause-answer : goal.returns-in-Ok-clause-answer
returns-in-Ok-clause-answer g c = λ w m.
    let p = c.tell_all.new.self in
    let o = c.tell_all.ensures.«open» w m in
    let f = o.fits in
    let slot = c.args.slot in
    let old = c.index_mut-console.result.now in
    let was = slice_get_read p.consoles.items _ c.number.result old refl (omega (arith, c.number.ensures.limit, p.count)) c.index_mut-console.ensures.value in
    let at : slice_get p.consoles.items slot ≡ Some old = ap (slice_get p.consoles.items) (sym c.number.ensures.number) ∙ was in
    let sent = ap length (f.slots.requests slot old at) in
    let received = f.slots.receipts slot old at in
    let s = c.in-Ok.ensures.sent in
    (o.opened, omega (arith, c.in-Ok.ensures.few, sent, received), omega (arith, s.1, ap length s.0, length-append (sent_of old) (c.args.want ∷ []), sent))

pub returns-in-Ok-clause-fits : goal.returns-in-Ok-clause-fits
returns-in-Ok-clause-fits g c = λ w m.
    let p = c.tell_all.new.self in
    let cs = p.consoles.items in
    let o = c.tell_all.ensures.«open» w m in
    let f = o.fits in
    let slot = c.args.slot in
    let at = c.number.result in
    let new = c.send.new.self in
    let old = c.index_mut-console.result.now in
    let was = slice_get_read cs _ at old refl (omega (arith, c.number.ensures.limit, p.count)) c.index_mut-console.ensures.value in
    let is = c.number.ensures.number in
    let more = w.sent slot ++ c.args.want ∷ [] in
    let few = (returns-in-Ok-clause-answer g c w m).1 in
    record {
      opened = o.opened;
      going = o.going;
      trying = o.trying;
      fits = record {
        slots = record {
          requests = λ s k there. elim (set_cases cs s at new k there) [
            | inl h ↦ ap sent_of (sym h.1) ∙ (c.in-Ok.ensures.sent.0 ∙ (ap (λ l. l ++ c.args.want ∷ []) (f.slots.requests at old was ∙ ap w.sent is) ∙ sym (with_here w.sent slot more s (h.0 ∙ is))))
            | inr n ↦ f.slots.requests s k n.1 ∙ sym (with_there w.sent slot more s (λ q. n.0 (q ∙ sym is)))
          ];
          judged = f.slots.judged;
          notes = f.slots.notes;
          receipts = λ s k there. elim (set_cases cs s at new k there) [
            | inl h ↦ ap (λ x. length (received_of x)) (sym h.1) ∙ (ap length c.in-Ok.ensures.receipts.0 ∙ (f.slots.receipts at old was ∙ ap w.received (sym h.0)))
            | inr n ↦ f.slots.receipts s k n.1
          ];
          few = λ s. elim (same_or_not s slot) [
            | inl q ↦ omega (arith, few, ap length (with_here w.sent slot more s q), length-append (w.sent slot) (c.args.want ∷ []), ap w.received q)
            | inr n ↦ omega (arith, f.slots.few s, ap length (with_there w.sent slot more s n))
          ];
        };
        batches = f.batches;
        lists = f.lists;
      };
    }

pub returns-in-Err-clause-answer : goal.returns-in-Err-clause-answer
returns-in-Err-clause-answer g c = λ w m.
    let p = c.tell_all.new.self in
    let o = c.tell_all.ensures.«open» w m in
    let f = o.fits in
    let slot = c.args.slot in
    let old = c.index_mut-console.result.now in
    let was = slice_get_read p.consoles.items _ c.number.result old refl (omega (arith, c.number.ensures.limit, p.count)) c.index_mut-console.ensures.value in
    let at : slice_get p.consoles.items slot ≡ Some old = ap (slice_get p.consoles.items) (sym c.number.ensures.number) ∙ was in
    let k = c.tell_all.ensures.knows.0 old at in
    let sent = ap length (f.slots.requests slot old at) in
    let received = f.slots.receipts slot old at in
    let replies = ap length k.replies in (
      o.opened,
      ⊎_elim
          (λ (few : length (w.sent slot) < 64 + w.received slot). inr (⊎_elim
          (λ (left : length (w.sent slot) + 1 < 2 ^ 64). absurd (cc (c.in-Err.ensures.cause (omega (arith, few, sent, received)) (omega (arith, few, sent, received, k.room, released_le p c.tell_all.ensures.knows.1 slot, replies, length-append (received_of old) (coming_to old))) (omega (arith, left, sent)))))
          (λ (spent : 2 ^ 64 ≤ length (w.sent slot) + 1). spent)
          (cases_lt (length (w.sent slot) + 1) (2 ^ 64))))
          (λ (many : 64 + w.received slot ≤ length (w.sent slot)). inl many)
          (cases_lt (length (w.sent slot)) (64 + w.received slot)),
    )

pub returns-in-Err-clause-fits : goal.returns-in-Err-clause-fits
returns-in-Err-clause-fits g c = λ w m.
    let p = c.tell_all.new.self in
    let cs = p.consoles.items in
    let o = c.tell_all.ensures.«open» w m in
    let f = o.fits in
    let at = c.number.result in
    let new = c.send.new.self in
    let old = c.index_mut-console.result.now in
    let was = slice_get_read cs _ at old refl (omega (arith, c.number.ensures.limit, p.count)) c.index_mut-console.ensures.value in
    record {
      opened = o.opened;
      going = o.going;
      trying = o.trying;
      fits = record {
        slots = record {
          requests = λ s k there. elim (set_cases cs s at new k there) [
            | inl h ↦ ap sent_of (sym h.1) ∙ (c.in-Err.ensures.busy.1 ∙ (f.slots.requests at old was ∙ ap w.sent (sym h.0)))
            | inr n ↦ f.slots.requests s k n.1
          ];
          judged = f.slots.judged;
          notes = f.slots.notes;
          receipts = λ s k there. elim (set_cases cs s at new k there) [
            | inl h ↦ ap (λ x. length (received_of x)) (sym h.1) ∙ (ap length c.in-Err.ensures.receipts.0 ∙ (f.slots.receipts at old was ∙ ap w.received (sym h.0)))
            | inr n ↦ f.slots.receipts s k n.1
          ];
          few = f.slots.few;
        };
        batches = f.batches;
        lists = f.lists;
      };
    }
