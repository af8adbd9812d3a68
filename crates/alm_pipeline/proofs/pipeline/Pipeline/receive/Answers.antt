use Rattle.std.proofs.Common.{◌≡◌, ⊎_elim, inl, inr, ◌<◌, ◌≤◌, ◌+◌, ◌++◌, ◌∷◌, [], List, ℕ, Some, Option, slice_get, length, ap, sym, subst, ◌∙◌, refl, arith, length-append}
use Rattle.std.proofs.lemmas.Bool.{cases_lt}
use Rattle.std.proofs.lemmas.List.{length-set}
use Rattle.std.proofs.lemmas.Option.{slice_get_read, same_Some}
use Rattle.rtrb.specs.Ring.{IsPair}
use Rattle.alm_rings.specs.declared.console.Console.{Console}
use Rattle.alm_rings.specs.Ends.{sent_of, received_of, coming_to}
use Rattle.alm_pipeline.proofs.Placing.{set_cases, still_requests, still_replies, same_or_not, with_here, with_there}
use Rattle.alm_pipeline.proofs.Counts.{notes_length, notes_seam}
use Rattle.alm_pipeline.proofs.Lists.{head_is}
use Rattle.alm_rings.specs.Placed.{released_by}
use Rattle.alm_pipeline.specs.World.{Note, says}
use Rattle.alm_pipeline.specs.Matches.{note, notes_of}
use Rattle.alm_pipeline.proofs.pipeline.Pipeline.receive.Goals as goal

pub invariant_of-self : goal.invariant_of-self
invariant_of-self g c =
    let p = c.tell_all.new.self in
    let cs = p.consoles.items in
    let at = c.number-place.result in
    let old = c.index_mut-console.result.now in
    let new = c.receive.new.self in
    let was = slice_get_read cs _ at old refl (omega (arith, c.number-place.ensures.limit, p.count)) c.index_mut-console.ensures.value in
    let same = c.receive.ensures.end in
    record {
      count = length-set cs at new ∙ p.count;
      inboxes = p.inboxes;
      outboxes = p.outboxes;
      requests = λ s k i here there. elim (set_cases cs s at new k here) [
        | inl h ↦ subst (λ (x : Console _ _). IsPair x.requests i.requests) h.1 (still_requests old new i same (p.requests s old i (ap (slice_get cs) h.0 ∙ was) there))
        | inr o ↦ p.requests s k i o.1 there
      ];
      replies = λ s k x here there. elim (set_cases cs s at new k here) [
        | inl h ↦ subst (λ (y : Console _ _). IsPair x.replies y.replies) h.1 (still_replies old new x same (p.replies s old x (ap (slice_get cs) h.0 ∙ was) there))
        | inr o ↦ p.replies s k x o.1 there
      ];
      batches = p.batches;
      bases = p.bases;
    }

pub returns-then-not-waits-clause-answer : goal.returns-then-not-waits-clause-answer
returns-then-not-waits-clause-answer g c = λ w m possible.
    let p = c.tell_all.new.self in
    let cs = p.consoles.items in
    let o = c.tell_all.ensures.«open» w m in
    let f = o.fits in
    let slot = c.args.slot in
    let at = c.number-place.result in
    let is = c.number-place.ensures.number in
    let first = c.index.result.now in
    let was1 = slice_get_read cs _ at first refl (omega (arith, c.number-place.ensures.limit, p.count)) c.index.ensures in
    let here1 : slice_get cs slot ≡ Some first = ap (slice_get cs) (sym is) ∙ was1 in
    let k = c.tell_all.ensures.knows.0 first here1 in
    ⊎_elim
    (λ (some : 0 < length (coming_to first)). absurd (cc (c.if-not-waits.ensures.1 some)))
    (λ (none : length (coming_to first) ≤ 0). absurd (omega (arith, none, ap length k.replies, length-append (received_of first) (coming_to first), f.slots.receipts slot first here1, ap length (f.slots.notes slot), notes_length (released_by slot p.flusher.outboxes.items), possible.1)))
    (cases_lt 0 (length (coming_to first)))

pub returns-in-Some-clause-answer : goal.returns-in-Some-clause-answer
returns-in-Some-clause-answer g c = λ w m.
    let p = c.tell_all.new.self in
    let cs = p.consoles.items in
    let o = c.tell_all.ensures.«open» w m in
    let f = o.fits in
    let slot = c.args.slot in
    let at = c.number-place.result in
    let is = c.number-place.ensures.number in
    let first = c.index.result.now in
    let was1 = slice_get_read cs _ at first refl (omega (arith, c.number-place.ensures.limit, p.count)) c.index.ensures in
    let here1 : slice_get cs slot ≡ Some first = ap (slice_get cs) (sym is) ∙ was1 in
    let old = c.index_mut-console.result.now in
    let was = slice_get_read cs _ at old refl (omega (arith, c.number-place.ensures.limit, p.count)) c.index_mut-console.ensures.value in
    let here : slice_get cs slot ≡ Some old = ap (slice_get cs) (sym is) ∙ was in
    let k = c.tell_all.ensures.knows.0 old here in
    let some : 0 < length (coming_to old) = subst (λ (x : Console _ _). 0 < length (coming_to x)) (same_Some first old (sym was1 ∙ was)) (c.if-not-waits.ensures.0 refl) in
    let r = c.in-Some.receipt in
    let h = head_is (coming_to old) (coming_to c.receive.new.self) r some c.in-Some.ensures.known in
    let next : slice_get (w.released slot) (w.received slot) ≡ Some (note r) =
    ap (λ (n : ℕ). slice_get (w.released slot) n) (sym (f.slots.receipts slot old here)) ∙ (ap (λ (l : List Note). slice_get l (length (received_of old))) (sym (f.slots.notes slot))
    ∙ (ap (λ l. slice_get (notes_of l) (length (received_of old))) (sym k.replies ∙ ap (λ l. received_of old ++ l) h.1) ∙ notes_seam (received_of old) h.0 r)) in (
      (o.opened, omega (arith, some, ap length k.replies, length-append (received_of old) (coming_to old), f.slots.receipts slot old here, ap length (f.slots.notes slot), notes_length (released_by slot p.flusher.outboxes.items))),
      subst (λ (n : Option Note). says n r.serial r.verdict r.number) (sym next) (refl, refl, refl),
    )

pub returns-in-Some-clause-fits : goal.returns-in-Some-clause-fits
returns-in-Some-clause-fits g c = λ w m.
    let p = c.tell_all.new.self in
    let cs = p.consoles.items in
    let o = c.tell_all.ensures.«open» w m in
    let f = o.fits in
    let slot = c.args.slot in
    let at = c.number-place.result in
    let is = c.number-place.ensures.number in
    let first = c.index.result.now in
    let was1 = slice_get_read cs _ at first refl (omega (arith, c.number-place.ensures.limit, p.count)) c.index.ensures in
    let here1 : slice_get cs slot ≡ Some first = ap (slice_get cs) (sym is) ∙ was1 in
    let old = c.index_mut-console.result.now in
    let was = slice_get_read cs _ at old refl (omega (arith, c.number-place.ensures.limit, p.count)) c.index_mut-console.ensures.value in
    let here : slice_get cs slot ≡ Some old = ap (slice_get cs) (sym is) ∙ was in
    let k = c.tell_all.ensures.knows.0 old here in
    let some : 0 < length (coming_to old) = subst (λ (x : Console _ _). 0 < length (coming_to x)) (same_Some first old (sym was1 ∙ was)) (c.if-not-waits.ensures.0 refl) in
    let new = c.receive.new.self in
    let more : length (received_of new) ≡ w.received slot + 1 = omega (arith, ap length c.in-Some.ensures.some, length-append (received_of old) (c.in-Some.receipt ∷ []), f.slots.receipts slot old here) in
    record {
      opened = o.opened;
      going = o.going;
      trying = o.trying;
      fits = record {
        slots = record {
          requests = λ s x there. elim (set_cases cs s at new x there) [
            | inl h ↦ ap sent_of (sym h.1) ∙ (c.in-Some.ensures.requests.0 ∙ (f.slots.requests at old was ∙ ap w.sent (sym h.0)))
            | inr n ↦ f.slots.requests s x n.1
          ];
          judged = f.slots.judged;
          notes = f.slots.notes;
          receipts = λ s x there. elim (set_cases cs s at new x there) [
            | inl h ↦ ap (λ y. length (received_of y)) (sym h.1) ∙ (more ∙ sym (with_here w.received slot (w.received slot + 1) s (h.0 ∙ is)))
            | inr n ↦ f.slots.receipts s x n.1 ∙ sym (with_there w.received slot (w.received slot + 1) s (λ q. n.0 (q ∙ sym is)))
          ];
          few = λ s. elim (same_or_not s slot) [
            | inl q ↦ omega (arith, f.slots.few s, with_here w.received slot (w.received slot + 1) s q, ap w.received q)
            | inr n ↦ omega (arith, f.slots.few s, with_there w.received slot (w.received slot + 1) s n)
          ];
        };
        batches = f.batches;
        lists = f.lists;
      };
    }

pub returns-in-None-clause-answer : goal.returns-in-None-clause-answer
returns-in-None-clause-answer g c = λ w m possible.
    let p = c.tell_all.new.self in
    let cs = p.consoles.items in
    let o = c.tell_all.ensures.«open» w m in
    let f = o.fits in
    let slot = c.args.slot in
    let at = c.number-place.result in
    let is = c.number-place.ensures.number in
    let first = c.index.result.now in
    let was1 = slice_get_read cs _ at first refl (omega (arith, c.number-place.ensures.limit, p.count)) c.index.ensures in
    let here1 : slice_get cs slot ≡ Some first = ap (slice_get cs) (sym is) ∙ was1 in
    let old = c.index_mut-console.result.now in
    let was = slice_get_read cs _ at old refl (omega (arith, c.number-place.ensures.limit, p.count)) c.index_mut-console.ensures.value in
    let here : slice_get cs slot ≡ Some old = ap (slice_get cs) (sym is) ∙ was in
    let k = c.tell_all.ensures.knows.0 old here in
    let some : 0 < length (coming_to old) = subst (λ (x : Console _ _). 0 < length (coming_to x)) (same_Some first old (sym was1 ∙ was)) (c.if-not-waits.ensures.0 refl) in
    absurd (cc (c.in-None.ensures.cause some))

pub returns-in-None-clause-fits : goal.returns-in-None-clause-fits
returns-in-None-clause-fits g c = λ w m.
    let p = c.tell_all.new.self in
    let cs = p.consoles.items in
    let o = c.tell_all.ensures.«open» w m in
    let f = o.fits in
    let slot = c.args.slot in
    let at = c.number-place.result in
    let is = c.number-place.ensures.number in
    let first = c.index.result.now in
    let was1 = slice_get_read cs _ at first refl (omega (arith, c.number-place.ensures.limit, p.count)) c.index.ensures in
    let here1 : slice_get cs slot ≡ Some first = ap (slice_get cs) (sym is) ∙ was1 in
    let old = c.index_mut-console.result.now in
    let was = slice_get_read cs _ at old refl (omega (arith, c.number-place.ensures.limit, p.count)) c.index_mut-console.ensures.value in
    let here : slice_get cs slot ≡ Some old = ap (slice_get cs) (sym is) ∙ was in
    let k = c.tell_all.ensures.knows.0 old here in
    let some : 0 < length (coming_to old) = subst (λ (x : Console _ _). 0 < length (coming_to x)) (same_Some first old (sym was1 ∙ was)) (c.if-not-waits.ensures.0 refl) in
    absurd (cc (c.in-None.ensures.cause some))
