use Rattle.std.proofs.Common.{ap, sym, ◌∙◌, refl, subst, length, arith}
use Rattle.std.specs.Prelude.{slice_get, slice_set}
use Rattle.std.proofs.lemmas.Option.{slice_get_read, same_Some}
use Rattle.alm_rings.specs.declared.outbox.Outbox.{Outbox}
use Rattle.alm_rings.specs.Placed.{end_at, released_in, room_at}
use Rattle.alm_rings.proofs.Slots.{placed_apart, placed_set, back_set, set_by, same_outboxes, found, set_same, set_other}
use Rattle.alm_flush.specs.Replies.{replies_in}
use Rattle.rtrb.specs.Ring.{IsPair}
use Rattle.alm_flush.proofs.flusher.Flusher.replies_beside.Goals as goal

pub replies_beside-requires : goal.replies_beside-requires
replies_beside-requires g c =
    let old = c.args.self.now in
    let outboxes = old.outboxes.items in
    let k = c.place-place.result in
    let o = c.index_mut.result.now in
    let at = slice_get_read outboxes _ k o refl (omega (arith, c.if-place-len.true, c.len.ensures)) c.index_mut.ensures.value in
    let apart = placed_apart (λ o. o.slot) outboxes old.places old.placed in
    let slot = c.place-place.ensures.slot o at in
    let here = ap (λ s. end_at (λ (o : Outbox _ g.T.Told). o.slot) s outboxes) (sym slot) ∙ found (λ o. o.slot) outboxes k o apart at in
    c.requires.ends o here

pub invariant_of-self : goal.invariant_of-self
invariant_of-self g c =
    let old = c.args.self.now in
    let outboxes = old.outboxes.items in
    let k = c.place-place.result in
    let o = c.index_mut.result.now in
    let new = c.replies_beside.new.outbox in
    let at = slice_get_read outboxes _ k o refl (omega (arith, c.if-place-len.true, c.len.ensures)) c.index_mut.ensures.value in
    let same = c.replies_beside.ensures.same.1.1 in
    let apart = placed_apart (λ o. o.slot) outboxes old.places old.placed in
    let slot = c.place-place.ensures.slot o at in
    let still = set_by (λ o. o.slot) released_in outboxes k o new apart at same c.replies_beside.ensures.released.1 in
    record {
      placed = placed_set (λ o. o.slot) outboxes old.places k o new old.placed at same;
      back = back_set (λ o. o.slot) outboxes old.places k o new old.back at same;
      held_is = old.held_is;
      stored = old.stored;
      published = old.published;
      logged = old.logged;
      pending = old.pending;
      released = λ s. ap replies_in (still s) ∙ old.released s;
      number_is = old.number_is;
      numbers = λ s j r is. old.numbers s j r (ap (λ l. slice_get l j) (sym (still s)) ∙ is);
      idle = old.idle;
      next = old.next;
      admitted = old.admitted;
      ready = old.ready;
      either = old.either;
    }

pub returns-then-place-len-clause-released : goal.returns-then-place-len-clause-released
returns-then-place-len-clause-released g c =
    let old = c.args.self.now in
    let outboxes = old.outboxes.items in
    let k = c.place-place.result in
    let o = c.index_mut.result.now in
    let new = c.replies_beside.new.outbox in
    let at = slice_get_read outboxes _ k o refl (omega (arith, c.if-place-len.true, c.len.ensures)) c.index_mut.ensures.value in
    let same = c.replies_beside.ensures.same.1.1 in
    let apart = placed_apart (λ o. o.slot) outboxes old.places old.placed in
    let slot = c.place-place.ensures.slot o at in
    set_by (λ o. o.slot) released_in outboxes k o new apart at same c.replies_beside.ensures.released.1

pub returns-then-place-len-clause-outboxes : goal.returns-then-place-len-clause-outboxes
returns-then-place-len-clause-outboxes g c =
    let old = c.args.self.now in
    let outboxes = old.outboxes.items in
    let k = c.place-place.result in
    let o = c.index_mut.result.now in
    let new = c.replies_beside.new.outbox in
    let at = slice_get_read outboxes _ k o refl (omega (arith, c.if-place-len.true, c.len.ensures)) c.index_mut.ensures.value in
    let same = c.replies_beside.ensures.same.1.1 in
    let apart = placed_apart (λ o. o.slot) outboxes old.places old.placed in
    let slot = c.place-place.ensures.slot o at in
    same_outboxes outboxes k o new apart at c.replies_beside.ensures.same.1

pub returns-then-place-len-clause-others : goal.returns-then-place-len-clause-others
returns-then-place-len-clause-others g c = λ s other.
    let old = c.args.self.now in
    let outboxes = old.outboxes.items in
    let k = c.place-place.result in
    let o = c.index_mut.result.now in
    let new = c.replies_beside.new.outbox in
    let at = slice_get_read outboxes _ k o refl (omega (arith, c.if-place-len.true, c.len.ensures)) c.index_mut.ensures.value in
    let same = c.replies_beside.ensures.same.1.1 in
    let apart = placed_apart (λ o. o.slot) outboxes old.places old.placed in
    let slot = c.place-place.ensures.slot o at in
    set_other (λ o. o.slot) outboxes k o new s at same (λ p. other (p ∙ slot))

pub returns-then-place-len-clause-ends : goal.returns-then-place-len-clause-ends
returns-then-place-len-clause-ends g c = λ p is.
    let old = c.args.self.now in
    let outboxes = old.outboxes.items in
    let k = c.place-place.result in
    let o = c.index_mut.result.now in
    let new = c.replies_beside.new.outbox in
    let at = slice_get_read outboxes _ k o refl (omega (arith, c.if-place-len.true, c.len.ensures)) c.index_mut.ensures.value in
    let same = c.replies_beside.ensures.same.1.1 in
    let apart = placed_apart (λ o. o.slot) outboxes old.places old.placed in
    let slot = c.place-place.ensures.slot o at in
    let now = ap (λ s. end_at (λ (o : Outbox _ g.T.Told). o.slot) s (slice_set outboxes k new)) (sym slot) ∙ set_same (λ o. o.slot) outboxes k o new apart at same in
    subst (λ (x : Outbox _ g.T.Told). IsPair x.replies c.replies_beside.new.console.replies) (same_Some new p (sym now ∙ is)) c.replies_beside.ensures.ends

pub returns-then-place-len-clause-replies : goal.returns-then-place-len-clause-replies
returns-then-place-len-clause-replies g c =
    let old = c.args.self.now in
    let outboxes = old.outboxes.items in
    let k = c.place-place.result in
    let o = c.index_mut.result.now in
    let new = c.replies_beside.new.outbox in
    let at = slice_get_read outboxes _ k o refl (omega (arith, c.if-place-len.true, c.len.ensures)) c.index_mut.ensures.value in
    let same = c.replies_beside.ensures.same.1.1 in
    let apart = placed_apart (λ o. o.slot) outboxes old.places old.placed in
    let slot = c.place-place.ensures.slot o at in
    let now = ap (λ s. end_at (λ (o : Outbox _ g.T.Told). o.slot) s (slice_set outboxes k new)) (sym slot) ∙ set_same (λ o. o.slot) outboxes k o new apart at same in
    c.replies_beside.ensures.replies ∙ sym (ap released_in now)

pub returns-then-place-len-clause-room : goal.returns-then-place-len-clause-room
returns-then-place-len-clause-room g c =
    let old = c.args.self.now in
    let outboxes = old.outboxes.items in
    let k = c.place-place.result in
    let o = c.index_mut.result.now in
    let new = c.replies_beside.new.outbox in
    let at = slice_get_read outboxes _ k o refl (omega (arith, c.if-place-len.true, c.len.ensures)) c.index_mut.ensures.value in
    let same = c.replies_beside.ensures.same.1.1 in
    let apart = placed_apart (λ o. o.slot) outboxes old.places old.placed in
    let slot = c.place-place.ensures.slot o at in
    let now = ap (λ s. end_at (λ (o : Outbox _ g.T.Told). o.slot) s (slice_set outboxes k new)) (sym slot) ∙ set_same (λ o. o.slot) outboxes k o new apart at same in
    omega (arith, ap room_at now, ap (λ o. length (released_in o)) now, c.replies_beside.ensures.room)
