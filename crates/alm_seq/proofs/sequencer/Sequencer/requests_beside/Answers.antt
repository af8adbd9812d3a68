use Rattle.std.proofs.Common.{◌++◌, ap, sym, ◌∙◌, refl, subst, length, arith}
use Rattle.std.specs.Prelude.{slice_set}
use Rattle.std.specs.List.{range_with_len}
use Rattle.std.proofs.lemmas.Option.{slice_get_read, same_Some}
use Rattle.alm_rings.specs.declared.inbox.Inbox.{Inbox}
use Rattle.alm_rings.specs.Placed.{end_at, taken_in, known_to}
use Rattle.alm_rings.proofs.Slots.{placed_apart, placed_set, set_by, same_inboxes, found, set_same, set_other}
use Rattle.rtrb.specs.Ring.{IsPair}
use Rattle.alm_seq.proofs.sequencer.Sequencer.requests_beside.Goals as goal

pub requests_beside-requires : goal.requests_beside-requires
requests_beside-requires g c =
    let old = c.args.self.now in
    let inboxes = old.inboxes.items in
    let i = c.index_mut.result.now in
    let at = slice_get_read inboxes _ c.place-place.result i refl c.place-place.ensures.limit c.index_mut.ensures.value in
    let here = ap (λ s. end_at (λ (i : Inbox). i.slot) s inboxes) (sym (c.place-place.ensures.slot i at)) ∙ found (λ i. i.slot) inboxes c.place-place.result i (placed_apart (λ i. i.slot) inboxes old.places old.placed) at in
    c.requires.ends i here

pub invariant_of-self : goal.invariant_of-self
invariant_of-self g c =
    let old = c.args.self.now in
    let inboxes = old.inboxes.items in
    let k = c.place-place.result in
    let i = c.index_mut.result.now in
    let at = slice_get_read inboxes _ k i refl c.place-place.ensures.limit c.index_mut.ensures.value in
    let same = c.requests_beside.ensures.same.1.1 in
    let still = set_by (λ i. i.slot) taken_in inboxes k i c.requests_beside.new.inbox (placed_apart (λ i. i.slot) inboxes old.places old.placed) at same c.requests_beside.ensures.sent.1 in
    record {
      placed = placed_set (λ i. i.slot) inboxes old.places k i c.requests_beside.new.inbox old.placed at same;
      legal = old.legal;
      wants = λ s. old.wants s ∙ sym (still s);
      serials = λ s. old.serials s ∙ ap (λ l. range_with_len 1 (length l)) (sym (still s));
      live = old.live;
      most = old.most;
      firsts = old.firsts;
      first = old.first;
    }

pub returns-clause-taken : goal.returns-clause-taken
returns-clause-taken g c =
    let old = c.args.self.now in
    let inboxes = old.inboxes.items in
    let i = c.index_mut.result.now in
    let at = slice_get_read inboxes _ c.place-place.result i refl c.place-place.ensures.limit c.index_mut.ensures.value in
    set_by (λ i. i.slot) taken_in inboxes c.place-place.result i c.requests_beside.new.inbox (placed_apart (λ i. i.slot) inboxes old.places old.placed) at c.requests_beside.ensures.same.1.1 c.requests_beside.ensures.sent.1

pub returns-clause-inboxes : goal.returns-clause-inboxes
returns-clause-inboxes g c =
    let old = c.args.self.now in
    let inboxes = old.inboxes.items in
    let i = c.index_mut.result.now in
    let at = slice_get_read inboxes _ c.place-place.result i refl c.place-place.ensures.limit c.index_mut.ensures.value in
    same_inboxes inboxes c.place-place.result i c.requests_beside.new.inbox (placed_apart (λ i. i.slot) inboxes old.places old.placed) at c.requests_beside.ensures.same.1

pub returns-clause-others : goal.returns-clause-others
returns-clause-others g c = λ s other.
    let old = c.args.self.now in
    let inboxes = old.inboxes.items in
    let i = c.index_mut.result.now in
    let at = slice_get_read inboxes _ c.place-place.result i refl c.place-place.ensures.limit c.index_mut.ensures.value in
    set_other (λ i. i.slot) inboxes c.place-place.result i c.requests_beside.new.inbox s at c.requests_beside.ensures.same.1.1 (λ p. other (p ∙ c.place-place.ensures.slot i at))

pub returns-clause-ends : goal.returns-clause-ends
returns-clause-ends g c = λ j is.
    let old = c.args.self.now in
    let inboxes = old.inboxes.items in
    let k = c.place-place.result in
    let i = c.index_mut.result.now in
    let new = c.requests_beside.new.inbox in
    let at = slice_get_read inboxes _ k i refl c.place-place.ensures.limit c.index_mut.ensures.value in
    let now = ap (λ s. end_at (λ (i : Inbox). i.slot) s (slice_set inboxes k new)) (sym (c.place-place.ensures.slot i at)) ∙ set_same (λ i. i.slot) inboxes k i new (placed_apart (λ i. i.slot) inboxes old.places old.placed) at c.requests_beside.ensures.same.1.1 in
    subst (λ (x : Inbox). IsPair c.requests_beside.new.console.requests x.requests) (same_Some new j (sym now ∙ is)) c.requests_beside.ensures.ends

pub returns-clause-requests : goal.returns-clause-requests
returns-clause-requests g c =
    let old = c.args.self.now in
    let inboxes = old.inboxes.items in
    let k = c.place-place.result in
    let i = c.index_mut.result.now in
    let new = c.requests_beside.new.inbox in
    let at = slice_get_read inboxes _ k i refl c.place-place.ensures.limit c.index_mut.ensures.value in
    let now = ap (λ s. end_at (λ (i : Inbox). i.slot) s (slice_set inboxes k new)) (sym (c.place-place.ensures.slot i at)) ∙ set_same (λ i. i.slot) inboxes k i new (placed_apart (λ i. i.slot) inboxes old.places old.placed) at c.requests_beside.ensures.same.1.1 in
    ap (λ o. taken_in o ++ known_to o) now ∙ c.requests_beside.ensures.requests

pub returns-clause-room : goal.returns-clause-room
returns-clause-room g c =
    let old = c.args.self.now in
    let inboxes = old.inboxes.items in
    let k = c.place-place.result in
    let i = c.index_mut.result.now in
    let new = c.requests_beside.new.inbox in
    let at = slice_get_read inboxes _ k i refl c.place-place.ensures.limit c.index_mut.ensures.value in
    let now = ap (λ s. end_at (λ (i : Inbox). i.slot) s (slice_set inboxes k new)) (sym (c.place-place.ensures.slot i at)) ∙ set_same (λ i. i.slot) inboxes k i new (placed_apart (λ i. i.slot) inboxes old.places old.placed) at c.requests_beside.ensures.same.1.1 in
    omega (arith, ap (λ o. length (taken_in o)) now, c.requests_beside.ensures.room)
