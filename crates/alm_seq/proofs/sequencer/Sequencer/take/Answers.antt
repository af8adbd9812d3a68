use Rattle.std.proofs.Common.{◌≡◌, ◌++◌, ◌∷◌, [], ap, sym, ◌∙◌, refl, subst, length, append_assoc}
use Rattle.std.specs.List.{range_with_len}
use Rattle.std.proofs.lemmas.Option.{slice_get_read}
use Rattle.alm_types.specs.declared.entry.Entry.{Entry}
use Rattle.alm_model.specs.Judging.{IsLegal, accepted_of, after_verdict, entries_in, of_slot, wants_of, serials_of, verdict_of, request_of}
use Rattle.alm_model.specs.Step.{run}
use Rattle.alm_model.proofs.Legal.{legal_snoc, run_snoc}
use Rattle.alm_rings.specs.Batches.{sealed_of}
use Rattle.std.specs.Prelude.{slice_set}
use Rattle.alm_rings.specs.declared.inbox.Inbox.{Inbox}
use Rattle.alm_rings.specs.Placed.{end_at, taken_in, known_to}
use Rattle.alm_rings.proofs.Slots.{placed_apart, placed_set, set_by, same_inboxes, found, set_same, set_other}
use Rattle.alm_seq.proofs.Taken.{wants_more, serials_more, none_known, not_full}
use Rattle.alm_seq.proofs.sequencer.Sequencer.take.Goals as goal

pub invariant_of-self : goal.invariant_of-self
invariant_of-self g c =
    let old = c.args.self.now in
    let inboxes = old.inboxes.items in
    let k = c.place-place.result in
    let i = c.index_mut-inbox.result.now in
    let at = slice_get_read inboxes _ k i refl c.place-place.ensures.limit c.index_mut-inbox.ensures.value in
    let same = c.take.ensures.end.1 in
    let apart = placed_apart (λ i. i.slot) inboxes old.places old.placed in
    let still = set_by (λ i. i.slot) taken_in inboxes k i c.take.new.self apart at same c.in-None.ensures.none.0 in
    record {
      placed = placed_set (λ i. i.slot) inboxes old.places k i c.take.new.self old.placed at same;
      legal = old.legal;
      wants = λ s. old.wants s ∙ sym (still s);
      serials = λ s. old.serials s ∙ ap (λ l. range_with_len 1 (length l)) (sym (still s));
      live = old.live;
      most = old.most;
      firsts = old.firsts;
      first = old.first;
    }

pub returns-in-None-clause-inboxes : goal.returns-in-None-clause-inboxes
returns-in-None-clause-inboxes g c =
    let old = c.args.self.now in
    let inboxes = old.inboxes.items in
    let i = c.index_mut-inbox.result.now in
    let at = slice_get_read inboxes _ c.place-place.result i refl c.place-place.ensures.limit c.index_mut-inbox.ensures.value in
    same_inboxes inboxes c.place-place.result i c.take.new.self (placed_apart (λ i. i.slot) inboxes old.places old.placed) at c.take.ensures.end

pub returns-in-None-clause-answer : goal.returns-in-None-clause-answer
returns-in-None-clause-answer g c =
    let old = c.args.self.now in
    let inboxes = old.inboxes.items in
    let k = c.place-place.result in
    let i = c.index_mut-inbox.result.now in
    let at = slice_get_read inboxes _ k i refl c.place-place.ensures.limit c.index_mut-inbox.ensures.value in
    let same = c.take.ensures.end.1 in
    let apart = placed_apart (λ i. i.slot) inboxes old.places old.placed in (
      refl,
      set_by (λ i. i.slot) taken_in inboxes k i c.take.new.self apart at same c.in-None.ensures.none.0,
      set_by (λ i. i.slot) known_to inboxes k i c.take.new.self apart at same c.in-None.ensures.none.1,
      none_known inboxes k i c.args.slot apart at (c.place-place.ensures.slot i at) (λ some. (let is = c.in-None.ensures.cause some in cc is)),
    )

pub invariant_of-self-in-Some : goal.invariant_of-self-in-Some
invariant_of-self-in-Some g c =
    let old = c.args.self.now in
    let inboxes = old.inboxes.items in
    let k = c.place-place.result in
    let i = c.index_mut-inbox.result.now in
    let new = c.take.new.self in
    let at = slice_get_read inboxes _ k i refl c.place-place.ensures.limit c.index_mut-inbox.ensures.value in
    let same = c.take.ensures.end.1 in
    let apart = placed_apart (λ i. i.slot) inboxes old.places old.placed in
    let sealed = entries_in (sealed_of old.ends) in
    let before = sealed ++ old.batch.entries in
    let e : Entry = record { slot = c.args.slot; serial = c.in-Some.serial; want = c.in-Some.want; verdict = c.judge_into-verdict.result } in
    let all : sealed ++ c.judge_into-verdict.new.batch.entries ≡ before ++ e ∷ [] =
    ap (λ l. sealed ++ l) c.judge_into-verdict.ensures.entries ∙ sym (append_assoc sealed old.batch.entries (e ∷ [])) in
    let judged : e.verdict ≡ verdict_of (run (g.P.Alarms.plant old.base.value) (accepted_of before)) (request_of e) =
    c.judge_into-verdict.ensures.verdict ∙ ap (λ p. verdict_of p (request_of e)) old.live in
    let slot = c.place-place.ensures.slot i at in
    record {
      placed = placed_set (λ i. i.slot) inboxes old.places k i new old.placed at same;
      legal = subst (IsLegal (g.P.Alarms.plant old.base.value)) (sym all) (legal_snoc (g.P.Alarms.plant old.base.value) before e old.legal judged);
      wants = λ s. ap (λ l. wants_of (of_slot s l)) all ∙ wants_more inboxes k i new before e apart at same slot c.in-Some.ensures.some.0 old.wants s;
      serials = λ s. ap (λ l. serials_of (of_slot s l)) all ∙ serials_more inboxes k i new before e apart at same slot c.in-Some.ensures.some.0 c.in-Some.ensures.some.1 old.serials s;
      live = c.judge_into-verdict.ensures.after ∙ (ap (λ p. after_verdict p e.verdict) old.live ∙ (sym (run_snoc (g.P.Alarms.plant old.base.value) before e) ∙ ap (λ l. run (g.P.Alarms.plant old.base.value) (accepted_of l)) (sym all)));
      most = c.judge_into-verdict.ensures.most old.most;
      firsts = old.firsts;
      first = c.judge_into-verdict.ensures.first ∙ old.first;
    }

pub returns-in-Some-clause-inboxes : goal.returns-in-Some-clause-inboxes
returns-in-Some-clause-inboxes g c =
    let old = c.args.self.now in
    let inboxes = old.inboxes.items in
    let i = c.index_mut-inbox.result.now in
    let at = slice_get_read inboxes _ c.place-place.result i refl c.place-place.ensures.limit c.index_mut-inbox.ensures.value in
    same_inboxes inboxes c.place-place.result i c.take.new.self (placed_apart (λ i. i.slot) inboxes old.places old.placed) at c.take.ensures.end

pub returns-in-Some-clause-answer : goal.returns-in-Some-clause-answer
returns-in-Some-clause-answer g c =
    let old = c.args.self.now in
    let inboxes = old.inboxes.items in
    let k = c.place-place.result in
    let i = c.index_mut-inbox.result.now in
    let new = c.take.new.self in
    let at = slice_get_read inboxes _ k i refl c.place-place.ensures.limit c.index_mut-inbox.ensures.value in
    let same = c.take.ensures.end.1 in
    let apart = placed_apart (λ i. i.slot) inboxes old.places old.placed in
    let slot = c.place-place.ensures.slot i at in
    let here = ap (λ s. end_at (λ (i : Inbox). i.slot) s inboxes) (sym slot) ∙ found (λ i. i.slot) inboxes k i apart at in
    let now = ap (λ s. end_at (λ (i : Inbox). i.slot) s (slice_set inboxes k new)) (sym slot) ∙ set_same (λ i. i.slot) inboxes k i new apart at same in
    let e : Entry = record { slot = c.args.slot; serial = c.in-Some.serial; want = c.in-Some.want; verdict = c.judge_into-verdict.result } in (
      not_full _ _ c.is_full.ensures.full c.if-is_full.false c.is_full.ensures.limit,
      record {
        entry = e;
        of = refl;
        entries = c.judge_into-verdict.ensures.entries;
        taken = ap taken_in now ∙ (c.in-Some.ensures.some.0 ∙ ap (λ o. taken_in o ++ e.want ∷ []) (sym here));
        others = λ s other. set_other (λ i. i.slot) inboxes k i new s at same (λ p. other (p ∙ slot));
        serial = c.in-Some.ensures.some.1 ∙ ap (λ o. length (taken_in o)) (sym now);
        told = refl;
        judged = c.judge_into-verdict.ensures.verdict ∙ ap (λ p. verdict_of p (request_of e)) old.live;
        next = rw (here, now) c.in-Some.ensures.known;
      },
    )
