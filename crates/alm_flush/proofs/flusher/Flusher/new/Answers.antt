use Rattle.std.proofs.Common.{◌≡◌, ◌≢◌, ◌++◌, [], Some, ap, sym, ◌∙◌, refl, length, arith, inl, inr, eq-eqb}
use Rattle.std.specs.Prelude.{slice_get, slice_set, ◌==◌}
use Rattle.std.proofs.lemmas.Bool.{cases_lt, cases_Bool, eqb-true, true≢false}
use Rattle.std.proofs.lemmas.List.{length-set, append-nil}
use Rattle.std.proofs.lemmas.Option.{slice_get_read, slice_get_within, same_Some, none-some}
use Rattle.alm_model.specs.Judging.{accepted_of, entries_in, of_slot, logged_of}
use Rattle.alm_model.specs.Step.{run}
use Rattle.alm_rings.specs.declared.outbox.Outbox.{Outbox}
use Rattle.alm_rings.specs.Batches.{fetched_of}
use Rattle.alm_rings.proofs.Slots.{set_there, set_apart}
use Rattle.alm_flush.specs.Replies.{replies_in, replies_to}
use Rattle.alm_flush.proofs.flusher.Flusher.new.Goals as goal

pub loop-place-preserved : goal.loop-place-preserved
loop-place-preserved g c =
    let outboxes = c.args.outboxes.items in
    let at = c.loop-place.place in
    let places = c.loop-place.places in
    let now = c.index.result.now in
    let here = slice_get_read outboxes _ at now refl (omega (arith, c.loop-place-test.true, c.len-place-end.ensures)) c.index.ensures in
    let slot : c.number.result ≡ now.slot = c.number.ensures.number ∙ c.slot.ensures in
    let there = set_there places c.number.result at (omega (arith, c.number.ensures.limit, c.loop-place.invariant.size)) in
    record {
      size = length-set places c.number.result at ∙ c.loop-place.invariant.size;
      placed = λ k o less is. elim (cases_lt k at) [
        | inl l ↦ (let apart : c.number.result ≢ o.slot = λ p. (let same = c.requires.apart at k now o here is (sym slot ∙ p) in absurd (omega (arith, same, l))) in
            set_apart places c.number.result o.slot at apart ∙ c.loop-place.invariant.placed k o l is)
        | inr m ↦ (let same : k ≡ at = omega (arith, less, m) in
            let end : o ≡ now = same_Some o now (sym is ∙ (ap (slice_get outboxes) same ∙ here)) in
            ap (slice_get (slice_set places c.number.result at)) (ap (λ (o : Outbox _ g.T.Told). o.slot) end ∙ sym slot) ∙ (there ∙ ap Some (sym same)))
      ];
      back = λ s k o to is. elim (cases_Bool (s == c.number.result)) [
        | inl t ↦ (let e = eqb-true s c.number.result t in
            let same : at ≡ k = same_Some at k (sym there ∙ (ap (slice_get (slice_set places c.number.result at)) (sym e) ∙ to)) in
            let end : o ≡ now = same_Some o now (sym is ∙ (ap (slice_get outboxes) (sym same) ∙ here)) in
            ap (λ (o : Outbox _ g.T.Told). o.slot) end ∙ (sym slot ∙ sym e))
        | inr f ↦ (let other : c.number.result ≢ s = λ p. (let t = eq-eqb s c.number.result (sym p) in absurd (true≢false (sym t ∙ f))) in
            c.loop-place.invariant.back s k o (sym (set_apart places c.number.result s at other) ∙ to) is)
      ];
    }

pub invariant_of-result : goal.invariant_of-result
invariant_of-result g c =
    let base = g.B.Board.base c.args.board in
    let nothing : entries_in (fetched_of c.of.result.value) ++ [] ≡ [] = ap (λ f. entries_in (fetched_of f) ++ []) c.of.ensures ∙ ap (λ l. entries_in l ++ []) c.requires.fetched in
    record {
      placed = λ k o is. c.loop-place.invariant.placed k o (let less = slice_get_within c.args.outboxes.items k o is in omega (arith, less, c.loop-place-test.false, c.len-place-end.ensures)) is;
      back = c.loop-place.invariant.back;
      held_is = c.requires.fetched ∙ (sym c.requires.fetched ∙ (sym (ap fetched_of c.of.ensures) ∙ sym (append-nil (fetched_of c.of.result.value))));
      stored = c.requires.stored ∙ ap (λ l. run base (accepted_of l)) (sym nothing);
      published = c.requires.new_board.0 ∙ ap accepted_of (sym nothing);
      logged = c.requires.new_board.1 ∙ ap logged_of (sym nothing);
      pending = rw c.requires.new_board.2 refl;
      released = λ s. ap replies_in (c.requires.released s) ∙ ap (λ l. replies_to (of_slot s l)) (sym nothing);
      number_is = c.count.ensures ∙ omega (arith, ap (λ q. q.panel.count) c.requires.stored, ap (λ l. length (accepted_of l)) nothing);
      numbers = λ s k r is. absurd (none-some r (sym (ap (λ l. slice_get l k) (c.requires.released s)) ∙ is));
      idle = λ _ p. absurd (cc (p, c.requires.idle));
      next = λ p. absurd (cc (p, c.requires.idle));
      admitted = λ p. absurd (cc (p, c.requires.idle));
      ready = refl;
      either = ∣ inl (g.met.K.Store.idle _ (λ p. absurd (cc (p, c.requires.idle))) (λ p. absurd (cc (p, c.requires.idle)))) ∣₁;
    }
