use Rattle.std.proofs.Common.{◌≡◌, ◌≢◌, ◌++◌, [], Some, ap, sym, ◌∙◌, refl, subst, length, arith, inl, inr}
use Rattle.std.specs.Prelude.{slice_get, slice_set}
use Rattle.alm_rings.specs.declared.inbox.Inbox.{Inbox}
use Rattle.std.proofs.lemmas.Bool.{cases_lt}
use Rattle.std.proofs.lemmas.List.{length-set}
use Rattle.std.proofs.lemmas.Option.{slice_get_read, slice_get_within, same_Some}
use Rattle.alm_model.specs.Judging.{entries_in, of_slot, wants_of, serials_of, accepted_of, IsLegal}
use Rattle.alm_model.specs.Step.{run}
use Rattle.alm_rings.specs.Batches.{sealed_of}
use Rattle.std.specs.List.{range_with_len}
use Rattle.alm_rings.proofs.Slots.{set_there, set_apart}
use Rattle.alm_seq.proofs.sequencer.Sequencer.new.Goals as goal

pub loop-place-preserved : goal.loop-place-preserved
loop-place-preserved g c = record {
  size = length-set c.loop-place.places c.number.result c.loop-place.place ∙ c.loop-place.invariant.size;
  placed = λ k i less is.
      let inboxes = c.args.inboxes.items in
      let at = c.loop-place.place in
      let now = c.index.result.now in
      let here = slice_get_read inboxes _ at now refl (omega (arith, c.loop-place-test.true, c.len-place-end.ensures)) c.index.ensures in
      let slot : c.number.result ≡ now.slot = c.number.ensures.number ∙ c.slot.ensures in
      elim (cases_lt k at) [
        | inl l ↦ (let apart : c.number.result ≢ i.slot = λ p. (let same = c.requires.apart at k now i here is (sym slot ∙ p) in absurd (omega (arith, same, l))) in
            set_apart c.loop-place.places c.number.result i.slot at apart ∙ c.loop-place.invariant.placed k i l is)
        | inr m ↦ (let same : k ≡ at = omega (arith, less, m) in
            let end : i ≡ now = same_Some i now (sym is ∙ (ap (slice_get inboxes) same ∙ here)) in
            ap (slice_get (slice_set c.loop-place.places c.number.result at)) (ap (λ (i : Inbox). i.slot) end ∙ sym slot) ∙ (set_there c.loop-place.places c.number.result at (omega (arith, c.number.ensures.limit, c.loop-place.invariant.size)) ∙ ap Some (sym same)))
      ];
}

pub invariant_of-result : goal.invariant_of-result
invariant_of-result g c =
    let nothing : entries_in (sealed_of c.empty.new.self) ++ c.restart.new.self.entries ≡ [] =
    ap (λ l. entries_in l ++ c.restart.new.self.entries) (c.in-Some.ensures.sealed.0 ∙ c.requires.sealed) ∙ ap (λ b. b.entries) c.restart.ensures in
    let sealed : entries_in (sealed_of c.empty.new.self) ≡ [] = ap entries_in (c.in-Some.ensures.sealed.0 ∙ c.requires.sealed) in
    let base = sym (ap g.P.Alarms.plant c.of.ensures) in
    record {
      placed = λ k i is. c.loop-place.invariant.placed k i (let less = slice_get_within c.args.inboxes.items k i is in omega (arith, less, c.loop-place-test.false, c.len-place-end.ensures)) is;
      legal = subst (IsLegal (g.P.Alarms.plant c.of.result.value)) (sym nothing) refl;
      wants = λ s. ap (λ l. wants_of (of_slot s l)) nothing ∙ sym (c.requires.taken s);
      serials = λ s. ap (λ l. serials_of (of_slot s l)) nothing ∙ ap (λ l. range_with_len 1 (length l)) (sym (c.requires.taken s));
      live = base ∙ ap (λ l. run (g.P.Alarms.plant c.of.result.value) (accepted_of l)) (sym nothing);
      most = c.requires.count;
      firsts = rw (c.in-Some.ensures.sealed.0 ∙ c.requires.sealed) refl;
      first = ap (λ b. b.first) c.restart.ensures ∙ omega (arith, c.count.ensures, ap (λ q. q.panel.count) base, ap (λ l. length (accepted_of l)) sealed);
    }
