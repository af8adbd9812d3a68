use Rattle.std.proofs.Common.{◌≡◌, ◌≤◌, ◌∙◌, ◌++◌, ◌+◌, ◌-◌, ◌∷◌, [], List, length, Some, ap, sym, subst, refl, arith, length-append}
use Rattle.std.specs.Prelude.{slice_get, slice_set}
use Rattle.std.proofs.lemmas.Option.{slice_get_read}
use Rattle.std.proofs.lemmas.Bool.{true≢false}
use Rattle.alm_types.specs.declared.action.Action.{Action}
use Rattle.alm_types.specs.declared.logged_action.LoggedAction.{LoggedAction}
use Rattle.alm_model.specs.Judging.{accepted_of, when_accepted, entries_in, of_slot, logged_of, logged_if}
use Rattle.alm_model.specs.Step.{run}
use Rattle.alm_model.proofs.Runs.{run_count}
use Rattle.alm_model.proofs.Legal.{accepted_snoc, logged_length}
use Rattle.alm_rings.specs.declared.outbox.Outbox.{Outbox}
use Rattle.alm_rings.specs.Ends.{room_in}
use Rattle.alm_rings.specs.Batches.{fetched_of}
use Rattle.alm_rings.specs.Placed.{end_at, released_in, room_at}
use Rattle.alm_rings.proofs.Slots.{placed_apart, placed_set, back_set, set_by, set_same, set_other, found, same_outboxes}
use Rattle.alm_flush.specs.Replies.{replies_in, replies_to}
use Rattle.alm_flush.specs.HeldBatch.{batches_of, ready_of, published_entries, stored_of, released_entries, waiting_of, after_release, left_of}
use Rattle.alm_flush.proofs.HeldLaws.{shown_stored, published_split, published_logged, logged_left, told_snoc, get_middle, stored_pass, shown_pass, waiting_pass, batches_pass, ready_pass, released_more, numbers_more, gave_at, nothing_free}
use Rattle.alm_model.specs.Rules.{admits_all}
use Rattle.alm_flush.proofs.flusher.Flusher.release.Goals as goal

pub number_of-number-requires : goal.number_of-number-requires
number_of-number-requires g c =
    let old = c.args.self.now in
    let base = g.B.Board.base old.board in
    let e = c.in-Some.entry in
    let before = entries_in (fetched_of old.before.value) in
    let next = sym c.in-Some.ensures in
    let split = ap length (published_split before old.held e next) in
    let size = length-append (accepted_of (before ++ released_entries old.held)) (when_accepted e.verdict ++ left_of old.held) in
    let size2 = length-append (when_accepted e.verdict) (left_of old.held) in
    let stored = ap (λ q. q.panel.count) old.stored in
    let shown = ap (λ l. length (accepted_of (before ++ l))) (shown_stored old.held e next) in
    omega (arith, c.count-count.ensures, stored, shown, run_count base (accepted_of (before ++ stored_of old.held)), split, size, size2, old.number_is)

pub invariant_of-receipt : goal.invariant_of-receipt
invariant_of-receipt g c =
    let old = c.args.self.now in
    let base = g.B.Board.base old.board in
    let e = c.in-Some.entry in
    let before = entries_in (fetched_of old.before.value) in
    let next = sym c.in-Some.ensures in
    let split = published_split before old.held e next in
    let list : g.T.Told.list c.tell-told.result ≡ accepted_of (before ++ released_entries old.held) ++ (when_accepted e.verdict ++ left_of old.held) = c.tell-told.ensures.list ∙ (old.published ∙ split) in
    let count : g.T.Told.base_count c.tell-told.result ≡ base.panel.count = c.tell-told.ensures.base in
    let size = ap length list ∙ length-append (accepted_of (before ++ released_entries old.held)) (when_accepted e.verdict ++ left_of old.held) in
    let size2 = length-append (when_accepted e.verdict) (left_of old.held) in
    record {
      reaches = omega (arith, count, size, size2, c.number_of-number.ensures, old.number_is);
      stands = λ a is.
          let one : c.number_of-number.result ≡ old.number + 1 = c.number_of-number.ensures ∙ ap (λ v. old.number + length (when_accepted v)) is in
          let at : c.number_of-number.result - g.T.Told.base_count c.tell-told.result - 1 ≡ length (accepted_of (before ++ released_entries old.held)) = omega (arith, one, count, old.number_is) in (
            omega (arith, one, count, old.number_is),
            subst (λ (l : List Action). slice_get l (c.number_of-number.result - g.T.Told.base_count c.tell-told.result - 1) ≡ Some a)
                (sym (list ∙ ap (λ v. accepted_of (before ++ released_entries old.held) ++ (when_accepted v ++ left_of old.held)) is))
                (get_middle (accepted_of (before ++ released_entries old.held)) (left_of old.held) a (c.number_of-number.result - g.T.Told.base_count c.tell-told.result - 1) at),
          );
      names = λ a is.
          let one : c.number_of-number.result ≡ old.number + 1 = c.number_of-number.ensures ∙ ap (λ v. old.number + length (when_accepted v)) is in
          let at : c.number_of-number.result - g.T.Told.base_count c.tell-told.result - 1 ≡ length (logged_of (before ++ released_entries old.held)) =
          omega (arith, one, count, old.number_is, logged_length (before ++ released_entries old.held)) in
          let mine : LoggedAction = record { slot = e.slot; serial = e.serial; action = a } in
          subst (λ (l : List LoggedAction). slice_get l (c.number_of-number.result - g.T.Told.base_count c.tell-told.result - 1) ≡ Some mine)
          (sym (c.tell-told.ensures.logged ∙ (old.logged ∙ published_logged before old.held e next) ∙ ap (λ v. logged_of (before ++ released_entries old.held) ++ (logged_if e.slot e.serial v ++ logged_left old.held)) is))
          (get_middle (logged_of (before ++ released_entries old.held)) (logged_left old.held) mine (c.number_of-number.result - g.T.Told.base_count c.tell-told.result - 1) at);
    }

pub invariant_of-self : goal.invariant_of-self
invariant_of-self g c =
    let old = c.args.self.now in
    let base = g.B.Board.base old.board in
    let e = c.in-Some.entry in
    let before = entries_in (fetched_of old.before.value) in
    let next = sym c.in-Some.ensures in
    let outboxes = old.outboxes.items in
    let k = c.place-place.result in
    let o = c.index_mut-outbox.result.now in
    let new = c.release.new.self in
    let at : slice_get outboxes k ≡ Some o = slice_get_read outboxes _ k o refl (omega (arith, c.if-place-len.false, c.len.ensures)) c.index_mut-outbox.ensures.value in
    let same = c.release.ensures.end.1 in
    let apart = placed_apart (λ o. o.slot) outboxes old.places old.placed in
    let slot = c.place-place.ensures.slot o at in
    let is : c.pass.new.self ≡ after_release old.held = c.pass.ensures in
    let told : before ++ released_entries c.pass.new.self ≡ (before ++ released_entries old.held) ++ e ∷ [] = ap (λ h. before ++ released_entries h) is ∙ told_snoc before old.held e next in
    record {
      placed = placed_set (λ o. o.slot) outboxes old.places k o new old.placed at same;
      back = back_set (λ o. o.slot) outboxes old.places k o new old.back at same;
      held_is = old.held_is ∙ ap (λ l. fetched_of old.before.value ++ l) (sym (ap batches_of is ∙ batches_pass old.held));
      stored = old.stored ∙ ap (λ l. run base (accepted_of (before ++ l))) (sym (ap stored_of is ∙ stored_pass old.held));
      published = old.published ∙ ap (λ l. accepted_of (before ++ l)) (sym (ap published_entries is ∙ shown_pass old.held));
      logged = old.logged ∙ ap (λ l. logged_of (before ++ l)) (sym (ap published_entries is ∙ shown_pass old.held));
      pending = rw (ap ready_of is ∙ ready_pass old.held) old.pending;
      released = λ s. released_more outboxes k o new (before ++ released_entries old.held) e _ apart at same slot c.in-Ok.ensures.ok.0 refl refl refl old.released s ∙ ap (λ l. replies_to (of_slot s l)) (sym told);
      number_is = c.number_of-number.ensures ∙ omega (arith, old.number_is, ap (λ l. length (accepted_of l)) told, ap length (accepted_snoc (before ++ released_entries old.held) e), length-append (accepted_of (before ++ released_entries old.held)) (when_accepted e.verdict));
      numbers = numbers_more outboxes k o new _ old.number c.number_of-number.result apart at same c.in-Ok.ensures.ok.0 refl (omega (arith, c.number_of-number.ensures)) old.numbers;
      idle = λ h. old.idle (ap accepted_of (sym (ap waiting_of is ∙ waiting_pass old.held)) ∙ h);
      next = λ p. old.next p ∙ ap (λ l. run (g.K.Store.state old.store).stored (accepted_of l)) (sym (ap waiting_of is ∙ waiting_pass old.held));
      admitted = λ p. ap (λ l. admits_all (g.K.Store.state old.store).stored (accepted_of l)) (ap waiting_of is ∙ waiting_pass old.held) ∙ old.admitted p;
      ready = ap (λ l. admits_all (run (g.B.Board.base old.board) (g.B.Board.published old.board)) (accepted_of l)) (ap ready_of is ∙ ready_pass old.held) ∙ old.ready;
      either = rw (ap waiting_of is ∙ waiting_pass old.held) old.either;
    }

pub invariant_of-self-in-Err-1 : goal.invariant_of-self-in-Err-1
invariant_of-self-in-Err-1 g c =
    let old = c.args.self.now in
    let base = g.B.Board.base old.board in
    let e = c.in-Some.entry in
    let before = entries_in (fetched_of old.before.value) in
    let next = sym c.in-Some.ensures in
    let outboxes = old.outboxes.items in
    let k = c.place-place.result in
    let o = c.index_mut-outbox.result.now in
    let new = c.release.new.self in
    let at : slice_get outboxes k ≡ Some o = slice_get_read outboxes _ k o refl (omega (arith, c.if-place-len.false, c.len.ensures)) c.index_mut-outbox.ensures.value in
    let same = c.release.ensures.end.1 in
    let apart = placed_apart (λ o. o.slot) outboxes old.places old.placed in
    let slot = c.place-place.ensures.slot o at in
    let still = set_by (λ o. o.slot) released_in outboxes k o new apart at same c.in-Err.ensures.full.1 in
    record {
      placed = placed_set (λ o. o.slot) outboxes old.places k o new old.placed at same;
      back = back_set (λ o. o.slot) outboxes old.places k o new old.back at same;
      held_is = old.held_is;
      stored = old.stored;
      published = old.published;
      logged = old.logged;
      pending = old.pending;
      released = λ s. ap replies_in (still s) ∙ old.released s;
      number_is = old.number_is;
      numbers = λ s j r is. old.numbers s j r (ap (λ l. slice_get l j) (sym (still s)) ∙ is);
      idle = old.idle;
      next = old.next;
      admitted = old.admitted;
      ready = old.ready;
      either = old.either;
    }

pub returns-in-Ok-clause-ends : goal.returns-in-Ok-clause-ends
returns-in-Ok-clause-ends g c =
    let old = c.args.self.now in
    let base = g.B.Board.base old.board in
    let e = c.in-Some.entry in
    let before = entries_in (fetched_of old.before.value) in
    let next = sym c.in-Some.ensures in
    let outboxes = old.outboxes.items in
    let k = c.place-place.result in
    let o = c.index_mut-outbox.result.now in
    let new = c.release.new.self in
    let at : slice_get outboxes k ≡ Some o = slice_get_read outboxes _ k o refl (omega (arith, c.if-place-len.false, c.len.ensures)) c.index_mut-outbox.ensures.value in
    let same = c.release.ensures.end.1 in
    let apart = placed_apart (λ o. o.slot) outboxes old.places old.placed in
    let slot = c.place-place.ensures.slot o at in
    same_outboxes outboxes k o new apart at c.release.ensures.end

pub returns-in-Err-clause-ends : goal.returns-in-Err-clause-ends
returns-in-Err-clause-ends g c =
    let old = c.args.self.now in
    let base = g.B.Board.base old.board in
    let e = c.in-Some.entry in
    let before = entries_in (fetched_of old.before.value) in
    let next = sym c.in-Some.ensures in
    let outboxes = old.outboxes.items in
    let k = c.place-place.result in
    let o = c.index_mut-outbox.result.now in
    let new = c.release.new.self in
    let at : slice_get outboxes k ≡ Some o = slice_get_read outboxes _ k o refl (omega (arith, c.if-place-len.false, c.len.ensures)) c.index_mut-outbox.ensures.value in
    let same = c.release.ensures.end.1 in
    let apart = placed_apart (λ o. o.slot) outboxes old.places old.placed in
    let slot = c.place-place.ensures.slot o at in
    same_outboxes outboxes k o new apart at c.release.ensures.end

pub returns-in-Ok-clause-answer : goal.returns-in-Ok-clause-answer
returns-in-Ok-clause-answer g c =
    let old = c.args.self.now in
    let base = g.B.Board.base old.board in
    let e = c.in-Some.entry in
    let before = entries_in (fetched_of old.before.value) in
    let next = sym c.in-Some.ensures in
    let outboxes = old.outboxes.items in
    let k = c.place-place.result in
    let o = c.index_mut-outbox.result.now in
    let new = c.release.new.self in
    let at : slice_get outboxes k ≡ Some o = slice_get_read outboxes _ k o refl (omega (arith, c.if-place-len.false, c.len.ensures)) c.index_mut-outbox.ensures.value in
    let same = c.release.ensures.end.1 in
    let apart = placed_apart (λ o. o.slot) outboxes old.places old.placed in
    let slot = c.place-place.ensures.slot o at in
    let here = ap (λ s. end_at (λ (o : Outbox _ _). o.slot) s outboxes) (sym slot) ∙ found (λ o. o.slot) outboxes k o apart at in
    let now = ap (λ s. end_at (λ (o : Outbox _ _). o.slot) s (slice_set outboxes k new)) (sym slot) ∙ set_same (λ o. o.slot) outboxes k o new apart at same in
    let split = ap length (published_split before old.held e next) in
    let size = length-append (accepted_of (before ++ released_entries old.held)) (when_accepted e.verdict ++ left_of old.held) in
    let size2 = length-append (when_accepted e.verdict) (left_of old.held) in
    let stored = ap (λ q. q.panel.count) old.stored in
    let shown = ap (λ l. length (accepted_of (before ++ l))) (shown_stored old.held e next) in
    let is_stored : c.number_of-number.result ≤ (g.K.Store.state old.store).stored.panel.count = omega (arith, stored, shown, run_count base (accepted_of (before ++ stored_of old.held)), split, size, size2, old.number_is, c.number_of-number.ensures) in
    let numbered : c.number_of-number.result + length (left_of old.held) ≡ base.panel.count + length (g.B.Board.published old.board) = omega (arith, ap length old.published, split, size, size2, old.number_is, c.number_of-number.ensures) in
    let is_published : c.number_of-number.result ≤ base.panel.count + length (g.B.Board.published old.board) = omega (arith, ap length old.published, split, size, size2, old.number_is, c.number_of-number.ensures) in
    record {
      entry = e;
      of = refl;
      next = next;
      held = c.pass.ensures;
      receipt = _;
      released = gave_at _ _ o new _ here now c.in-Ok.ensures.ok.0;
      others = λ s other. set_other (λ o. o.slot) outboxes k o new s at same (λ p. other (p ∙ slot));
      verdict = refl;
      asker = refl;
      serial = refl;
      list = c.tell-told.ensures.list;
      count = c.tell-told.ensures.base;
      number = numbered;
      is_stored = is_stored;
      is_published = is_published;
    }

pub returns-in-Err-clause-answer : goal.returns-in-Err-clause-answer
returns-in-Err-clause-answer g c =
    let old = c.args.self.now in
    let base = g.B.Board.base old.board in
    let e = c.in-Some.entry in
    let before = entries_in (fetched_of old.before.value) in
    let next = sym c.in-Some.ensures in
    let outboxes = old.outboxes.items in
    let k = c.place-place.result in
    let o = c.index_mut-outbox.result.now in
    let new = c.release.new.self in
    let at : slice_get outboxes k ≡ Some o = slice_get_read outboxes _ k o refl (omega (arith, c.if-place-len.false, c.len.ensures)) c.index_mut-outbox.ensures.value in
    let same = c.release.ensures.end.1 in
    let apart = placed_apart (λ o. o.slot) outboxes old.places old.placed in
    let slot = c.place-place.ensures.slot o at in
    let here = ap (λ s. end_at (λ (o : Outbox _ _). o.slot) s outboxes) (sym slot) ∙ found (λ o. o.slot) outboxes k o apart at in
    record {
      entry = e;
      of = refl;
      next = next;
      held = refl;
      released = set_by (λ o. o.slot) released_in outboxes k o new apart at same c.in-Err.ensures.full.1;
      room = set_by (λ o. o.slot) room_at outboxes k o new apart at same c.in-Err.ensures.full.2;
      cause = ap room_at here ∙ nothing_free (room_in o) (λ some. (let ok = c.in-Err.ensures.cause some in absurd (true≢false (sym ok))));
    }
