use Rattle.std.proofs.Common.{◌≡◌, ◌∙◌, length, arith, ap, rules, sym, subst, true}
use Rattle.std.specs.Prelude.{IfSome}
use Rattle.std.proofs.lemmas.List.{with_items_is}
use Rattle.alm_disk.specs.Failures.{HasFailed}
use Rattle.alm_model.specs.Plant.{Condensed}
use Rattle.alm_rings.specs.Batches.{coming_in, fetched_of, sealed_of}
use Rattle.alm_seq.specs.Sequences.{SameInboxes}
use Rattle.alm_threads.specs.Causes.{StopsFor}
use Rattle.alm_threads.specs.Finished.{IsAllAnswered}
use Rattle.alm_threads.specs.Histories.{AreInOrder}
use Rattle.alm_threads.specs.Same.{AllIdle, AllSame}
use Rattle.alm_threads.proofs.Causes.{in_order_prefix}
use Rattle.alm_threads.proofs.Finished.{all_same_length}
use Rattle.alm_threads.proofs.ending.end_run.Goals as goal

pub returns-clause-ends : goal.returns-clause-ends
returns-clause-ends g c =
    let e = c.finish-cause.ensures.ends in
    let new = c.finish-cause.new.consoles in
    let consoles =
    with_items_is c.args.consoles new (omega (arith, all_same_length c.deref_mut.result.now new e.0, ap length c.deref_mut.ensures.value, c.args.consoles.ok)) in
    let sealed = e.3 in
    let synchronised = c.batches_beside.ensures.ends.1 in (
      subst (λ cs. AllSame c.args.consoles.items cs) (sym consoles) (subst (λ cs. AllSame cs new) c.deref_mut.ensures.value e.0),
      subst (λ cs. AllIdle c.args.consoles.items cs) (sym consoles) (subst (λ cs. AllIdle cs new) c.deref_mut.ensures.value e.1),
      subst (λ x. SameInboxes c.args.sequencer.inboxes.items x.items) (sym c.rings_of-rings.ensures.inboxes) e.2,
      search rules,
    )

pub returns-clause-end : goal.returns-clause-end
returns-clause-end g c =
    let b = c.batches_beside.new.self in
    let same = c.batches_beside.ensures.same in
    let parts = c.close_flusher-flusher.ensures.parts in
    let new = c.finish-cause.new.consoles in
    let consoles =
    with_items_is c.args.consoles new (omega (arith, all_same_length c.deref_mut.result.now new c.finish-cause.ensures.ends.0, ap length c.deref_mut.ensures.value, c.args.consoles.ok)) in
    let flusher = c.finish-cause.new.flusher in
    record {
      refused = λ n why. (subst (λ o. IfSome o (λ w. StopsFor w flusher.failed flusher.refused)) why c.finish-cause.ensures.stopped.0).1;
      stopped = λ phase. c.finish-cause.ensures.stopped.1 (sym same.4 ∙ b.stopped (ap (λ k. (g.K.Store.state k).phase) (sym parts.0) ∙ phase));
      answered = λ none. subst (λ cs. IsAllAnswered cs c.rings_of-rings.result.inboxes.items c.close_flusher-flusher.result.0.outboxes.items) (sym consoles)
          (rw (c.rings_of-rings.ensures.inboxes, parts.1, same.2) (c.finish-cause.ensures.done none).1);
    }

pub returns-clause-failed : goal.returns-clause-failed
returns-clause-failed g c = λ why spent.
    let s = g.K.Store in
    let d = g.K.Device.Disk in
    let b = c.batches_beside.new.self in
    let same = c.batches_beside.ensures.same in
    let parts = c.close_flusher-flusher.ensures.parts in
    let new = c.finish-cause.new.flusher in
    let failed : b.failed ≡ true = same.4 ∙ subst (λ o. IfSome o (λ w. StopsFor w new.failed new.refused)) why c.finish-cause.ensures.stopped.0 in
    let base = c.finish-cause.ensures.live ∙ (c.requires.live ∙ (sym c.finish-cause.ensures.kept.2 ∙ ap g.B.Board.base (sym same.1))) in
    let order =
    in_order_prefix (g.B.Board.base b.flusher.board) (fetched_of b.flusher.fetch) (sealed_of c.batches_beside.new.seal) (coming_in b.flusher.fetch, c.batches_beside.ensures.fetched)
    (subst (λ x. AreInOrder (g.B.Board.base b.flusher.board) (sealed_of x)) c.rings_of-rings.ensures.ends
    (subst (λ (q : Condensed). AreInOrder q (sealed_of c.rings_of-rings.result.ends)) base c.rings_of-rings.ensures.judged.in_order)) in
    subst (λ k. ∥ HasFailed (d.failures (s.disk c.args.flusher.first.value)) (d.failures (s.disk k)) ∥₁) (sym parts.0)
    (subst (λ x. ∥ HasFailed (d.failures (s.disk x.value)) (d.failures (s.disk b.flusher.store)) ∥₁) (same.3 ∙ c.finish-cause.ensures.kept.3)
    (b.cause failed (λ ex. spent (subst (λ k. s.exhausted k) (sym parts.0) ex)) order))
