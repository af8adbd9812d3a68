use Rattle.std.proofs.Common.{◌≡◌, ◌≢◌, ◌∙◌, None, sym, subst}
use Rattle.alm_store.specs.declared.phase.Phase.TheVariants.{Stopped}
use Rattle.alm_threads.specs.Answered.{AllAnswered}
use Rattle.alm_threads.proofs.Causes.{some_unless}
use Rattle.alm_threads.proofs.Finished.{answered_by}
use Rattle.alm_threads.proofs.reporting.report_of.Goals.{in-Whole, in-Stopped}
use Rattle.alm_threads.proofs.reporting.report_of.Goals as goal

pub invariant_of-result-clause-goes_on : goal.invariant_of-result-clause-goes_on
invariant_of-result-clause-goes_on g c = λ whole stopped. (c.storage_of-storage.ensures.whole whole).0 (c.phase.ensures ∙ stopped)

pub invariant_of-result-clause-answered : goal.invariant_of-result-clause-answered
invariant_of-result-clause-answered g c = λ whole. ∣ subst AllAnswered c.deref.ensures.value (c.are_answered.ensures.0 (c.storage_of-storage.ensures.whole whole).1) ∣₁

pub invariant_of-result-clause-whole : goal.invariant_of-result-clause-whole
invariant_of-result-clause-whole g c = λ goes answered.
    c.storage_of-storage.ensures.stopped (λ stopped. goes (sym c.phase.ensures ∙ stopped)) (c.are_answered.ensures.1 (subst AllAnswered (sym c.deref.ensures.value) answered))

pub invariant_of-result-clause-caused : goal.invariant_of-result-clause-caused
invariant_of-result-clause-caused g c = λ stopped. elim c.match-storage.branch [
  | in-Whole w ↦ absurd (cc (sym w.in-Whole.is ∙ stopped))
  | in-Stopped w ↦ some_unless c.match-storage.cause (λ none.
      let missing : c.args.ends.cause ≡ None = sym w.cause-is ∙ none in
      let goes : c.phase.result ≢ Stopped = λ ended. absurd (cc (sym missing ∙ c.requires.end.stopped (sym c.phase.ensures ∙ ended))) in
      let all = answered_by c.args.ends.consoles.items c.args.ends.rings.inboxes.items c.args.ends.flusher.outboxes.items c.close_all-slots.result.items c.close_all-slots.ensures.closed (c.requires.end.answered missing) in
      absurd (cc (sym (c.storage_of-storage.ensures.stopped goes (c.are_answered.ensures.1 (subst AllAnswered (sym c.deref.ensures.value) all))) ∙ stopped)))
]

pub invariant_of-result-clause-stopped : goal.invariant_of-result-clause-stopped
invariant_of-result-clause-stopped g c = λ stopped. elim c.match-storage.branch [
  | in-Whole w ↦ absurd ((c.storage_of-storage.ensures.whole w.in-Whole.is).0 (c.phase.ensures ∙ stopped))
  | in-Stopped w ↦ w.cause-is ∙ c.requires.end.stopped stopped
]
