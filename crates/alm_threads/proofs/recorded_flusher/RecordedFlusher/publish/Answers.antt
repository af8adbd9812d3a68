use Rattle.std.proofs.Common.{◌≡◌, ◌+◌, ◌++◌, ◌∙◌, List, length, sym, ap, subst, arith}
use Rattle.std.proofs.Math.Logic.{∥∥₁_map}
use mathlib.Core.List.{IsPrefix}
use Rattle.alm_types.specs.declared.action.Action.{Action}
use Rattle.alm_model.specs.Judging.{accepted_of, entries_in}
use Rattle.alm_model.proofs.Runs.{run_count}
use Rattle.alm_moments.specs.declared.recorded_moment.RecordedMoment.{RecordedMoment}
use Rattle.alm_moments.specs.Moments.{moment_of, now_of}
use Rattle.alm_rings.specs.Batches.{fetched_of}
use Rattle.alm_flush.specs.HeldBatch.{ready_of, stored_of}
use Rattle.alm_threads.proofs.Histories.{kept_prefix}
use Rattle.alm_threads.proofs.Moments.{accepted_prefix, shown_stored}
use Rattle.alm_threads.proofs.Causes.{given_up_by_publish}
use Rattle.alm_threads.proofs.Recorded.{stored_by_publish, shown_next}
use Rattle.alm_threads.proofs.recorded_flusher.RecordedFlusher.publish.Goals as goal

pub publish-published-requires : goal.publish-published-requires
publish-published-requires g c =
    let j = g.J.RunId in
    let s = g.K.Store in
    let b = g.B.Board in
    let r = c.raise_floor.new.self in
    let raised = c.raise_floor.ensures.raised in
    let o = r.flusher in
    let before = fetched_of o.before.value in
    let list = accepted_of (entries_in before ++ stored_of o.held) in
    let floor : r.floor ≡ j.base.panel.count + length list =
    omega (
      arith,
      raised,
      ap (λ f. (s.state f.store).stored.panel.count) c.raise_floor.ensures.same.0,
      ap (λ q. q.panel.count) o.stored,
      run_count (b.base o.board) list,
      ap (λ q. q.panel.count) r.base,
    ) in
    let last = ap (λ (l : List RecordedMoment). now_of j.base j.first l) c.moments-moments.ensures ∙ r.last in
    let shown : b.published o.board ++ accepted_of (ready_of o.held) ≡ list = shown_next (entries_in before) o.held (b.published o.board) o.published in
    record {
      vouched = (
        omega (arith, floor, ap length shown, ap (λ (m : RecordedMoment). m.floor) last),
        ∣ subst (λ (l : List Action). IsPrefix l (now_of j.base j.first c.moments-moments.result).accepted) (sym shown)
            (subst (λ (l : List Action). IsPrefix list l) (sym (ap (λ (m : RecordedMoment). m.accepted) last))
            (accepted_prefix (entries_in before ++ stored_of o.held) (entries_in (fetched_of o.fetch)) (kept_prefix before o.held (fetched_of o.fetch) o.held_is))) ∣₁,
      );
    }

pub invariant_of-self : goal.invariant_of-self
invariant_of-self g c =
    let s = g.K.Store in
    let b = g.B.Board in
    let j = g.J.RunId in
    let r = c.raise_floor.new.self in
    let raised = c.raise_floor.ensures.raised in
    let o = r.flusher in
    let n = c.publish-published.new.self in
    let e = c.publish-published.ensures in
    let before = fetched_of o.before.value in
    let all = accepted_of (entries_in (fetched_of o.fetch)) in
    let list = accepted_of (entries_in before ++ stored_of o.held) in
    let floor : r.floor ≡ j.base.panel.count + length list =
    omega (
      arith,
      raised,
      ap (λ f. (s.state f.store).stored.panel.count) c.raise_floor.ensures.same.0,
      ap (λ q. q.panel.count) o.stored,
      run_count (b.base o.board) list,
      ap (λ q. q.panel.count) r.base,
    ) in
    let kept : length (accepted_of (entries_in (fetched_of n.before.value) ++ stored_of n.held)) ≡ length list =
    omega (
      arith,
      ap (λ l. length (accepted_of (entries_in before ++ l))) (stored_by_publish c.publish-published.result o.held n.held e.held),
      ap (λ x. length (accepted_of (entries_in (fetched_of x) ++ stored_of n.held))) e.same.2,
    ) in
    record {
      device = r.device;
      premise = r.premise;
      base = r.base ∙ sym e.base;
      honest = ∥∥₁_map r.honest (λ p h. subst (λ x. g.K.Device.Disk.honest (s.disk x)) (sym e.same.0) (p h));
      recovers = r.recovers;
      last = r.last
          ∙ ap (λ x. moment_of (g.K.Device.Disk.state (s.disk x)) all r.floor) (sym e.same.0)
          ∙ ap (λ f. moment_of (g.K.Device.Disk.state (s.disk n.store)) (accepted_of (entries_in (fetched_of f))) r.floor) (sym e.same.3);
      shown = omega (arith, floor, kept, shown_stored (entries_in (fetched_of n.before.value)) n.held (b.published n.board) n.published);
      stored = omega (arith, floor, kept);
      stopped = λ phase. r.stopped (ap (λ x. (s.state x).phase) (sym e.same.0) ∙ phase);
      given_up = λ up. r.given_up (given_up_by_publish c.publish-published.result o.held n.held e.held up);
      count = omega (arith, r.count, ap (λ x. g.K.Device.Disk.failures (s.disk x)) e.same.0);
      cause = rw (e.same.0, e.same.3, e.base) r.cause;
    }
