use Rattle.std.proofs.Common.{◌++◌, ◌∙◌, length, sym, ap, subst, arith}
use Rattle.std.proofs.Math.Logic.{∥∥₁_map}
use Rattle.alm_model.specs.Judging.{accepted_of, entries_in}
use Rattle.alm_rings.specs.Batches.{fetched_of}
use Rattle.alm_flush.specs.HeldBatch.{stored_of}
use Rattle.alm_moments.specs.Moments.{moment_of}
use Rattle.alm_threads.proofs.Causes.{given_up_by_release}
use Rattle.alm_threads.proofs.Recorded.{stored_by_release}
use Rattle.alm_threads.proofs.recorded_flusher.RecordedFlusher.release.Goals as goal

pub invariant_of-self : goal.invariant_of-self
invariant_of-self g c =
    let s = g.K.Store in
    let b = g.B.Board in
    let r = c.args.self.now in
    let o = r.flusher in
    let n = c.release.new.self in
    let e = c.release.ensures in
    let base = b.base o.board in
    let before = fetched_of o.before.value in
    record {
      device = r.device;
      premise = r.premise;
      base = r.base ∙ sym (ap b.base e.same.1);
      honest = ∥∥₁_map r.honest (λ p h. subst (λ x. g.K.Device.Disk.honest (s.disk x)) (sym e.same.0) (p h));
      recovers = r.recovers;
      last = r.last ∙ ap (λ x. moment_of (g.K.Device.Disk.state (s.disk x)) (accepted_of (entries_in (fetched_of o.fetch))) r.floor) (sym e.same.0) ∙ ap (λ f. moment_of (g.K.Device.Disk.state (s.disk n.store)) (accepted_of (entries_in (fetched_of f))) r.floor) (sym e.same.3);
      shown = omega (arith, r.shown, ap (λ x. length (b.published x)) e.same.1);
      stored = omega (
        arith,
        r.stored,
        stored_by_release (entries_in before) c.release.result o.held n.held o.outboxes.items n.outboxes.items base (s.state o.store).stored (b.published o.board) e.answer,
        ap (λ x. length (accepted_of (entries_in (fetched_of x) ++ stored_of n.held))) e.same.2,
      );
      stopped = λ phase. r.stopped (ap (λ x. (s.state x).phase) (sym e.same.0) ∙ phase);
      given_up = λ up. r.given_up (given_up_by_release c.release.result o.held n.held o.outboxes.items n.outboxes.items base (s.state o.store).stored (b.published o.board) e.answer up);
      count = omega (arith, r.count, ap (λ x. g.K.Device.Disk.failures (s.disk x)) e.same.0);
      cause = rw (e.same.0, e.same.1, e.same.3) r.cause;
    }
