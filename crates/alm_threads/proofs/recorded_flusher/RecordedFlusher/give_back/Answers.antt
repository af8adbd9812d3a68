use Rattle.std.proofs.Common.{◌∙◌, length, sym, ap, subst, arith}
use Rattle.std.proofs.Math.Logic.{∥∥₁_map}
use Rattle.alm_model.specs.Judging.{accepted_of, entries_in}
use Rattle.alm_rings.specs.Batches.{fetched_of, given_of}
use Rattle.alm_moments.specs.Moments.{moment_of}
use Rattle.alm_threads.proofs.Causes.{given_up_by_giving}
use Rattle.alm_threads.proofs.Recorded.{stored_by_giving}
use Rattle.alm_threads.proofs.recorded_flusher.RecordedFlusher.give_back.Goals as goal

pub invariant_of-self : goal.invariant_of-self
invariant_of-self g c =
    let s = g.K.Store in
    let b = g.B.Board in
    let r = c.args.self.now in
    let o = r.flusher in
    let n = c.give_back.new.self in
    let e = c.give_back.ensures in
    record {
      device = r.device;
      premise = r.premise;
      base = r.base ∙ sym (ap b.base e.same.1);
      honest = ∥∥₁_map r.honest (λ p h. subst (λ x. g.K.Device.Disk.honest (s.disk x)) (sym e.same.0) (p h));
      recovers = r.recovers;
      last = r.last ∙ ap (λ x. moment_of (g.K.Device.Disk.state (s.disk x)) (accepted_of (entries_in (fetched_of o.fetch))) r.floor) (sym e.same.0) ∙ ap (λ l. moment_of (g.K.Device.Disk.state (s.disk n.store)) (accepted_of (entries_in l)) r.floor) (sym e.ends.1);
      shown = omega (arith, r.shown, ap (λ x. length (b.published x)) e.same.1);
      stored = omega (
        arith,
        r.stored,
        stored_by_giving c.give_back.result o.before.value n.before.value (fetched_of o.fetch) (fetched_of n.fetch) o.held n.held (given_of o.fetch) (given_of n.fetch) _ o.held_is n.held_is e.ends.1 e.given,
      );
      stopped = λ phase. r.stopped (ap (λ x. (s.state x).phase) (sym e.same.0) ∙ phase);
      given_up = λ up. r.given_up (given_up_by_giving c.give_back.result o.held n.held (given_of o.fetch) (given_of n.fetch) _ _ e.given up);
      count = omega (arith, r.count, ap (λ x. g.K.Device.Disk.failures (s.disk x)) e.same.0);
      cause = rw (e.same.0, e.same.1, e.ends.1) r.cause;
    }
