use Rattle.std.proofs.Common.{◌≡◌, ◌++◌, ◌∙◌, Bool, MatchBool, true, false, length, sym, ap, subst, arith}
use Rattle.std.proofs.Math.Logic.{∥∥₁_map}
use Rattle.alm_model.specs.Judging.{accepted_of, entries_in}
use Rattle.alm_rings.specs.Batches.{fetched_of}
use Rattle.alm_store.specs.Advancing.{CheckpointIsNotOpened, CheckpointIsOpened, IsCheckpointing}
use Rattle.alm_store.specs.State.{StoreState}
use Rattle.alm_store.specs.declared.phase.Phase.TheVariants.{Stopped}
use Rattle.alm_flush.specs.Flushes.{IsGivenUp}
use Rattle.alm_flush.specs.HeldBatch.{stored_of}
use Rattle.alm_moments.specs.Moments.{moment_of}
use Rattle.alm_threads.proofs.recorded_flusher.RecordedFlusher.heal.Goals as goal

-- an opened checkpoint stops no store
stopped_before : (result : Bool) (old new : StoreState) → MatchBool result (CheckpointIsOpened old new) (CheckpointIsNotOpened old new) → new.phase ≡ Stopped → old.phase ≡ Stopped
stopped_before true old new opened is = absurd (subst IsCheckpointing is opened.is_open)
stopped_before false old new same is = sym same.0 ∙ is

pub invariant_of-self : goal.invariant_of-self
invariant_of-self g c =
    let s = g.K.Store in
    let b = g.B.Board in
    let r = c.args.self.now in
    let o = r.flusher in
    let n = c.heal.new.self in
    let e = c.heal.ensures in
    record {
      device = r.device;
      premise = r.premise;
      base = r.base ∙ sym (ap b.base e.same.0);
      honest = ∥∥₁_map r.honest (λ p h. subst g.K.Device.Disk.honest (sym e.opens.disk) (p h));
      recovers = r.recovers;
      last = r.last ∙ ap (λ d. moment_of (g.K.Device.Disk.state d) (accepted_of (entries_in (fetched_of o.fetch))) r.floor) (sym e.opens.disk) ∙ ap (λ f. moment_of (g.K.Device.Disk.state (s.disk n.store)) (accepted_of (entries_in (fetched_of f))) r.floor) (sym e.same.3);
      shown = omega (arith, r.shown, ap (λ x. length (b.published x)) e.same.0);
      stored = omega (
        arith,
        r.stored,
        ap (λ h. length (accepted_of (entries_in (fetched_of o.before.value) ++ stored_of h))) e.same.4,
        ap (λ x. length (accepted_of (entries_in (fetched_of x) ++ stored_of n.held))) e.same.2,
      );
      stopped = λ phase. r.stopped (stopped_before c.heal.result (s.state o.store) (s.state n.store) e.opens.opened phase);
      given_up = λ up. r.given_up (subst IsGivenUp e.same.4 up);
      count = omega (arith, r.count, ap g.K.Device.Disk.failures e.opens.disk);
      cause = rw (e.same.0, e.same.3, e.opens.disk) (λ failed spent order. r.cause failed (λ ex. spent (e.opens.exhausted.0 ex)) order);
    }
