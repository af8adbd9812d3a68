use Rattle.std.proofs.Common.{◌≡◌, ◌⊎◌, ◌+◌, ◌++◌, ◌∙◌, ℕ, List, length, refl, sym, ap, subst, arith}
use Rattle.std.proofs.Props.{props}
use Rattle.std.proofs.Math.Logic.{∥∥₁_elim}
use Rattle.alm_disk.specs.Device.{IsImage}
use Rattle.alm_model.specs.Judging.{accepted_of, entries_in}
use Rattle.alm_model.specs.Step.{run}
use Rattle.alm_model.proofs.Runs.{run_count}
use Rattle.alm_moments.specs.declared.recorded_moment.RecordedMoment.{RecordedMoment}
use Rattle.alm_moments.specs.Moments.{moment_of, now_of, opening_moment}
use Rattle.alm_moments.proofs.Courses.{by_none, last_is, prefix_self}
use Rattle.alm_rings.specs.Batches.{fetched_of}
use Rattle.alm_flush.specs.HeldBatch.{stored_of}
use Rattle.alm_threads.proofs.Recorded.{named_safe}
use Rattle.alm_threads.proofs.recorded_flusher.RecordedFlusher.raise_floor.Goals as goal

pub record-requires : goal.record-requires
record-requires g c =
    let j = g.J.RunId in
    let s = g.K.Store in
    let b = g.B.Board in
    let r = c.args.self.now in
    let o = r.flusher in
    let before = fetched_of o.before.value in
    let device = g.K.Device.Disk.state (s.disk o.store) in
    let all = accepted_of (entries_in (fetched_of o.fetch)) in
    let list = accepted_of (entries_in before ++ stored_of o.held) in
    let floor : c.count-stored.result ≡ j.base.panel.count + length list =
    omega (
      arith,
      c.count-stored.ensures,
      ap (λ k. (s.state k).stored.panel.count) c.keeper-store.ensures.keeper,
      ap (λ q. q.panel.count) o.stored,
      run_count (b.base o.board) list,
      ap (λ q. q.panel.count) r.base,
    ) in
    let stands = subst (λ (k : _). (g.K.Device.Disk.honest (s.disk k)) → (i : List ℕ) → IsImage (g.K.Device.Disk.state (s.disk k)) i → ∥ s.recovers i (s.state k).stored ⊎ s.recovers i (s.state k).next ∥₁) c.keeper-store.ensures.keeper c.images.ensures.stands in
    rw (c.keeper-store.ensures.keeper, c.fetch_ends.ensures) (record {
      follows = λ h. ∣ by_none (now_of j.base j.first r.recorder) device device all all r.floor c.count-stored.result r.last refl (prefix_self all) (omega (arith, r.stored, floor)) ∣₁;
      safe = λ h. ∥∥₁_elim r.honest (hlevel props) (λ p.
          named_safe j.recovers s.recovers g.met.K.Store.one g.met.K.Store.rules r.recovers j.base before (fetched_of o.fetch) o.held c.count-stored.result device (s.state o.store).stored (s.state o.store).next
          o.held_is (o.stored ∙ ap (λ q. run q list) (sym r.base)) o.either (omega (arith, floor)) (stands (p h)));
    })

pub invariant_of-self-2 : goal.invariant_of-self-2
invariant_of-self-2 g c =
    let j = g.J.RunId in
    let s = g.K.Store in
    let b = g.B.Board in
    let r = c.args.self.now in
    let o = r.flusher in
    let list = accepted_of (entries_in (fetched_of o.before.value) ++ stored_of o.held) in
    let next = moment_of (g.K.Device.Disk.state (s.disk o.store)) (accepted_of (entries_in (fetched_of o.fetch))) c.count-stored.result in
    let floor : c.count-stored.result ≡ j.base.panel.count + length list =
    omega (
      arith,
      c.count-stored.ensures,
      ap (λ k. (s.state k).stored.panel.count) c.keeper-store.ensures.keeper,
      ap (λ q. q.panel.count) o.stored,
      run_count (b.base o.board) list,
      ap (λ q. q.panel.count) r.base,
    ) in
    record {
      device = r.device;
      premise = r.premise;
      base = r.base;
      honest = r.honest;
      recovers = r.recovers;
      last = ap (λ (l : List RecordedMoment). now_of j.base j.first l) (rw (c.keeper-store.ensures.keeper, c.fetch_ends.ensures) at c.record.ensures) ∙ last_is (opening_moment j.base j.first) r.recorder next;
      shown = omega (arith, r.shown, r.stored, floor);
      stored = omega (arith, floor);
      stopped = r.stopped;
      given_up = r.given_up;
      count = r.count;
      cause = r.cause;
    }
