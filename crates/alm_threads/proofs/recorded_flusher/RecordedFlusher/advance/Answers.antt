use Rattle.std.proofs.Common.{◌≡◌, ◌≢◌, ◌⊎◌, ⊎_elim, ◌≤◌, ◌+◌, ◌++◌, ◌∙◌, ℕ, List, length, sym, ap, subst, arith}
use Rattle.std.proofs.Props.{props}
use Rattle.std.proofs.Math.Logic.{∥∥₁_elim, ∥∥₁_map}
use Rattle.alm_disk.specs.Device.{IsImage}
use Rattle.alm_model.specs.Judging.{accepted_of, entries_in}
use Rattle.alm_rings.specs.Batches.{fetched_of}
use Rattle.alm_store.specs.declared.phase.Phase.TheVariants.{Stopped}
use Rattle.alm_flush.specs.HeldBatch.{stored_of}
use Rattle.alm_model.specs.Step.{run}
use Rattle.alm_moments.specs.declared.recorded_moment.RecordedMoment.{RecordedMoment}
use Rattle.alm_moments.specs.Moments.{moment_of, now_of, opening_moment}
use Rattle.alm_moments.proofs.Courses.{by_call, by_none, last_is, prefix_self}
use Rattle.alm_threads.proofs.Causes.{clash, failed_as, failed_since, given_up_by_advance, held_cases, must_fail, next_held}
use Rattle.alm_threads.proofs.Recorded.{named_safe, stored_by_advance}
use Rattle.alm_threads.proofs.recorded_flusher.RecordedFlusher.advance.Goals as goal

pub record-requires : goal.record-requires
record-requires g c =
    let j = g.J.RunId in
    let s = g.K.Store in
    let b = g.B.Board in
    let r = c.args.self.now in
    let o = r.flusher in
    let n = c.advance-advanced.new.self in
    let e = c.advance-advanced.ensures in
    let before = fetched_of n.before.value in
    let old = g.K.Device.Disk.state (s.disk o.store) in
    let new = g.K.Device.Disk.state (s.disk n.store) in
    let all = accepted_of (entries_in (fetched_of n.fetch)) in
    let now = now_of j.base j.first r.recorder in
    let last : now ≡ moment_of old all r.floor = r.last ∙ ap (λ f. moment_of old (accepted_of (entries_in (fetched_of f))) r.floor) (sym e.same.3) in
    let base : j.base ≡ b.base n.board = r.base ∙ sym (ap b.base e.same.0) in
    let enough : r.floor ≤ j.base.panel.count + length (accepted_of (entries_in before ++ stored_of n.held)) =
    omega (
      arith,
      r.stored,
      stored_by_advance (entries_in (fetched_of o.before.value)) c.advance-advanced.result (s.state o.store).phase o.held n.held e.held,
      ap (λ x. length (accepted_of (entries_in (fetched_of x) ++ stored_of n.held))) e.same.2,
    ) in
    let stands = subst (λ (k : _). (g.K.Device.Disk.honest (s.disk k)) → (i : List ℕ) → IsImage (g.K.Device.Disk.state (s.disk k)) i → ∥ s.recovers i (s.state k).stored ⊎ s.recovers i (s.state k).next ∥₁) c.keeper-store.ensures.keeper c.images.ensures.stands in
    rw (c.keeper-store.ensures.keeper, c.fetch_ends.ensures) (record {
      follows = λ h. ∥∥₁_map r.honest (λ p. ⊎_elim
          (λ same. by_none now old new all all r.floor r.floor last same (prefix_self all) (omega arith))
          (λ call. by_call now old new all r.floor last call) (e.device.call (p h)));
      safe = λ h. ∥∥₁_elim r.honest (hlevel props) (λ p.
          named_safe j.recovers s.recovers g.met.K.Store.one g.met.K.Store.rules r.recovers j.base before (fetched_of n.fetch) n.held r.floor new (s.state n.store).stored (s.state n.store).next
          n.held_is (n.stored ∙ ap (λ q. run q (accepted_of (entries_in before ++ stored_of n.held))) (sym base)) n.either enough (stands (e.device.honest.0 (p h))));
    })

pub invariant_of-self : goal.invariant_of-self
invariant_of-self g c =
    let s = g.K.Store in
    let b = g.B.Board in
    let j = g.J.RunId in
    let r = c.args.self.now in
    let o = r.flusher in
    let n = c.advance-advanced.new.self in
    let e = c.advance-advanced.ensures in
    let base = b.base o.board in
    let before = fetched_of o.before.value in
    record {
      device = r.device;
      premise = r.premise;
      base = r.base ∙ sym (ap b.base e.same.0);
      honest = ∥∥₁_map r.honest (λ p h. e.device.honest.0 (p h));
      recovers = r.recovers;
      shown = omega (arith, r.shown, ap (λ x. length (b.published x)) e.same.0);
      last = ap (λ (l : List RecordedMoment). now_of j.base j.first l) (rw (c.keeper-store.ensures.keeper, c.fetch_ends.ensures) at c.record.ensures) ∙ last_is (opening_moment j.base j.first) r.recorder (moment_of (g.K.Device.Disk.state (s.disk n.store)) (accepted_of (entries_in (fetched_of n.fetch))) r.floor);
      stored = omega (
        arith,
        r.stored,
        stored_by_advance (entries_in before) c.advance-advanced.result (s.state o.store).phase o.held n.held e.held,
        ap (λ x. length (accepted_of (entries_in (fetched_of x) ++ stored_of n.held))) e.same.2,
      );
      stopped = λ phase. must_fail c.has_failed-self.result c.advance-advanced.result c.has_failed-self.ensures (λ fine. e.going (λ was. clash r.failed (r.stopped was) c.if-self.false) fine phase);
      given_up = λ up. must_fail c.has_failed-self.result c.advance-advanced.result c.has_failed-self.ensures (λ fine. fine (given_up_by_advance c.advance-advanced.result (s.state o.store).phase o.held n.held e.held up (λ was. clash r.failed (r.given_up was) c.if-self.false)));
      count = omega (arith, r.count, e.device.count);
      cause = rw (e.same.0, e.same.3) (λ failed spent order.
          let no = failed_as c.has_failed-self.result c.advance-advanced.result c.has_failed-self.ensures failed in
          let going : (s.state o.store).phase ≢ Stopped = λ was. clash r.failed (r.stopped was) c.if-self.false in
          ∣ failed_since (g.K.Device.Disk.failures (s.disk r.first.value)) (g.K.Device.Disk.failures (s.disk o.store)) (g.K.Device.Disk.failures (s.disk n.store)) r.count e.device.count
          (⊎_elim
          (λ waits. e.causes.cause no going (λ ex. spent (e.device.exhausted ex)) (next_held o.held waits.0 base (s.state o.store).stored before (fetched_of o.fetch) waits.1 o.held_is o.stored order))
          (⊎_elim (λ up. clash r.failed (r.given_up up) c.if-self.false) (λ free. e.broken no going free))
          (held_cases o.held)) ∣₁);
    }
