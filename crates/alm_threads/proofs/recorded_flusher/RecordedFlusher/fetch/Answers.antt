use Rattle.std.proofs.Common.{rules, ◌⊎◌, ◌++◌, ◌∙◌, ℕ, List, length, ap, sym, subst, arith}
use Rattle.std.proofs.Props.{props}
use Rattle.std.proofs.Math.Logic.{∥∥₁_elim, ∥∥₁_map}
use Rattle.alm_disk.specs.Device.{IsImage}
use Rattle.alm_model.specs.Judging.{accepted_of, entries_in}
use Rattle.alm_rings.specs.Batches.{fetched_of}
use Rattle.alm_flush.specs.HeldBatch.{stored_of}
use Rattle.alm_model.specs.Step.{run}
use Rattle.alm_moments.specs.declared.recorded_moment.RecordedMoment.{RecordedMoment}
use Rattle.alm_moments.specs.Moments.{moment_of, now_of, opening_moment}
use Rattle.alm_moments.proofs.Courses.{by_none, last_is}
use Rattle.alm_threads.proofs.Moments.{accepted_prefix, entries_prefix, fetched_more, not_fetched}
use Rattle.alm_threads.proofs.Causes.{clash, given_up_by_fetch}
use Rattle.alm_threads.proofs.Recorded.{named_safe, safe_with_more, stored_by_fetch}
use Rattle.alm_threads.proofs.recorded_flusher.RecordedFlusher.fetch.Goals as goal

pub record-requires : goal.record-requires
record-requires g c =
    let j = g.J.RunId in
    let s = g.K.Store in
    let r = c.args.self.now in
    let o = r.flusher in
    let n = c.fetch-fetched.new.self in
    let e = c.fetch-fetched.ensures in
    let before = fetched_of o.before.value in
    let old = g.K.Device.Disk.state (s.disk o.store) in
    let new = g.K.Device.Disk.state (s.disk n.store) in
    let all = accepted_of (entries_in (fetched_of o.fetch)) in
    let more = accepted_of (entries_in (fetched_of n.fetch)) in
    let same = ap g.K.Device.Disk.state e.store.disk in
    let prefix = accepted_prefix (entries_in (fetched_of o.fetch)) (entries_in (fetched_of n.fetch)) (entries_prefix (fetched_of o.fetch) (fetched_of n.fetch) (fetched_more c.fetch-fetched.result o.held n.held o.fetch n.fetch e.answer)) in
    let stands = subst (λ (k : _). (g.K.Device.Disk.honest (s.disk k)) → (i : List ℕ) → IsImage (g.K.Device.Disk.state (s.disk k)) i → ∥ s.recovers i (s.state k).stored ⊎ s.recovers i (s.state k).next ∥₁) c.keeper.ensures.keeper c.images.ensures.stands in
    rw (c.keeper-2.ensures.keeper, c.fetch_ends.ensures) (record {
      follows = λ h. ∣ by_none (now_of j.base j.first r.recorder) old new all more r.floor r.floor r.last same prefix (omega arith) ∣₁;
      safe = λ h. ∥∥₁_elim r.honest (hlevel props) (λ p. ∥∥₁_map
          (named_safe j.recovers s.recovers g.met.K.Store.one g.met.K.Store.rules r.recovers j.base before (fetched_of o.fetch) o.held r.floor old (s.state o.store).stored (s.state o.store).next
          o.held_is (o.stored ∙ ap (λ q. run q (accepted_of (entries_in before ++ stored_of o.held))) (sym r.base)) o.either r.stored (stands (p h)))
          (safe_with_more j.recovers j.base old new all more r.floor same prefix));
    })

-- no batch was fetched
pub invariant_of-self : goal.invariant_of-self
invariant_of-self g c =
    let s = g.K.Store in
    let b = g.B.Board in
    let r = c.args.self.now in
    let o = r.flusher in
    let n = c.fetch-fetched.new.self in
    let e = c.fetch-fetched.ensures in
    let before = fetched_of o.before.value in
    let fetched = not_fetched c.fetch-fetched.result o.held n.held o.fetch n.fetch e.answer (search rules) in
    record {
      device = r.device;
      premise = r.premise;
      base = r.base ∙ sym (ap b.base e.same.0);
      honest = ∥∥₁_map r.honest (λ p h. subst g.K.Device.Disk.honest (sym e.store.disk) (p h));
      recovers = r.recovers;
      shown = omega (arith, r.shown, ap (λ x. length (b.published x)) e.same.0);
      last = r.last ∙ ap (λ x. moment_of (g.K.Device.Disk.state x) (accepted_of (entries_in (fetched_of o.fetch))) r.floor) (sym e.store.disk)
          ∙ ap (λ l. moment_of (g.K.Device.Disk.state (s.disk n.store)) (accepted_of (entries_in l)) r.floor) (sym fetched);
      stored = omega (
        arith,
        r.stored,
        stored_by_fetch (entries_in before) c.fetch-fetched.result o.held n.held o.fetch n.fetch e.answer,
        ap (λ x. length (accepted_of (entries_in (fetched_of x) ++ stored_of n.held))) e.same.2,
      );
      stopped = λ phase. r.stopped (ap (λ x. x.phase) (sym e.store.state) ∙ phase);
      given_up = λ up. r.given_up (given_up_by_fetch c.fetch-fetched.result o.held n.held o.fetch n.fetch e.answer up);
      count = omega (arith, r.count, ap g.K.Device.Disk.failures e.store.disk);
      cause = λ failed. clash r.failed failed c.if-self.false;
    }

pub invariant_of-self-2 : goal.invariant_of-self-2
invariant_of-self-2 g c =
    let s = g.K.Store in
    let b = g.B.Board in
    let j = g.J.RunId in
    let r = c.args.self.now in
    let o = r.flusher in
    let n = c.fetch-fetched.new.self in
    let e = c.fetch-fetched.ensures in
    let before = fetched_of o.before.value in
    record {
      device = r.device;
      premise = r.premise;
      base = r.base ∙ sym (ap b.base e.same.0);
      honest = ∥∥₁_map r.honest (λ p h. subst g.K.Device.Disk.honest (sym e.store.disk) (p h));
      recovers = r.recovers;
      shown = omega (arith, r.shown, ap (λ x. length (b.published x)) e.same.0);
      last = ap (λ (l : List RecordedMoment). now_of j.base j.first l) (rw (c.keeper-2.ensures.keeper, c.fetch_ends.ensures) at c.record.ensures) ∙ last_is (opening_moment j.base j.first) r.recorder (moment_of (g.K.Device.Disk.state (s.disk n.store)) (accepted_of (entries_in (fetched_of n.fetch))) r.floor);
      stored = omega (
        arith,
        r.stored,
        stored_by_fetch (entries_in before) c.fetch-fetched.result o.held n.held o.fetch n.fetch e.answer,
        ap (λ x. length (accepted_of (entries_in (fetched_of x) ++ stored_of n.held))) e.same.2,
      );
      stopped = λ phase. r.stopped (ap (λ x. x.phase) (sym e.store.state) ∙ phase);
      given_up = λ up. r.given_up (given_up_by_fetch c.fetch-fetched.result o.held n.held o.fetch n.fetch e.answer up);
      count = omega (arith, r.count, ap g.K.Device.Disk.failures e.store.disk);
      cause = λ failed. clash r.failed failed c.if-self.false;
    }
