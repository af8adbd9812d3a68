use Rattle.std.proofs.Common.{List, sym, subst}
use Rattle.alm_moments.specs.Moments.{AreMoments}
use Rattle.alm_moments.specs.declared.recorded_moment.RecordedMoment.{RecordedMoment}
use Rattle.alm_moments.proofs.Courses.{named_opened}
use Rattle.alm_moments.proofs.recorder.Recorder.new.Goals as goal

pub invariant_of-result : goal.invariant_of-result
invariant_of-result g c =
    let j = g.J.RunId in
    let s = g.K.Store in
    let k = c.args.store.now in
    let r = c.requires in
    let next = g.met.K.Store.idle k (λ p. absurd (cc (r.idle, p))) (λ p. absurd (cc (r.idle, p))) in
    subst (λ (l : List RecordedMoment). AreMoments j.honest j.recovers j.base j.first l) (sym c.in_ok-writer.ensures)
    (named_opened j.honest (g.K.Device.Disk.honest (s.disk k)) j.recovers s.recovers g.met.K.Store.one g.met.K.Store.rules r.named.recovers r.named.honest
    j.base (s.state k).stored (s.state k).next j.first (g.K.Device.Disk.state (s.disk k)) r.named.base next r.named.device c.images.ensures.stands)
