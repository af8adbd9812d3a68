use Rattle.std.proofs.Common.{◌≡◌, ◌∷◌, ◌++◌, [], List, ap, sym, subst, ◌∙◌}
use Rattle.alm_model.specs.Judging.{accepted_of, entries_in}
use Rattle.alm_rings.specs.Batches.{fetched_of}
use Rattle.alm_moments.specs.Moments.{AreMoments, moment_of}
use Rattle.alm_moments.specs.declared.recorded_moment.RecordedMoment.{RecordedMoment}
use Rattle.alm_moments.proofs.Courses.{goes_on}
use Rattle.alm_moments.proofs.recorder.Recorder.record.Goals as goal

pub invariant_of-self : goal.invariant_of-self
invariant_of-self g c =
    let j = g.J.RunId in
    let now = moment_of (g.K.Device.Disk.state (g.K.Store.disk c.args.now.now.store.now)) (accepted_of (entries_in (fetched_of c.args.now.now.fetch.now))) c.args.now.now.floor in
    let Stand = λ (l : List RecordedMoment). AreMoments j.honest j.recovers j.base j.first l in
    let grown : c.add.new.self ≡ c.args.self.now ++ now ∷ [] = c.add.ensures ∙ ap (λ l. l ++ now ∷ []) c.self.view_is in
    subst Stand (sym grown) (goes_on j.honest j.recovers j.base j.first c.args.self.now now (subst Stand c.self.view_is c.self.invariant) c.requires.follows c.requires.safe)
