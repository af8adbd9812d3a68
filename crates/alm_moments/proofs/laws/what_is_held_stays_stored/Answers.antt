use Rattle.alm_moments.proofs.Courses.{stays}
use Rattle.alm_moments.proofs.laws.what_is_held_stays_stored.Goals as goal

pub returns : goal.returns
returns g c = λ list held.
    let j = g.J.RunId in
    stays j.honest j.recovers j.base j.first c.args.seen.now list held
