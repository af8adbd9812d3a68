use Rattle.alm_model.specs.Judging.{logged_actions}
use Rattle.alm_shared.proofs.laws.what_is_told_stays_stored.Goals as goal

pub returns : goal.returns
returns g c =
    let t = c.args.told.now in
    c.what_is_held_stays_stored.ensures (logged_actions t.prefix) (t.held, t.within)
