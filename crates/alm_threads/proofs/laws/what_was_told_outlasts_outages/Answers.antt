use Rattle.alm_threads.proofs.Outages.{outlasts}
use Rattle.alm_threads.proofs.laws.what_was_told_outlasts_outages.Goals as goal

pub returns : goal.returns
returns g c = outlasts g.K.Store.recovers
