use Rattle.alm_store.specs.Pace.{IsPieceAhead}
use Rattle.alm_keeper.proofs.Pace.{at_most, takes_any}
use Rattle.alm_keeper.proofs.laws.a_store_that_keeps_its_pace_takes_any_batch.Goals as goal

pub returns-clause-takes : goal.returns-clause-takes
returns-clause-takes c = takes_any

pub returns-clause-few : goal.returns-clause-few
returns-clause-few c = λ segment phase used written g p. at_most segment used (IsPieceAhead phase written) g p
