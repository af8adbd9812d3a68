use Rattle.alm_measure.proofs.Runs.{calls-counted, calls-counted-new}
use Rattle.alm_measure.proofs.laws.calls_are_counted.Goals as goal

pub returns : goal.returns
returns c = record { new = calls-counted-new; any = calls-counted }
