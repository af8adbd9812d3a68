use Rattle.alm_laws.proofs.Stamping.{run-new, run-one, run-never}
use Rattle.alm_laws.proofs.stamps.no_stamp_is_given_twice.Goals as goal

pub returns : goal.returns
returns c = record { new = run-new; one = run-one; never_again = run-never }
