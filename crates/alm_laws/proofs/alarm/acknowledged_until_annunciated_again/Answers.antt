use Rattle.alm_laws.proofs.Moved.{anew-only}
use Rattle.alm_laws.proofs.alarm.acknowledged_until_annunciated_again.Goals as goal

pub returns : goal.returns
returns c = anew-only
