use Rattle.alm_laws.proofs.Clocked.{ended-in-order}
use Rattle.alm_laws.proofs.clock.shelvings_end_in_order.Goals as goal

pub returns : goal.returns
returns c = ended-in-order
