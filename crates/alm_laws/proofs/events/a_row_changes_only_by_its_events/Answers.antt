use Rattle.alm_laws.proofs.Untouched.{row-stays}
use Rattle.alm_laws.proofs.events.a_row_changes_only_by_its_events.Goals as goal

pub returns : goal.returns
returns c = row-stays
