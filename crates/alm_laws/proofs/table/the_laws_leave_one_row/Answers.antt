use Rattle.alm_laws.proofs.Left.{one-row}
use Rattle.alm_laws.proofs.table.the_laws_leave_one_row.Goals as goal

pub returns : goal.returns
returns c = one-row
