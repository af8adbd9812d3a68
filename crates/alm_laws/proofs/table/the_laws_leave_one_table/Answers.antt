use Rattle.alm_laws.proofs.OneTable.{table-rows, one-table}
use Rattle.alm_laws.proofs.table.the_laws_leave_one_table.Goals as goal

pub returns : goal.returns
returns c = record { rows = table-rows; one = one-table }
