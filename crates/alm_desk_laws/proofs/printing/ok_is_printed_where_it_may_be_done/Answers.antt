use Rattle.alm_desk_laws.proofs.Printed.{ok-printed}
use Rattle.alm_desk_laws.proofs.printing.ok_is_printed_where_it_may_be_done.Goals as goal

pub returns : goal.returns
returns c = ok-printed
