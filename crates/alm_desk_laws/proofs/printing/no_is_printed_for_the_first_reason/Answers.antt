use Rattle.alm_desk_laws.proofs.Printed.{no-printed}
use Rattle.alm_desk_laws.proofs.printing.no_is_printed_for_the_first_reason.Goals as goal

pub returns : goal.returns
returns c = no-printed
