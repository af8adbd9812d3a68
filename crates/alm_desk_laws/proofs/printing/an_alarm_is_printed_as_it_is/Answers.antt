use Rattle.alm_desk_laws.proofs.Printed.{state-printed, row-printed}
use Rattle.alm_desk_laws.proofs.printing.an_alarm_is_printed_as_it_is.Goals as goal

pub returns : goal.returns
returns c = record { state = state-printed; row = row-printed }
