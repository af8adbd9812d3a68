use Rattle.alm_desk_laws.proofs.Printed.{priority-printed, area-printed, slot-printed, stale-printed, chatter-printed}
use Rattle.alm_desk_laws.proofs.printing.a_list_is_printed_whole.Goals as goal

pub returns : goal.returns
returns c = record { by_priority = priority-printed; by_area = area-printed; by_deadline = slot-printed; stale = stale-printed; chatter = chatter-printed }
