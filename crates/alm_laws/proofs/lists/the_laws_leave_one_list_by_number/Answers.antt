use Rattle.alm_laws.proofs.Numbered.{one-stale, one-chattering}
use Rattle.alm_laws.proofs.lists.the_laws_leave_one_list_by_number.Goals as goal

pub returns : goal.returns
returns c = record { stale = one-stale; chatter = one-chattering }
