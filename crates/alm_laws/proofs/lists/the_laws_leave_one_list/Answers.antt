use Rattle.alm_laws.proofs.Listing.{one-list, priority-told, area-told}
use Rattle.alm_laws.proofs.lists.the_laws_leave_one_list.Goals as goal

pub returns : goal.returns
returns c = record { one = one-list; by_priority = priority-told; by_area = area-told }
