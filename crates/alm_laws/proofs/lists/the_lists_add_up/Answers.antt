use Rattle.alm_laws.proofs.Sums.{priorities-sum, areas-sum}
use Rattle.alm_laws.proofs.lists.the_lists_add_up.Goals as goal

pub returns : goal.returns
returns c = record { priorities = priorities-sum; areas = areas-sum }
