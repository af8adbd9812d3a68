use Rattle.alm_laws.proofs.Asking.{condition-by, design-by}
use Rattle.alm_laws.proofs.askers.only_the_feed_moves_conditions.Goals as goal

pub returns : goal.returns
returns c = record { condition = condition-by; design = design-by }
