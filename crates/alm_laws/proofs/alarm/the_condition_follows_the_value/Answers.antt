use Rattle.alm_laws.proofs.Condition.{condition-follows}
use Rattle.alm_laws.proofs.alarm.the_condition_follows_the_value.Goals as goal

pub returns : goal.returns
returns c = condition-follows
