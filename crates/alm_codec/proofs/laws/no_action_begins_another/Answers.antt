use Rattle.alm_codec.proofs.Actions.{no_action_begins}
use Rattle.alm_codec.proofs.laws.no_action_begins_another.Goals as goal

pub returns : goal.returns
returns c = no_action_begins
