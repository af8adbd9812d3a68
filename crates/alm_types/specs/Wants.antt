-- What is done if a request is accepted.
use Rattle.alm_types.specs.declared.action.Action.{Action}
use Rattle.alm_types.specs.declared.action.Action.TheVariants.{Ack}
use Rattle.alm_types.specs.declared.want.Want.{Want}
use Rattle.alm_types.specs.declared.want.Want.TheVariants.{Do, AckSeen}
use Rattle.alm_types.specs.declared.request.Request.{Request}

abbrev pub action_of : Want → Action
action_of (Do a) = a
action_of (AckSeen i stamp) = Ack i

abbrev pub wanted_action : Request → Action
wanted_action r = action_of r.want
