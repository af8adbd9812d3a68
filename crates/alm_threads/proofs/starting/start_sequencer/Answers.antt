use denote.Exit
use denote.Param.Send.{arg_send, param_send}
use Rattle.alm_threads.proofs.Sent.{sequencer_send}
use Rattle.alm_threads.proofs.starting.start_sequencer.Goals as goal

pub spawn_with-requires-send-T : goal.spawn_with-requires-send-T
spawn_with-requires-send-T g c κs within = param_send 3 _ (arg_send _ Exit.no _ (sequencer_send _ g.P.Alarms c.type_bounds.send-P))
