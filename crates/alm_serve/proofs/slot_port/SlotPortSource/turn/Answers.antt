use Rattle.alm_serve.proofs.Attended.{attends_as}
use Rattle.alm_serve.proofs.slot_port.SlotPortSource.turn.Goals as goal

pub returns-clause-did : goal.returns-clause-did
returns-clause-did g c = (c.attend.ensures.base, attends_as _ _ _ _ c.args.self.now c.attend.new.self _ _ _ _ _ _ c.attend.ensures.attends)
