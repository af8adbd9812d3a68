use Rattle.std.proofs.Common.{arith}
use Rattle.alm_codec.proofs.ImageLaws.{alarm_lawful}
use Rattle.alm_codec.proofs.KeptAlarm.{facts}
use Rattle.alm_codec.proofs.alarm_parts.alarm_of.Goals as goal

pub returns-in-Ok-clause-limits : goal.returns-in-Ok-clause-limits
returns-in-Ok-clause-limits c =
    let t = (alarm_lawful c.args.clock c.args.next_stamp c.args.areas c.args.seen.now.keys).takes c.args.bytes.now _ (λ i. omega (arith, c.type_inv.bytes i)) c.in-Ok.ensures.alarm in
    let f = facts c.args.clock c.args.next_stamp c.args.areas c.args.seen.now.keys _ t.1 in
    record { deadband = f.deadband; priority = f.priority; area = omega (arith, f.area, c.requires); max_shelve = f.max_shelve; state = f.state }
