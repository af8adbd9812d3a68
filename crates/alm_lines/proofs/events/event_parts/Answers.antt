use Rattle.std.proofs.Common.{arith}
use Rattle.alm_lines.proofs.SinceLengths.{any-event-short}
use Rattle.alm_lines.proofs.events.event_parts.Goals as goal

pub returns-clause-short : goal.returns-clause-short
returns-clause-short c =
    any-event-short c.args.event.now (record {
      moment = omega (arith, c.seconds.ensures.seconds, c.seconds.ensures.limit);
      slot = omega (arith, c.number.ensures.number, c.number.ensures.limit);
      action = c.action_parts.ensures.range;
    })
