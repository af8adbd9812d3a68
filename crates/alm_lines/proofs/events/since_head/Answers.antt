use Rattle.std.proofs.Common.{arith}
use Rattle.alm_lines.proofs.SinceLengths.{any-head-short}
use Rattle.alm_lines.proofs.events.since_head.Goals as goal

pub returns-clause-short : goal.returns-clause-short
returns-clause-short c = any-head-short c.args.id c.args.n c.args.first c.args.len (omega (arith, c.ranges.id)) (omega (arith, c.ranges.n)) (omega (arith, c.ranges.first)) (omega (arith, c.ranges.len))
