use Rattle.std.proofs.Common.{arith}
use Rattle.std.proofs.lemmas.Grind.{common_steps}
use Rattle.alm_lines.proofs.Prefixes.{up_to_more}
use Rattle.alm_lines.proofs.writing.put.Goals as goal

pub loop-preserved : goal.loop-preserved
loop-preserved g c = up_to_more c.loop.invariant _ c.in_ok-count.count _ c.in_ok-count.ensures.bytes (grind (arith, common_steps))
