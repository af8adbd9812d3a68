use Rattle.std.proofs.Common.{arith}
use Rattle.std.proofs.lemmas.List.Edits.{map_over_more}
use Rattle.std.proofs.lemmas.Grind.{common_steps}
use Rattle.alm_model.specs.Keeping.{ages_after}
use Rattle.alm_measure.proofs.rings.pass_all.Goals as goal

pub loop-ring-preserved : goal.loop-ring-preserved
loop-ring-preserved c = grind (arith, common_steps, map_over_more (ages_after c.args.seconds))
