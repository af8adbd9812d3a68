use Rattle.std.proofs.Common.{arith, ap}
use Rattle.alm_model.proofs.Runs.{step_count}
use Rattle.alm_model.proofs.judging.judge.Goals as goal

pub returns-in-Ok-clause-most : goal.returns-in-Ok-clause-most
returns-in-Ok-clause-most g c = λ most. omega (arith, c.in-Ok.ensures.counted, ap (λ q. q.panel.count) c.apply.ensures.plant, step_count (g.P.Alarms.plant c.args.plant.now) c.in-Ok.action)
