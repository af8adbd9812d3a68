use Rattle.alm_pipeline.specs.World.{after_step}
use Rattle.alm_bench.proofs.bench.Bench.step.Goals as goal

pub returns-clause-steps : goal.returns-clause-steps
returns-clause-steps g c = λ honest w m.
    let a = c.act-event.ensures in
    record {
      answer = a.answer honest w m;
      moves = a.moves honest w m;
      stands = a.stands honest w m;
      headline = c.images-2.ensures.headline (after_step w c.args.step.now c.act-event.result) (a.stands honest w m);
      paces = λ more e. a.paces honest w more m e;
    }
