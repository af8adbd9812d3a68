use Rattle.std.proofs.Common.{◌≡◌, ap, arith, sum, sum_by}
use Rattle.alm_measure_tests.proofs.Few.{few-areas}
use Rattle.alm_measure_tests.proofs.watched.Watched.of.Goals as goal

pub of-requires-clause-limit : goal.of-requires-clause-limit
of-requires-clause-limit c =
    let few = few-areas c.args.ages.items c.requires (omega arith) in
    let same : sum_by sum c.deref.result.now ≡ sum_by sum c.args.ages.items = ap (sum_by sum) c.deref.ensures.value in
    omega arith
