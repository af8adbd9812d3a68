use Rattle.std.proofs.Common.{◌+◌, List, ℕ, take, ap, ◌∙◌, arith, Ok}
use Rattle.std.proofs.lemmas.List.{take_more_set, take_all, length-set}
use Rattle.alm_codec.specs.ImageFields.{age_field}
use Rattle.alm_codec.proofs.Loops.{goes_on, fails, is_done}
use Rattle.alm_codec.proofs.area_parts.ages_of.Goals as goal

pub returns-in-Err : goal.returns-in-Err
returns-in-Err c =
    fails (age_field c.args.clock) (λ j _. j + 1) c.in-Err.left.0 (take c.loop-age.age c.loop-age.counts) c.loop-age.age 600 c.loop-age.age c.loop-age.rest.now _ c.loop-age-test.true c.in-Err.ensures c.loop-age.invariant.so_far

pub loop-age-preserved : goal.loop-age-preserved
loop-age-preserved c = record {
  all = omega (arith, length-set c.loop-age.counts c.loop-age.age c.in-Ok.found.0, c.loop-age.invariant.all);
  so_far = rw (take_more_set c.loop-age.counts c.loop-age.age c.in-Ok.found.0 (omega (arith, c.loop-age-test.true, c.loop-age.invariant.all)))
      (goes_on (age_field c.args.clock) (λ j _. j + 1) (take c.loop-age.age c.loop-age.counts) c.loop-age.age 600 c.loop-age.age c.loop-age.rest.now c.in-Ok.found.0 c.in-Ok.found.1.now _ c.loop-age-test.true c.in-Ok.ensures c.loop-age.invariant.so_far);
}

pub returns : goal.returns
returns c =
    is_done (age_field c.args.clock) (λ j _. j + 1) (take c.loop-age.age c.loop-age.counts) c.loop-age.age 600 c.loop-age.age c.loop-age.rest.now _ c.loop-age-test.false c.loop-age.invariant.so_far
    ∙ ap (λ (t : List ℕ). Ok (t, c.loop-age.rest.now)) (take_all c.loop-age.age c.loop-age.counts (omega (arith, c.loop-age-test.false, c.loop-age.invariant.all)))
