use Rattle.std.proofs.Common.{◌≡◌, ◌++◌, ◌∷◌, [], List, ℕ, Bool, sum, sym, ap, ◌∙◌, arith}
use Rattle.std.specs.Option.{option_and_then}
use Rattle.std.proofs.lemmas.List.{length-append}
use Rattle.alm_codec.specs.Bounds.{under}
use Rattle.alm_codec.specs.ImageFields.{Area, area, all_ages, areas_in}
use Rattle.alm_codec.proofs.Areas.{areas_in-push, all_ages-push, under-then}
use Rattle.alm_codec.proofs.Loops.{goes_on, fails, is_done}
use Rattle.alm_codec.proofs.area_lists.each_area.Goals as goal

pub returns-in-Err-clause-areas : goal.returns-in-Err-clause-areas
returns-in-Err-clause-areas c =
    fails {S = ℕ} (λ _. area c.args.clock) (λ s _. s) c.in-Err.left.0 (areas_in c.loop.lists.floods.items c.loop.lists.ages.items) 0 c.args.areas c.loop.counter c.loop.rest.now _ c.loop-test.true c.in-Err.ensures c.loop.invariant.so_far

pub loop-preserved : goal.loop-preserved
loop-preserved c =
    let floods : List Bool = c.loop.lists.floods.items in
    let ages : List (List ℕ) = c.loop.lists.ages.items in
    let found = c.in-Ok.found.0 in
    let one : Area = record { flood = found.flood; ages = found.ages } in
    let e : areas_in c.push.new.self.floods.items c.push.new.self.ages.items ≡ areas_in floods ages ++ one ∷ [] =
    rw (c.in_ok-push.ensures.floods, c.in_ok-push.ensures.ages) (areas_in-push floods ages found.flood found.ages (omega (arith, c.loop.invariant.floods, c.loop.invariant.ages))) in
    record {
      floods = rw c.in_ok-push.ensures.floods (omega (arith, length-append floods (found.flood ∷ []), c.loop.invariant.floods));
      ages = rw c.in_ok-push.ensures.ages (omega (arith, length-append ages (found.ages ∷ []), c.loop.invariant.ages));
      left = c.in_ok-push.ensures.left
          ∙ ap (λ o. option_and_then (λ left. under left (sum found.ages)) o) c.loop.invariant.left
          ∙ under-then c.args.bound (all_ages (areas_in floods ages)) (sum found.ages)
          ∙ ap (λ (n : ℕ). under c.args.bound n) (sym (all_ages-push (areas_in floods ages) one))
          ∙ ap (λ (list : List Area). under c.args.bound (all_ages list)) (sym e);
      so_far = rw e (goes_on {S = ℕ} (λ _. area c.args.clock) (λ s _. s) (areas_in floods ages) 0 c.args.areas c.loop.counter c.loop.rest.now one c.in-Ok.found.1.now _ c.loop-test.true c.in-Ok.ensures c.loop.invariant.so_far);
    }

pub returns-clause-areas : goal.returns-clause-areas
returns-clause-areas c = is_done {S = ℕ} (λ _. area c.args.clock) (λ s _. s) (areas_in c.loop.lists.floods.items c.loop.lists.ages.items) 0 c.args.areas c.loop.counter c.loop.rest.now _ c.loop-test.false c.loop.invariant.so_far
