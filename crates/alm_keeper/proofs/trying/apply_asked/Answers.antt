use Rattle.std.proofs.Common.{◌≡◌, ◌+◌, ◌∷◌, ◌∙◌, List, drop, drop-cons, add-one, ap, sym, subst}
use Rattle.alm_model.specs.Rules.{AllAdmitted}
use Rattle.alm_model.specs.Step.{run}
use Rattle.alm_codec.specs.declared.asked.Asked.{Asked}
use Rattle.alm_codec.specs.Frames.{asked_actions}
use Rattle.alm_keeper.proofs.trying.apply_asked.Goals as goal

pub loop-one-preserved : goal.loop-one-preserved
loop-one-preserved c =
    let xs : List Asked = c.args.asked.now in
    let k = c.loop-one.one-index in
    let x = c.one-item.result in
    let rest : drop k xs ≡ x ∷ drop (k + 1) xs = drop-cons xs k x c.loop-one-test.true ∙ (λ i. sym c.one-item.is i ∷ drop (sym (add-one k) i) xs) in
    let here = subst (λ (l : List Asked). AllAdmitted c.loop-one.plant (asked_actions l)) rest c.loop-one.invariant.rest in
    record {
      run = ap (λ p. run p (asked_actions (drop (k + 1) xs))) c.apply.ensures.plant ∙ ap (λ (l : List Asked). run c.loop-one.plant (asked_actions l)) (sym rest) ∙ c.loop-one.invariant.run;
      rest = subst (λ p. AllAdmitted p (asked_actions (drop (k + 1) xs))) (sym c.apply.ensures.plant) here.1;
    }
