use Rattle.std.proofs.Common.{◌≡◌, List, [], ◌∷◌, Contains, Option, Some, OnOk, subst, ◌∙◌}
use Rattle.alm_model.specs.Plant.{Condensed}
use Rattle.alm_desk.specs.Answers.{DeskState, standing_of}
use Rattle.alm_desk.specs.DeskLines.{AnswersInput}
use Rattle.alm_keeper.specs.AsStore.{StandsFor}
use Rattle.alm_stack.specs.Stacks.{kept_of, stands_of}
use Rattle.alm_program.specs.DeskRuns.{AreJudgedAtDesk, JudgedAtDesk}
use Rattle.alm_program.proofs.desk.run_stack_between.Goals as goal

pub returns : goal.returns
returns g c =
    let e = c.in_ok-done.ensures in
    let k = c.into_stack-back.ensures in
    let base = g.J.DeskId.base in
    let plant : stands_of c.into_stack-back.result ≡ e.0.plant = (λ i. stands_of (k.stack i)) ∙ e.1 in
    let kept : kept_of c.into_stack-back.result ≡ e.0.kept = (λ i. kept_of (k.stack i)) ∙ e.2 in
    let stands : stands_of c.new-stack.result.stack ≡ Some base = (λ i. stands_of (c.new-stack.ensures i)) ∙ c.requires.stands in
    let holds : kept_of c.new-stack.result.stack ≡ base ∷ [] = (λ i. kept_of (c.new-stack.ensures i)) ∙ c.requires.kept in
    let sound : c.new-stack.result.stack.failures ≡ 0 = (λ i. (c.new-stack.ensures i).failures) ∙ c.requires.sound in (
      e.0,
      record {
        honest = k.honest;
        judged = subst (λ (p : Option Condensed). ∥ ((js : List JudgedAtDesk) × AreJudgedAtDesk (Some base) (base ∷ []) js p e.0.kept) ∥₁) plant
            (subst (λ (q : List Condensed). ∥ ((js : List JudgedAtDesk) × AreJudgedAtDesk (Some base) (base ∷ []) js (stands_of c.into_stack-back.result) q) ∥₁) kept k.judged);
        printed = subst
            (λ (s : DeskState). OnOk c.in_ok-done.field-0.done
            (AnswersInput s (g.I.Read.remaining c.args.reader.now.inner) (g.W.Write.contents c.args.writer.now.inner) e.0 (g.W.Write.contents c.run_backend_between.new.writer.inner)))
            (λ i. standing_of (stands i) (holds i) (sound i) 0 []) e.3;
        holds = λ honest image is. subst (λ (q : List Condensed). ∥ ((p : Condensed) × Contains q p × StandsFor image p) ∥₁) kept (k.holds honest image is);
      },
    )
