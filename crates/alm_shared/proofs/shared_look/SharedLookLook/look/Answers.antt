use Rattle.std.proofs.Common.{ap, ◌∙◌}
use Rattle.std.specs.Prelude.{Err}
use Rattle.alm_model.specs.Judging.{logged_actions}
use Rattle.alm_shared.proofs.Extents.{missing_answers}
use Rattle.alm_shared.proofs.shared_look.SharedLookLook.look.Goals as goal

pub returns-in-Err-clause-answer : goal.returns-in-Err-clause-answer
returns-in-Err-clause-answer g c =
    rw c.in-Err.ensures.0 (missing_answers g.J.RunId.base (logged_actions c.args.self.now.known.prefix) c.args.query c.args.answer.now (λ list. c.in-Err.ensures.1 list ∙ ap Err c.in-Err.ensures.0))
