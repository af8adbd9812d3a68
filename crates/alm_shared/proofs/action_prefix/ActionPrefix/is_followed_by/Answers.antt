use Rattle.std.proofs.Common.{◌≡◌, ◌++◌, ◌+◌, length, arith, subst, ap, ◌∙◌}
use Rattle.std.proofs.lemmas.Bool.Decides.{nat_tests}
use Rattle.alm_model.specs.Judging.{logged_actions}
use Rattle.alm_model.specs.Rules.{AllAdmitted}
use Rattle.alm_model.proofs.Legal.{actions_append, admitted_append}
use Rattle.alm_moments.proofs.Prefixes.{prefix_shorter}
use Rattle.alm_shared.proofs.Prefixes.{followed_by}
use Rattle.alm_shared.proofs.action_prefix.ActionPrefix.is_followed_by.Goals as goal

pub returns-clause-next : goal.returns-clause-next
returns-clause-next g c is =
    let xs = c.args.self.now in
    let ys = c.args.next.now in
    let long : length ys ≡ length xs + length c.args.actions.now = grind (arith, nat_tests) in
    followed_by xs ys c.args.actions.now (prefix_shorter xs ys c.longer.result c.longer.ensures.this c.longer.ensures.that (omega arith)) long c.requires.last

pub returns-clause-admitted : goal.returns-clause-admitted
returns-clause-admitted g c is =
    let xs = c.args.self.now in
    let ys = c.args.next.now in
    let long : length ys ≡ length xs + length c.args.actions.now = grind (arith, nat_tests) in
    let next : ys ≡ xs ++ c.args.actions.now = followed_by xs ys c.args.actions.now (prefix_shorter xs ys c.longer.result c.longer.ensures.this c.longer.ensures.that (omega arith)) long c.requires.last in
    admitted_append g.J.RunId.base (logged_actions xs) (logged_actions c.args.actions.now)
    (subst (λ l. AllAdmitted g.J.RunId.base l) (ap logged_actions next ∙ actions_append xs c.args.actions.now) c.len.ensures.admitted)
