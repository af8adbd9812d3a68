use Rattle.std.proofs.Common.{◌≡◌, ◌++◌, ap, sym, subst, ◌∙◌, length, drop, length-append, length-drop, arith}
use Rattle.alm_model.specs.Judging.{logged_actions, logged_of}
use Rattle.alm_model.specs.Rules.{AllAdmitted}
use Rattle.alm_model.specs.Step.{run}
use Rattle.alm_model.proofs.Legal.{actions_append, admitted_both, logged_length}
use Rattle.alm_shared.specs.Growing.{joined_actions}
use Rattle.alm_shared.proofs.Counted.{logged_most}
use Rattle.alm_shared.proofs.Prefixes.{joined_more}
use Rattle.alm_shared.proofs.action_history.ActionHistory.extend.Goals as goal

pub overflow_sub-more : goal.overflow_sub-more
overflow_sub-more g c = omega (arith, c.accepted_in.ensures, logged_length c.args.batch.now.entries, c.requires.within)

pub overflow_add-self : goal.overflow_add-self
overflow_add-self g c =
    let acc = logged_of c.args.batch.now.entries in
    let rest = drop c.args.from acc in
    let old = joined_actions c.self.inside.writer in
    let may : AllAdmitted (run g.J.RunId.base (logged_actions old)) (logged_actions rest) = rw c.self.view_is c.requires.admitted in
    let both = subst (λ l. AllAdmitted g.J.RunId.base l) (sym (actions_append old rest)) (admitted_both g.J.RunId.base (logged_actions old) (logged_actions rest) c.self.invariant.1 may) in
    let all = logged_most g.J.RunId.base (old ++ rest) both in
    omega (arith, all, logged_length c.args.batch.now.entries, length-append old rest, length-drop c.args.from acc, c.accepted_in.ensures, c.self.invariant.0)

pub invariant_of-self : goal.invariant_of-self
invariant_of-self g c =
    let acc = logged_of c.args.batch.now.entries in
    let rest = drop c.args.from acc in
    let old = joined_actions c.self.inside.writer in
    let may : AllAdmitted (run g.J.RunId.base (logged_actions old)) (logged_actions rest) = rw c.self.view_is c.requires.admitted in
    let grown : joined_actions c.add.new.self ≡ old ++ rest = ap joined_actions c.add.ensures ∙ joined_more c.self.inside.writer rest in (
      omega (arith, ap length grown, length-append old rest, length-drop c.args.from acc, c.accepted_in.ensures, logged_length c.args.batch.now.entries, c.self.invariant.0),
      subst (λ l. AllAdmitted g.J.RunId.base l) (sym (ap logged_actions grown ∙ actions_append old rest)) (admitted_both g.J.RunId.base (logged_actions old) (logged_actions rest) c.self.invariant.1 may),
    )

pub returns : goal.returns
returns g c =
    let rest = drop c.args.from (logged_of c.args.batch.now.entries) in
    ap joined_actions c.add.ensures ∙ (joined_more c.self.inside.writer rest ∙ ap (λ l. l ++ rest) c.self.view_is)
