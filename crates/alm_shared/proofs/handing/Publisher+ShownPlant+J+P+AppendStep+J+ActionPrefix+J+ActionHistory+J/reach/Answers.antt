use Rattle.std.proofs.Common.{◌≡◌, ◌-◌, ◌++◌, ap, subst, arith, length, drop, ◌∙◌, sym}
use Rattle.alm_model.specs.Judging.{logged_actions, logged_of}
use Rattle.alm_model.specs.Rules.{AllAdmitted}
use Rattle.alm_model.specs.Step.{run}
use Rattle.alm_model.proofs.Legal.{actions_logged}
use Rattle.alm_shared.specs.SharedBoards.{board_shown}
use Rattle.alm_shared.proofs.Behinds.{rest_admitted, rest_whole}
use Rattle.alm_shared.proofs.handing.Publisher+ShownPlant+J+P+AppendStep+J+ActionPrefix+J+ActionHistory+J.reach.Goals as goal

pub extend-requires-clause-admitted : goal.extend-requires-clause-admitted
extend-requires-clause-admitted g c =
    let s = board_shown c.args.self.now in
    let t = c.args.self.now.extra in
    let acc = logged_of c.args.batch.now.entries in
    let from : length t - length s ≡ c.len.result - c.len-2.result = omega (arith, c.len.ensures, c.len-2.ensures.length, ap (λ v. length v.told.prefix) c.shown.ensures) in
    let all : AllAdmitted (run g.J.RunId.base (logged_actions s)) (logged_actions acc) = subst (AllAdmitted (run g.J.RunId.base (logged_actions s))) (sym (actions_logged c.args.batch.now.entries)) c.requires.admitted in
    subst (λ n. AllAdmitted (run g.J.RunId.base (logged_actions t)) (logged_actions (drop n acc))) from (rest_admitted s t acc c.requires.ahead c.requires.same g.J.RunId.base all)

pub returns-clause-reached : goal.returns-clause-reached
returns-clause-reached g c =
    let s = board_shown c.args.self.now in
    let t = c.args.self.now.extra in
    let acc = logged_of c.args.batch.now.entries in
    let from : c.len.result - c.len-2.result ≡ length t - length s = omega (arith, c.len.ensures, c.len-2.ensures.length, ap (λ v. length v.told.prefix) c.shown.ensures) in
    let whole : t ++ drop (c.len.result - c.len-2.result) acc ≡ s ++ acc = ap (λ n. t ++ drop n acc) from ∙ rest_whole s t acc c.requires.ahead c.requires.same in
    c.extend.ensures ∙ whole
