use Rattle.std.proofs.Common.{List, sym, subst, arith}
use Rattle.std.specs.Prelude.{Err}
use Rattle.alm_model.specs.Look.{IsLook}
use Rattle.alm_model.specs.Plant.{Condensed}
use Rattle.alm_board.proofs.PrefixOfLaws.{prefix_of_prefix}
use Rattle.alm_types.specs.declared.logged_action.LoggedAction.{LoggedAction}
use Rattle.alm_board.specs.PrefixesOf.{IsPrefixOf}
use Rattle.alm_model.specs.Judging.{logged_actions}
use Rattle.alm_shared.proofs.Extents.{refused_answers}
use Rattle.alm_shared.proofs.Prefixes.{actions_prefix_of}
use Rattle.alm_moments.proofs.Prefixes.{prefix_shorter}
use Rattle.alm_shared.proofs.shared_look.look_at.Goals as goal

pub returns-in-Err-clause-answer : goal.returns-in-Err-clause-answer
returns-in-Err-clause-answer g c =
    let known = c.args.known.now.prefix in
    let shown = c.args.shown.now.told.prefix in
    let within = prefix_shorter known shown c.longer.result c.longer.ensures.that c.longer.ensures.this (omega (arith, c.if-len.false, c.len.ensures.length, c.len-2.ensures.length)) in
    let is = subst (λ (q : Condensed). IsLook q c.args.query c.args.answer.now c.look.new.answer (Err c.in-Err.refusal)) c.args.shown.now.is_fold c.in-Err.ensures in
    refused_answers g.J.RunId.base (logged_actions known) (logged_actions shown) c.args.query c.args.answer.now c.look.new.answer c.in-Err.refusal c.requires.there (actions_prefix_of known shown (prefix_of_prefix known shown within)) is

pub returns-in-Ok-clause-later : goal.returns-in-Ok-clause-later
returns-in-Ok-clause-later g c =
    let known = c.args.known.now.prefix in
    let shown = c.args.shown.now.told.prefix in
    let within = prefix_shorter known shown c.longer.result c.longer.ensures.that c.longer.ensures.this (omega (arith, c.if-len.false, c.len.ensures.length, c.len-2.ensures.length)) in
    subst (λ (l : List LoggedAction). IsPrefixOf (logged_actions known) (logged_actions l)) (sym c.again.ensures.prefix) (actions_prefix_of known shown (prefix_of_prefix known shown within))
