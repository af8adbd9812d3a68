use Rattle.std.proofs.Common.{◌∙◌, ◌++◌, refl, sym, ap}
use Rattle.alm_events.specs.Events.{asked_after}
use Rattle.alm_lines.specs.Reply.{no_text}
use Rattle.alm_lines.specs.Since.{recalled_text}
use Rattle.alm_session.specs.Turns.{by_recall, between}
use Rattle.alm_session.proofs.Steps.{at_once}
use Rattle.alm_session.proofs.Recalls.{few_told, told_text, tells, untold}
use Rattle.alm_session.proofs.session.Session.recall.Goals as goal

pub since-requires-clause-few : goal.since-requires-clause-few
since-requires-clause-few g c =
    let base = g.L.Look.base c.args.look.now in
    let list = g.L.Recall.logged c.recall.new.self in
    few_told base list (asked_after base list c.args.after) c.deref.result.now (c.deref.ensures.value ∙ c.in-Ok.ensures.answer.events_are)

pub returns-in-Ok-clause-turn : goal.returns-in-Ok-clause-turn
returns-in-Ok-clause-turn g c = λ input written sent heard.
    let base = g.L.Look.base c.args.look.now in
    let list = g.L.Recall.logged c.recall.new.self in
    let looks = between g.L.Look.looked g.L.Recall.recalled c.args.look.now c.recall.new.self in
    at_once _ _ _ _ (by_recall c.args.id c.args.after list) c.requires.line c.pass.ensures c.requires.alone c.requires.alone c.requires.empty.0
    (c.since.ensures.text ∙ (ap (λ es. recalled_text c.args.id c.in-Ok.told.count c.in-Ok.told.first es) c.deref.ensures.value ∙ told_text base c.args.id list (asked_after base list c.args.after) _ c.in-Ok.told c.in-Ok.ensures.answer)) refl refl refl refl
    (tells looks base _ _ _ list c.args.id c.args.after _ c.in-Ok.told c.recall.ensures.known.0 c.recall.ensures.known.1 c.recall.ensures.later c.in-Ok.ensures.answer c.in-Ok.ensures.made) refl refl refl refl refl

pub returns-in-Err-clause-turn : goal.returns-in-Err-clause-turn
returns-in-Err-clause-turn g c = λ input written sent heard.
    let looks = between g.L.Look.looked g.L.Recall.recalled c.args.look.now c.recall.new.self in
    let d = untold looks (g.L.Look.base c.args.look.now) _ _ _ _ c.args.id c.args.after _ _ c.in-Err.refusal c.recall.ensures.known.0 c.recall.ensures.known.1 c.in-Err.ensures.answer c.in-Err.ensures.made in
    at_once _ _ _ _ d.met c.requires.line c.pass.ensures c.requires.alone c.requires.alone c.requires.empty.0
    (c.no.ensures.text ∙ (ap (λ l. l ++ no_text c.args.id c.in-Err.refusal) c.requires.empty.0 ∙ sym d.text)) d.slip refl d.heard d.plain d.learnt refl refl refl refl (d.refused _)
