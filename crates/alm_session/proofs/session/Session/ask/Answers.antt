use Rattle.std.proofs.Common.{ℕ, List, ◌<◌, ◌++◌, length, refl, sym, ap, subst, ◌∙◌}
use Rattle.alm_types.specs.declared.refusal.Refusal.TheVariants.{OutOfMemory}
use Rattle.alm_model.specs.Step.{run}
use Rattle.alm_lines.specs.Reply.{no_text}
use Rattle.alm_session.specs.Turns.{by_look, no_room, between}
use Rattle.alm_session.proofs.Steps.{at_once}
use Rattle.alm_session.proofs.Answered.{told_reply, denies}
use Rattle.alm_session.proofs.session.Session.ask.Goals as goal

pub returns-then-not-told-clause-turn : goal.returns-then-not-told-clause-turn
returns-then-not-told-clause-turn g c = λ input written sent heard.
    at_once _ _ _ _ (no_room c.args.id c.args.query (g.L.Look.knows c.look.new.self)) c.requires.line c.pass.ensures c.requires.alone c.requires.alone c.requires.empty.0
    (c.no.ensures.text ∙ ap (λ l. l ++ no_text c.args.id OutOfMemory) (c.if-not-told.ensures.unprinted refl).0) refl refl refl refl
    (rw c.in-Ok.ensures.answer.1 at c.in-Ok.ensures.made, c.look.ensures.later, refl, subst (λ (t : List ℕ). 131072 < length t) (told_reply (run (g.L.Look.base c.args.look.now) (g.L.Look.knows c.look.new.self)) c.args.id c.in-Ok.n c.args.query c.look.new.answer c.in-Ok.ensures.answer.0 c.in-Ok.ensures.answer.1) (c.if-not-told.ensures.unprinted refl).2) refl refl refl refl c.in-Ok.ensures.answer.2

pub returns-else-not-told-clause-turn : goal.returns-else-not-told-clause-turn
returns-else-not-told-clause-turn g c = λ input written sent heard.
    at_once _ _ _ _ (by_look c.args.id c.args.query (g.L.Look.knows c.look.new.self)) c.requires.line c.pass.ensures c.requires.alone c.requires.alone c.requires.empty.0
    (c.if-not-told.ensures.text refl ∙ told_reply (run (g.L.Look.base c.args.look.now) (g.L.Look.knows c.look.new.self)) c.args.id c.in-Ok.n c.args.query c.look.new.answer c.in-Ok.ensures.answer.0 c.in-Ok.ensures.answer.1) refl refl refl refl (rw c.in-Ok.ensures.answer.1 at c.in-Ok.ensures.made, c.look.ensures.later, refl) refl refl refl refl c.in-Ok.ensures.answer.2

pub returns-in-Err-clause-turn : goal.returns-in-Err-clause-turn
returns-in-Err-clause-turn g c = λ input written sent heard.
    let d = denies (between g.L.Look.looked g.L.Recall.recalled c.args.look.now c.look.new.self) _ _ _ c.args.id c.args.query c.args.self.now.answer c.look.new.answer c.in-Err.refusal c.in-Err.ensures.answer c.in-Err.ensures.made in
    at_once _ _ _ _ d.met c.requires.line c.pass.ensures c.requires.alone c.requires.alone c.requires.empty.0
    (c.no-in-Err.ensures.text ∙ ap (λ l. l ++ no_text c.args.id c.in-Err.refusal) c.requires.empty.0 ∙ sym d.text) d.slip refl d.heard d.plain d.known refl refl refl refl d.refused
