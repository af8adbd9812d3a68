use Rattle.std.proofs.Common.{refl, ap, length, arith, ◌∙◌, sym}
use Rattle.alm_session.specs.Sides.{heard_by}
use Rattle.alm_rings.specs.Ends.{sent_of}
use Rattle.alm_session.proofs.Steps.{still, unseen}
use Rattle.alm_session.proofs.Joins.{behind}
use Rattle.alm_session.proofs.Turning.{none_held}
use Rattle.alm_session.proofs.session.Session.go_on.Goals as goal

pub returns-in-Some-clause-turn : goal.returns-in-Some-clause-turn
returns-in-Some-clause-turn g c =
    behind (still _ _ _ c.line.ensures.lines c.line.ensures.open refl refl refl refl refl refl refl refl) (c.take.ensures.turn (g.W.Wire.input c.args.wire.now) (g.W.Wire.written c.args.wire.now))

pub returns-in-None-clause-turn : goal.returns-in-None-clause-turn
returns-in-None-clause-turn g c =
    behind (still _ _ _ c.line.ensures.lines c.line.ensures.open refl refl refl refl refl refl refl refl)
    (unseen (c.read.ensures.turn (g.L.Look.base c.args.look.now) (g.L.Look.knows c.args.look.now) (sent_of c.args.console.now) (heard_by c.args.console.now)))

pub returns-in-None-clause-takes_first : goal.returns-in-None-clause-takes_first
returns-in-None-clause-takes_first g c = λ some.
    let none = none_held _ (sym c.line.ensures.line ∙ c.in-None.is) (c.line.ensures.none c.in-None.is) in
    absurd (omega (arith, some, ap length (sym c.line.ensures.lines ∙ none)))
