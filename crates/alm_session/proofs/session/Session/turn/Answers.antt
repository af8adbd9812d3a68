use Rattle.std.proofs.Common.{refl, ap, sym, ◌∙◌, ◌<◌, length, subst, arith}
use Rattle.alm_session.specs.Intakes.{Untaken, lines_in}
use Rattle.alm_session.specs.Outputs.{Unwritten}
use Rattle.alm_session.proofs.Steps.{still, unseen, wrote_some}
use Rattle.alm_session.proofs.Joins.{behind}
use Rattle.alm_session.proofs.Turning.{gone_turns}
use Rattle.alm_session.proofs.session.Session.turn.Goals as goal

pub returns-then-receive-clause-turn : goal.returns-then-receive-clause-turn
returns-then-receive-clause-turn g c = unseen (c.if-receive.ensures.turn (g.W.Wire.input c.args.wire.now) (g.W.Wire.written c.args.wire.now))

pub returns-in-Nothing-clause-turn : goal.returns-in-Nothing-clause-turn
returns-in-Nothing-clause-turn g c =
    let same = c.if-receive.ensures.unseen refl in
    let first = rw same at (c.if-receive.ensures.turn (g.W.Wire.input c.args.wire.now) (g.W.Wire.written c.args.wire.now)) in
    behind (unseen first)
    (behind (still _ _ _ refl refl refl (c.in-Nothing.ensures.sends.1 ∙ sym c.in-Nothing.ensures.sends.0) refl c.write.ensures.input c.in-Nothing.ensures.sends.3 refl refl refl)
    (rw same at c.go_on.ensures.turn))

pub returns-in-Nothing-clause-answer : goal.returns-in-Nothing-clause-answer
returns-in-Nothing-clause-answer g c =
    gone_turns _ _ _ _ _ _ _ _ c.in-Nothing.ensures.counts (c.if-receive.ensures.quiet refl) c.go_on.ensures.answer

pub returns-in-Some-clause-turn : goal.returns-in-Some-clause-turn
returns-in-Some-clause-turn g c =
    let sends = c.in-Some.ensures.sends.1 in
    behind (unseen (c.if-receive.ensures.turn (g.W.Wire.input c.args.wire.now) (g.W.Wire.written c.args.wire.now)))
    (wrote_some _ _ _ sends.0 sends.1 sends.2 refl refl sends.3 refl c.write.ensures.input sends.4 refl refl refl)

pub returns-in-Blocked-clause-turn : goal.returns-in-Blocked-clause-turn
returns-in-Blocked-clause-turn g c =
    let sends = c.in-Blocked.ensures.sends in
    behind (unseen (c.if-receive.ensures.turn (g.W.Wire.input c.args.wire.now) (g.W.Wire.written c.args.wire.now)))
    (still _ _ _ refl refl refl (ap (λ (o : Unwritten). o.left) sends.0) refl c.write.ensures.input sends.1 refl refl refl)

pub returns-in-Failed-clause-turn : goal.returns-in-Failed-clause-turn
returns-in-Failed-clause-turn g c =
    let sends = c.in-Failed.ensures.sends in
    behind (unseen (c.if-receive.ensures.turn (g.W.Wire.input c.args.wire.now) (g.W.Wire.written c.args.wire.now)))
    (still _ _ _ refl refl refl (ap (λ (o : Unwritten). o.left) sends.0) refl c.write.ensures.input sends.1 refl refl refl)

pub returns-in-Nothing-clause-writes_first : goal.returns-in-Nothing-clause-writes_first
returns-in-Nothing-clause-writes_first g c = λ some.
    absurd (omega (arith, some, ap length (ap (λ (o : Unwritten). o.left) (sym (c.if-receive.ensures.left refl)) ∙ c.in-Nothing.ensures.sends.0)))

pub returns-in-Nothing-clause-takes_first : goal.returns-in-Nothing-clause-takes_first
returns-in-Nothing-clause-takes_first g c = λ some.
    c.go_on.ensures.takes_first (subst (λ (h : Untaken). 0 < length (lines_in h)) (sym c.if-receive.ensures.held) some) ∙ c.write.ensures.input
