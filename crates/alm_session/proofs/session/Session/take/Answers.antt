use Rattle.std.proofs.Common.{◌≡◌, length, ◌∷◌, [], refl, sym, ap, rules}
use Rattle.alm_types.specs.declared.answer.Answer.{Answer}
use Rattle.alm_session.specs.Turns.{bad_line, line_kind_at, wants_at}
use Rattle.alm_session.proofs.Steps.{at_once, still, nothing_of, unseen}
use Rattle.alm_session.proofs.session.Session.take.Goals as goal

pub returns-then-not-is_empty-clause-turn : goal.returns-then-not-is_empty-clause-turn
returns-then-not-is_empty-clause-turn g c = λ input written. still _ _ _ refl refl refl refl refl refl refl refl refl refl

pub returns-then-not-is_empty-2-clause-turn : goal.returns-then-not-is_empty-2-clause-turn
returns-then-not-is_empty-2-clause-turn g c = λ input written. still _ _ _ refl refl refl refl refl refl refl refl refl refl

pub returns-then-not-is_empty-3-clause-turn : goal.returns-then-not-is_empty-3-clause-turn
returns-then-not-is_empty-3-clause-turn g c = λ input written. still _ _ _ refl refl refl refl refl refl refl refl refl refl

pub returns-else-not-is_empty-3-clause-turn : goal.returns-else-not-is_empty-3-clause-turn
returns-else-not-is_empty-3-clause-turn g c = λ input written.
    let zero : length c.args.self.now.waiting.items ≡ 0 = search rules in
    let alone = nothing_of c.args.self.now.waiting.items zero in
    at_once _ _ _ c.args.line (bad_line c.args.line.id c.in-Bad.refusal) c.requires.line c.refuse.ensures.held alone c.refuse.ensures.waiting c.requires.empty.0 c.refuse.ensures.left
    (sym (ap (λ a. line_kind_at c.args.line.id a ∷ []) c.in-Bad.is)) (ap wants_at c.in-Bad.is) refl refl refl refl refl refl refl (ap (λ (a : Answer). a.refused) c.refuse.ensures.answer)

pub returns-in-Act-clause-turn : goal.returns-in-Act-clause-turn
returns-in-Act-clause-turn g c = λ input written. unseen (c.send.ensures.turn (g.L.Look.base c.args.look.now) (g.L.Look.knows c.args.look.now) input written)
