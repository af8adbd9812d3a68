use Rattle.std.proofs.Common.{List, [], ◌∷◌, refl, sym, ap, ◌∙◌}
use Rattle.std.specs.Prelude.{map}
use Rattle.std.proofs.lemmas.List.{map-append}
use Rattle.alm_types.specs.declared.answer.Answer.{Answer}
use Rattle.alm_rings.specs.Ends.{received_of}
use Rattle.alm_session.specs.Sides.{heard_of}
use Rattle.alm_session.specs.declared.unanswered.Unanswered.{Unanswered}
use Rattle.alm_session.proofs.Named.{answers_it}
use Rattle.alm_session.proofs.Steps.{still, answered, strayed}
use Rattle.alm_session.proofs.session.Session.receive.Goals as goal

pub returns-in_default-clause-turn : goal.returns-in_default-clause-turn
returns-in_default-clause-turn g c = λ input written.
    still _ _ _ refl refl refl refl refl refl refl c.in_default.ensures.requests.0 (ap (map heard_of) (c.in_default.ensures.none.0)) refl

pub returns-then-is_awaited-clause-turn : goal.returns-then-is_awaited-clause-turn
returns-then-is_awaited-clause-turn g c = λ input written.
    let h = heard_of c.in-Some.receipt in
    let is = c.if-is_awaited.ensures.some refl in
    let done = c.answer_first.ensures.some is.0 is.1.0 is.1.1.0 in
    answered _ _ _ is.0 h c.answer_first.ensures.held (is.1.1.0 ∙ ap (λ (l : List Unanswered). is.0 ∷ l) (sym done.0)) done.1 c.learn.ensures.later c.learn.ensures.told
    (answers_it is.0 h c.in-Some.receipt.names is.1.1.1) refl refl c.in-Some.ensures.requests.0
    (ap (map heard_of) c.in-Some.ensures.some ∙ map-append heard_of (received_of c.args.console.now) (c.in-Some.receipt ∷ []))
    (ap (λ (a : Answer). a.refused) c.answer_first.ensures.answer)

pub returns-else-is_awaited-clause-turn : goal.returns-else-is_awaited-clause-turn
returns-else-is_awaited-clause-turn g c = λ input written.
    strayed _ _ _ (heard_of c.in-Some.receipt) refl refl refl c.learn.ensures.later c.learn.ensures.told refl refl c.in-Some.ensures.requests.0
    (ap (map heard_of) c.in-Some.ensures.some ∙ map-append heard_of (received_of c.args.console.now) (c.in-Some.receipt ∷ [])) refl
