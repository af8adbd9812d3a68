use Rattle.std.proofs.Common.{[], ◌∷◌, length, refl, ap, sym, ◌∙◌, arith, length-append}
use Rattle.std.specs.Prelude.{map}
use Rattle.std.proofs.lemmas.List.{append-nil, map-append}
use Rattle.alm_session.specs.Turns.{waiting_kind}
use Rattle.alm_session.specs.Sides.{heard_of}
use Rattle.alm_session.proofs.Steps.{still, took}
use Rattle.alm_session.proofs.session.Session.send.Goals as goal

pub returns-then-is_full-clause-turn : goal.returns-then-is_full-clause-turn
returns-then-is_full-clause-turn g c = λ base known input written. still base _ _ refl refl refl refl refl refl refl refl refl refl

pub returns-in-Err-clause-turn : goal.returns-in-Err-clause-turn
returns-in-Err-clause-turn g c = λ base known input written.
    still base _ _ refl refl refl refl refl refl refl c.in-Err.ensures.busy.1 (ap (map heard_of) c.in-Err.ensures.receipts.0) refl

pub returns-in-Ok-clause-turn : goal.returns-in-Ok-clause-turn
returns-in-Ok-clause-turn g c = λ base known input written.
    let heard = c.in-Ok.ensures.receipts.0 in
    took base _ _ _ [] c.requires.line c.pass.ensures (sym (ap (map waiting_kind) c.push.ensures.items ∙ map-append waiting_kind c.args.self.now.waiting.items (record { id = c.args.id; slot = c.number-slot.result; serial = c.in-Ok.serial; want = c.args.want } ∷ []))) (sym (append-nil c.args.self.now.output.left)) refl refl
    c.in-Ok.ensures.sent.0 (ap (map heard_of) heard) refl refl refl refl
    (omega (arith, ap length c.push.ensures.items, length-append c.args.self.now.waiting.items (record { id = c.args.id; slot = c.args.console.now.slot; serial = c.in-Ok.serial; want = c.args.want } ∷ [])))
