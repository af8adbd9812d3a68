-- Receipts that are dropped.
use Rattle.std.proofs.Common.{◌≡◌, List, [], ◌∷◌, ◌++◌, refl, ap, sym, ◌∙◌, append_assoc, subst}
use Rattle.std.specs.Prelude.{map}
use Rattle.std.proofs.lemmas.List.{append-nil, map-append}
use Rattle.alm_types.specs.declared.action.Action.{Action}
use Rattle.alm_board.specs.PrefixesOf.{IsPrefixOf}
use Rattle.alm_model.specs.Plant.{Condensed}
use Rattle.alm_session.specs.Turns.{LineAnswer, unasked, LearnsAll, no_looks}
use Rattle.alm_session.specs.Unanswered.{Heard}
use Rattle.alm_session.specs.Draining.{IsDrained}
use Rattle.alm_session.proofs.Joins.{knows-append}

pub drained_none : (base : Condensed) (known : List Action) (heard heards : List Heard) → heards ≡ heard → IsDrained base known heard known heards
drained_none base known heard heards e = record { got = []; all = e ∙ sym (append-nil heard); learnt = refl }

pub drained_one : (base : Condensed) (known knows : List Action) (heard heards : List Heard) (h : Heard) → heards ≡ heard ++ h ∷ [] → IsPrefixOf known knows → IsPrefixOf h.list knows → IsDrained base known heard knows heards
drained_one base known knows heard heards h e later told = record { got = h ∷ []; all = e; learnt = (knows, ((later, told), refl)) }

pub drained_more : {base : Condensed} {k l m : List Action} {x y z : List Heard} → IsDrained base k x l y → IsDrained base l y m z → IsDrained base k x m z
drained_more {base} {k} {l} {m} {x} {y} {z} p q = record {
  got = p.got ++ q.got;
  all = q.all ∙ ap (λ (t : List Heard). t ++ q.got) p.all ∙ append_assoc x p.got q.got;
  learnt = subst (λ (ms : List LineAnswer). LearnsAll no_looks base k ms m) (sym (map-append unasked p.got q.got)) (knows-append no_looks base k l m (map unasked p.got) (map unasked q.got) p.learnt q.learnt);
}

pub drained_on : {base from : Condensed} {k l : List Action} {x y : List Heard} → base ≡ from → IsDrained from k x l y → IsDrained base k x l y
drained_on {base} {from} {k} {l} {x} {y} e d = rw e d
