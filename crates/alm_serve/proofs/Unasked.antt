-- Nothing comes of no line.
use Rattle.std.proofs.Common.{◌≡◌, ℕ, List, [], ◌∷◌, ◌++◌, refl, sym, ◌∙◌}
use Rattle.std.specs.Prelude.{map}
use Rattle.std.specs.List.{flat_map}
use Rattle.std.proofs.lemmas.List.{append-nil}
use Rattle.alm_model.specs.Plant.{Condensed}
use Rattle.alm_session.specs.Intakes.{lines_from, lines_in, open_in}
use Rattle.alm_session.specs.Turns.{LineAnswer, by_receipt, by_look, look_refused, no_room, stopped, by_recall, forgotten, recall_stopped, bad_line, unasked, answer_text, waiting_kind, line_kind, kinds, wants, IsTurn, Looks, SlotState}

-- two lists that are empty together
both_empty : {A : Type 0} (xs ys : List A) → xs ++ ys ≡ [] → (xs ≡ []) × (ys ≡ [])
both_empty [] ys e = (refl, e)
both_empty (x ∷ xs) ys e = absurd (cc e)

-- answers to no lines are no text
silent : (base : Condensed) (met : List LineAnswer) → flat_map kinds met ≡ [] → flat_map (answer_text base) met ≡ []
silent base [] e = refl
silent base (unasked heard ∷ ms) e = silent base ms e
silent base (by_receipt w heard ∷ ms) e = absurd (cc e)
silent base (by_look id asked list ∷ ms) e = absurd (cc e)
silent base (look_refused id asked list hindrance ∷ ms) e = absurd (cc e)
silent base (no_room id asked list ∷ ms) e = absurd (cc e)
silent base (stopped id asked ∷ ms) e = absurd (cc e)
silent base (by_recall id after list ∷ ms) e = absurd (cc e)
silent base (forgotten id after list ∷ ms) e = absurd (cc e)
silent base (recall_stopped id after ∷ ms) e = absurd (cc e)
silent base (bad_line id refusal ∷ ms) e = absurd (cc e)

pub nothing_out : {looks : Looks} (base : Condensed) (n : ℕ) (a b : SlotState) (t : IsTurn looks base n a b) → lines_in a.held ++ lines_from (open_in a.held) t.got ≡ []
    → a.waiting ≡ [] → a.left ≡ [] → (b.sent ≡ a.sent) × (t.wrote ≡ []) × (b.left ≡ [])
nothing_out base n a b t lines waiting left =
    let taken = (both_empty t.taken (lines_in b.held) (sym t.lines ∙ lines)).0 in
    let order : map waiting_kind a.waiting ++ map line_kind t.taken ≡ [] = rw (waiting, taken) refl in
    let text = silent base t.met (both_empty (flat_map kinds t.met) (map waiting_kind b.waiting) (sym t.order ∙ order)).0 in
    let all : a.left ++ flat_map (answer_text base) t.met ≡ [] = rw (left, text) refl in
    let out = both_empty t.wrote b.left (sym t.text ∙ all) in
    let sent : a.sent ++ flat_map wants t.taken ≡ a.sent = rw taken (append-nil a.sent) in
    (t.sent ∙ sent, out.0, out.1)
