-- A connection from its beginning to its end.
use Rattle.std.specs.Prelude.{◌≡◌, ℕ, ◌+◌, ◌≤◌, List, [], ◌∷◌, ◌++◌, None, length, map}
use Rattle.std.specs.List.{flat_map}
use Rattle.alm_model.specs.Plant.{Condensed}
use Rattle.alm_session.specs.Intakes.{lines_from, lines_in}
use Rattle.alm_session.specs.Turns.{LineAnswer, answer_text, line_kind, kinds, heards, unasked_receipts, LearnsAll, Looks, SlotState}
use Rattle.alm_session.specs.Unanswered.{Heard}
use Rattle.alm_session.specs.Wires.{ReadsGive}

-- no bytes have come, none are to be written, and no request of the slot is unanswered
abbrev pub IsNew : SlotState → Type 0
IsNew s = (s.held ≡ record { line = None; held = []; rest = [] }) × (s.waiting ≡ []) × (s.left ≡ []) × (length s.sent ≡ length s.heard)

-- all lines that came are taken, all actions answered, all replies written
abbrev pub IsFinished : SlotState → Type 0
IsFinished s = (lines_in s.held ≡ []) × (s.waiting ≡ []) × (s.left ≡ [])

-- receipts with the serials from this one on, in order
abbrev pub HaveSerials : ℕ → List Heard → Type 0
HaveSerials next [] = Unit {0}
HaveSerials next (heard ∷ heards) = (heard.serial ≡ next) × HaveSerials (next + 1) heards

-- each line of what was read is answered, and what was written is the replies in the order of the lines. Each receipt that came
-- answers a line, if no more came than requests were sent, and an action's is that of its own serial. For that the slot's
-- receipts have the serials from 1 on; those of the actions, in the order of their lines, then begin with the first serial that
-- was sent
pub record IsAnswered (looks : Looks) (base : Condensed) (a b : SlotState) : Type 0 where
  pub got : List ℕ
  pub met : List LineAnswer
  pub read : ReadsGive a.input b.input got
  pub lines : map line_kind (lines_from [] got) ≡ flat_map kinds met
  pub written : b.written ≡ a.written ++ flat_map (answer_text base) met
  pub heard : b.heard ≡ a.heard ++ flat_map heards met
  pub learnt : LearnsAll looks base a.known met b.known
  pub own : length b.heard ≤ length b.sent → flat_map unasked_receipts met ≡ []
  pub serials : HaveSerials 1 b.heard → HaveSerials (length a.sent + 1) (flat_map heards met)
