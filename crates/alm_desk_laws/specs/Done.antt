-- What the lines of a desk have done.
use Rattle.std.specs.Prelude.{◌≡◌, ℕ, List, [], ◌∷◌, ◌++◌, Option, Some, None, Result, length, map}
use Rattle.std.specs.Prelude.{Ok as Good, Err as Wrong}
use Rattle.alm_types.specs.declared.action.Action.{Action}
use Rattle.alm_types.specs.declared.event.Event.{Event}
use Rattle.alm_types.specs.declared.want.Want.{Want}
use Rattle.alm_types.specs.declared.query.Query.{Query}
use Rattle.alm_types.specs.declared.refusal.Refusal.{Refusal}
use Rattle.alm_types.specs.Reports.{Report}
use Rattle.alm_types.specs.Tables.{Listing, IsTable}
use Rattle.alm_model.specs.Plant.{Condensed}
use Rattle.alm_model.specs.Accept.{accept}
use Rattle.alm_model.specs.New.{new_plant}
use Rattle.alm_lines.specs.Reply.{told_text}
use Rattle.alm_lines.specs.declared.ask.Ask.{Ask}
use Rattle.alm_lines.specs.declared.ask.Ask.TheVariants.{Act, Look, Recall}
use Rattle.alm_desk.specs.Answers.{DeskState, SlotLine, AnsweredLine, answered_at, request, reply, event_after, after_line, after_lines}
use Rattle.alm_desk.specs.Desks.{Tagged, lines_among}
use Rattle.alm_desk.specs.Feeding.{line_asked}
use Rattle.alm_desk.specs.declared.hindrance.Hindrance.{Hindrance}
use Rattle.alm_desk.specs.declared.hindrance.Hindrance.TheVariants as hindrance

abbrev pub accepted_action : Result Action Refusal → List Action
accepted_action (Good action) = action ∷ []
accepted_action (Wrong refusal) = []

-- what a line does at a plant: its action, if it is accepted, and the storage didn't stop in it
abbrev pub done_at : Condensed → ℕ → Ask → Hindrance → List Action
done_at q slot (Act want) hindrance.Stopped = []
done_at q slot (Act want) _ = accepted_action (accept q.panel (request slot want))
done_at q slot _ c = []

abbrev pub done_on : Option Condensed → SlotLine → Hindrance → List Action
done_on None l c = []
done_on (Some q) l c = done_at q l.slot l.line.ask c

-- the actions that lines do, in their order
abbrev pub done : DeskState → List AnsweredLine → List Action
done s [] = []
done s (m ∷ ms) = done_on s.plant m.asked m.hindrance ++ done (after_line s m) ms

-- what happened as it did them: the same actions, each with its slot and the plant's moment after it
abbrev pub accepted_event : Condensed → ℕ → Result Action Refusal → List Event
accepted_event q slot (Good action) = event_after q slot action ∷ []
accepted_event q slot (Wrong refusal) = []

abbrev pub happened_at : Condensed → ℕ → Ask → Hindrance → List Event
happened_at q slot (Act want) hindrance.Stopped = []
happened_at q slot (Act want) _ = accepted_event q slot (accept q.panel (request slot want))
happened_at q slot _ c = []

abbrev pub happened_on : Option Condensed → SlotLine → Hindrance → List Event
happened_on None l c = []
happened_on (Some q) l c = happened_at q l.slot l.line.ask c

abbrev pub happened : DeskState → List AnsweredLine → List Event
happened s [] = []
happened s (m ∷ ms) = happened_on s.plant m.asked m.hindrance ++ happened (after_line s m) ms

-- a desk began with the new plant of a table, bytes ended these lines, and its plant is then this one
pub record HasAnswered (t : Listing) (s : DeskState) (lines : List AnsweredLine) (q : Condensed) : Type 0 where
  pub table : IsTable t
  pub begun : s.plant ≡ Some (new_plant t)
  pub helds : List (List ℕ)
  pub bytes : List Tagged
  pub read : map line_asked lines ≡ lines_among helds bytes
  pub stands : (after_lines s lines).plant ≡ Some q

-- what it replies next, to an action, to a query and to SINCE at a slot
abbrev pub reply_to_action : DeskState → List AnsweredLine → ℕ → ℕ → Want → List ℕ
reply_to_action s lines slot id want = reply (after_lines s lines) (answered_at slot (record { id = id; ask = Act want }) hindrance.Nothing)

abbrev pub reply_to_query : DeskState → List AnsweredLine → ℕ → ℕ → Query → List ℕ
reply_to_query s lines slot id asked = reply (after_lines s lines) (answered_at slot (record { id = id; ask = Look asked }) hindrance.Nothing)

abbrev pub reply_to_since : DeskState → List AnsweredLine → ℕ → ℕ → Option ℕ → List ℕ
reply_to_since s lines slot id after = reply (after_lines s lines) (answered_at slot (record { id = id; ask = Recall after }) hindrance.Nothing)

-- a query at a slot is answered next by a report, with the number of actions that are done
abbrev pub PrintsReport : DeskState → List AnsweredLine → ℕ → ℕ → Query → Report → Type 0
PrintsReport s lines slot id asked report = reply_to_query s lines slot id asked ≡ told_text id (length (done s lines)) asked report
