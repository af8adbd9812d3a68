-- What is answered to lines.
use Rattle.std.specs.Prelude.{ℕ, ◌+◌, ◌-◌, List, [], ◌∷◌, ◌++◌, Option, Some, None, Result, unwrap_or, nat_le, length, take, drop, if◌then◌else◌}
use Rattle.std.specs.Prelude.{Ok as Good, Err as Wrong}
use Rattle.alm_types.specs.declared.action.Action.{Action}
use Rattle.alm_types.specs.declared.event.Event.{Event}
use Rattle.alm_types.specs.declared.want.Want.{Want}
use Rattle.alm_types.specs.declared.request.Request.{Request}
use Rattle.alm_types.specs.declared.verdict.Verdict.{Verdict}
use Rattle.alm_types.specs.declared.verdict.Verdict.TheVariants.{Accepted, Refused}
use Rattle.alm_types.specs.declared.refusal.Refusal.{Refusal}
use Rattle.alm_types.specs.declared.refusal.Refusal.TheVariants.{Stopped, OutOfMemory, Forgotten}
use Rattle.alm_types.specs.declared.query.Query.{Query}
use Rattle.alm_types.specs.Counts.{one_more}
use Rattle.alm_types.specs.Reports.{Report}
use Rattle.alm_model.specs.Plant.{Condensed}
use Rattle.alm_model.specs.Accept.{accept}
use Rattle.alm_model.specs.Step.{step}
use Rattle.alm_model.specs.Look.{look, asks_list, asks_for}
use Rattle.alm_events.specs.Events.{most_kept, most_told, last}
use Rattle.alm_lines.specs.declared.line.Line.{Line}
use Rattle.alm_lines.specs.declared.ask.Ask.{Ask}
use Rattle.alm_lines.specs.declared.ask.Ask.TheVariants.{Act, Look, Recall, Bad}
use Rattle.alm_lines.specs.Reply.{ok_text, no_text, told_text}
use Rattle.alm_lines.specs.Since.{recalled_text}
use Rattle.alm_desk.specs.Backends.{if_accepted, judged_on}
use Rattle.alm_desk.specs.declared.judged_request.JudgedRequest.{JudgedRequest}
use Rattle.alm_desk.specs.declared.hindrance.Hindrance.{Hindrance}
use Rattle.alm_desk.specs.declared.hindrance.Hindrance.TheVariants as hindrance

-- the plant, none once its storage has stopped; how often the storage failed, and how many growths of a list were refused.
-- Also the last actions that were accepted since the desk began
pub record DeskState : Type 0 where
  pub plant : Option Condensed
  -- the plants for one of which the storage stands
  pub kept : List Condensed
  pub failures : ℕ
  pub refused : ℕ
  pub recent : List Event

abbrev pub standing_of : Option Condensed → List Condensed → ℕ → ℕ → List Event → DeskState
standing_of plant kept failures refused recent = record { plant = plant; kept = kept; failures = failures; refused = refused; recent = recent }

-- a line that came at a slot
pub record SlotLine : Type 0 where
  pub slot : ℕ
  pub line : Line

-- a line, with what hindered it
pub record AnsweredLine : Type 0 where
  pub asked : SlotLine
  pub hindrance : Hindrance

abbrev pub answered_at : ℕ → Line → Hindrance → AnsweredLine
answered_at slot line hindrance = record { asked = record { slot = slot; line = line }; hindrance = hindrance }

abbrev pub request : ℕ → Want → Request
request slot want = record { slot = slot; want = want }

-- the reply to what became of a request
abbrev pub verdict_reply : ℕ → ℕ → Verdict → List ℕ
verdict_reply id number (Accepted action) = ok_text id number
verdict_reply id number (Refused refusal count) = no_text id refusal

abbrev pub judged_reply : ℕ → JudgedRequest → List ℕ
judged_reply id j = verdict_reply id j.number j.verdict

abbrev pub action_reply : Condensed → ℕ → ℕ → Want → Hindrance → List ℕ
action_reply q slot id want hindrance.Stopped = no_text id Stopped
action_reply q slot id want _ = judged_reply id (judged_on q (request slot want))

-- the reply to a query
abbrev pub report_reply : ℕ → ℕ → Query → Result Report Refusal → List ℕ
report_reply id count query (Good reported) = told_text id count query reported
report_reply id count query (Wrong refusal) = no_text id refusal

abbrev pub look_reply : Condensed → ℕ → Query → Hindrance → List ℕ
look_reply q id query hindrance.NoMemory =
    if asks_for q (asks_list query) then no_text id OutOfMemory else report_reply id q.panel.count query (look q query)
look_reply q id query _ = report_reply id q.panel.count query (look q query)

-- what happened after a number, if each action after it is remembered
abbrev pub since_reply : Condensed → List Event → ℕ → ℕ → List ℕ
since_reply q recent id n =
    if nat_le q.panel.count (n + length recent) then
    recalled_text id q.panel.count (one_more n) (take most_told (drop (n - (q.panel.count - length recent)) recent))
    else no_text id Forgotten

-- without a number, after the smallest one that is answered
abbrev pub recall_reply : Condensed → List Event → ℕ → Option ℕ → List ℕ
recall_reply q recent id after = since_reply q recent id (unwrap_or after (q.panel.count - length recent))

abbrev pub ask_reply : Condensed → List Event → ℕ → ℕ → Ask → Hindrance → List ℕ
ask_reply q recent slot id (Act want) c = action_reply q slot id want c
ask_reply q recent slot id (Look query) c = look_reply q id query c
ask_reply q recent slot id (Recall after) c = recall_reply q recent id after
ask_reply q recent slot id (Bad refusal) c = no_text id refusal

-- once the storage has stopped, each request is answered so
abbrev pub stopped_reply : ℕ → Ask → List ℕ
stopped_reply id (Act want) = no_text id Stopped
stopped_reply id (Look query) = no_text id Stopped
stopped_reply id (Recall after) = no_text id Stopped
stopped_reply id (Bad refusal) = no_text id refusal

abbrev pub reply_on : Option Condensed → List Event → SlotLine → Hindrance → List ℕ
reply_on None recent s c = stopped_reply s.line.id s.line.ask
reply_on (Some q) recent s c = ask_reply q recent s.slot s.line.id s.line.ask c

-- the reply to a line
abbrev pub reply : DeskState → AnsweredLine → List ℕ
reply s m = reply_on s.plant s.recent m.asked m.hindrance

-- the plant after an action
abbrev pub act_after : Condensed → ℕ → Want → Hindrance → Option Condensed
act_after q slot want hindrance.Stopped = None
act_after q slot want _ = Some (if_accepted q (accept q.panel (request slot want)))

abbrev pub ask_after : Condensed → ℕ → Ask → Hindrance → Option Condensed
ask_after q slot (Act want) c = act_after q slot want c
ask_after q slot (Look query) c = Some q
ask_after q slot (Recall after) c = Some q
ask_after q slot (Bad refusal) c = Some q

abbrev pub plant_after : Option Condensed → SlotLine → Hindrance → Option Condensed
plant_after None s c = None
plant_after (Some q) s c = ask_after q s.slot s.line.ask c

-- the storage holds the plant alone; if it stopped at an action, the plant before, without that action or with it
abbrev pub kept_on : Condensed → List Condensed → ℕ → Ask → Hindrance → List Condensed
kept_on q kept slot (Act want) hindrance.Stopped = q ∷ if_accepted q (accept q.panel (request slot want)) ∷ []
kept_on q kept slot (Act want) _ = if_accepted q (accept q.panel (request slot want)) ∷ []
kept_on q kept slot _ c = kept

abbrev pub kept_after : Option Condensed → List Condensed → SlotLine → Hindrance → List Condensed
kept_after None kept s c = kept
kept_after (Some q) kept s c = kept_on q kept s.slot s.line.ask c

-- the storage failed if it stopped at an action
abbrev pub failed_by : ℕ → Ask → Hindrance → ℕ
failed_by n (Act want) hindrance.Stopped = one_more n
failed_by n _ _ = n

abbrev pub failures_after : Option Condensed → ℕ → SlotLine → Hindrance → ℕ
failures_after None n s c = n
failures_after (Some q) n s c = failed_by n s.line.ask c

-- a growth was refused if a list that exists had no memory
abbrev pub refused_by : Condensed → ℕ → Ask → Hindrance → ℕ
refused_by q n (Look query) hindrance.NoMemory = if asks_for q (asks_list query) then one_more n else n
refused_by q n _ _ = n

abbrev pub refused_after : Option Condensed → ℕ → SlotLine → Hindrance → ℕ
refused_after None n s c = n
refused_after (Some q) n s c = refused_by q n s.line.ask c

-- an accepted action is remembered, with the moment after it
abbrev pub event_after : Condensed → ℕ → Action → Event
event_after q slot action = record { moment = (step q action).panel.now; slot = slot; action = action }

abbrev pub recent_if_accepted : Condensed → List Event → ℕ → Result Action Refusal → List Event
recent_if_accepted q recent slot (Good action) = last most_kept (recent ++ event_after q slot action ∷ [])
recent_if_accepted q recent slot (Wrong reason) = recent

abbrev pub recent_by : Condensed → List Event → ℕ → Ask → Hindrance → List Event
recent_by q recent slot (Act want) hindrance.Stopped = recent
recent_by q recent slot (Act want) _ = recent_if_accepted q recent slot (accept q.panel (request slot want))
recent_by q recent slot _ c = recent

abbrev pub recent_after : Option Condensed → List Event → SlotLine → Hindrance → List Event
recent_after None recent s c = recent
recent_after (Some q) recent s c = recent_by q recent s.slot s.line.ask c

-- the state after a line
abbrev pub after_line : DeskState → AnsweredLine → DeskState
after_line s m =
    standing_of (plant_after s.plant m.asked m.hindrance) (kept_after s.plant s.kept m.asked m.hindrance) (failures_after s.plant s.failures m.asked m.hindrance)
    (refused_after s.plant s.refused m.asked m.hindrance) (recent_after s.plant s.recent m.asked m.hindrance)

-- the replies to lines, and the state after them
abbrev pub replies : DeskState → List AnsweredLine → List ℕ
replies s [] = []
replies s (m ∷ ms) = reply s m ++ replies (after_line s m) ms

abbrev pub after_lines : DeskState → List AnsweredLine → DeskState
after_lines s [] = s
after_lines s (m ∷ ms) = after_lines (after_line s m) ms
