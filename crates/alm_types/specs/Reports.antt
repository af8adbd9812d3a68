-- What an answer reports.
use Rattle.std.specs.Prelude.{ℕ, List, Bool, Option}
use Rattle.alm_types.specs.declared.query.Query.{Query}
use Rattle.alm_types.specs.declared.query.Query.TheVariants.{State, Priority, Area, Wheel, Flood, Stale, Chatter, Plant, Attributes, Row}
use Rattle.alm_types.specs.declared.alarm_row.AlarmRow.{AlarmRow}
use Rattle.alm_types.specs.declared.attr.Attr.{Attr}
use Rattle.alm_types.specs.declared.answer.Answer.{Answer}
use Rattle.alm_types.specs.declared.shown.Shown.{Shown}

pub data Report : Type 0 where
  -- what is shown, whether the condition holds, the flags, the deadline
  alarm : Shown → Bool → ℕ → Option ℕ → Report
  -- the window and the flag of an area
  flood : ℕ → Bool → Report
  -- a list of alarms
  alarms : List ℕ → Report
  -- the plant's moment, and how many alarms and areas it has
  plant : ℕ → ℕ → ℕ → Report
  -- the attributes of an alarm; those of none are in no answer of a plant
  attributes : Option Attr → Report
  -- the row of an alarm; that of none is in no answer of a plant
  row : Option AlarmRow → Report

-- what an answer reports to a query
abbrev pub report : Query → Answer → Report
report (State i) a = alarm a.shown a.active a.flags a.until
report (Flood n) a = flood a.window a.flood
report (Priority n) a = alarms a.list.items
report (Area n) a = alarms a.list.items
report (Wheel n) a = alarms a.list.items
report Stale a = alarms a.list.items
report Chatter a = alarms a.list.items
report Plant a = plant a.moment a.alarms a.areas
report (Attributes i) a = attributes a.attr
report (Row i) a = row a.row
