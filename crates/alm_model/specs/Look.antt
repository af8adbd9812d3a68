-- What a plant answers to a query.
use Rattle.std.specs.Prelude.{◌≡◌, ◌<◌, ℕ, List, Bool, true, false, Option, Some, None, Result, Ok, Err, slice_get, length, take, vec_capacity, sum, if◌then◌else◌}
use Rattle.alm_types.specs.declared.refusal.Refusal.{Refusal}
use Rattle.alm_types.specs.declared.refusal.Refusal.TheVariants.{NoSuchAlarm, NoSuchList, OutOfMemory}
use Rattle.alm_types.specs.declared.query.Query.{Query}
use Rattle.alm_types.specs.declared.query.Query.TheVariants.{State, Priority, Area, Wheel, Flood, Stale, Chatter, Plant, Attributes, Row}
use Rattle.alm_types.specs.declared.answer.Answer.{Answer}
use Rattle.alm_types.specs.declared.alarm_row.AlarmRow.{AlarmRow}
use Rattle.alm_types.specs.declared.attr.Attr.{Attr}
use Rattle.alm_types.specs.Reports.{Report, report, flood, alarms, plant, attributes, row}
use Rattle.alm_types.specs.Counts.{one_more}
use Rattle.alm_state.specs.Rows.{State as RowState}
use Rattle.alm_state.specs.Showing.{report_of, shown_of, flags_of}
use Rattle.alm_model.specs.Plant.{Condensed}
use Rattle.alm_model.specs.Lists.{exists, list_of, moments_in}
use Rattle.alm_model.specs.declared.list.List.{List as Choice}
use Rattle.alm_model.specs.declared.list.List.TheVariants as choice

-- the list that a query asks for
abbrev pub asks_list : Query → Option Choice
asks_list (State i) = None
asks_list (Flood a) = None
asks_list (Priority n) = Some (choice.Priority n)
asks_list (Area n) = Some (choice.Area n)
asks_list (Wheel n) = Some (choice.Wheel n)
asks_list Stale = Some choice.Stale
asks_list Chatter = Some choice.Chatter
asks_list Plant = None
asks_list (Attributes i) = None
asks_list (Row i) = None

abbrev pub state_report : Option RowState → Result Report Refusal
state_report None = Err NoSuchAlarm
state_report (Some s) = Ok (report_of s)

-- the window and the flood of an area
abbrev pub flood_report : Option (List ℕ) → Option Bool → Result Report Refusal
flood_report (Some ages) (Some on) = Ok (flood (sum ages) on)
flood_report _ _ = Err NoSuchList

abbrev pub list_report : Choice → Condensed → Result Report Refusal
list_report list q = if exists list q then Ok (alarms (list_of list q)) else Err NoSuchList

-- the attributes of an alarm that are in force
abbrev pub attributes_report : Option Attr → Result Report Refusal
attributes_report None = Err NoSuchAlarm
attributes_report (Some a) = Ok (attributes (Some a))

-- the row of an alarm in this state, with these attributes and moments
abbrev pub row_of : RowState → Attr → List ℕ → AlarmRow
row_of s a moments = record {
  shown = shown_of s;
  active = s.active;
  flags = flags_of s;
  until = s.shelved_until;
  stamp = s.stamp;
  priority = a.priority;
  setpoint = a.setpoint;
  moments = take 3 moments;
}

abbrev pub row_report : Option RowState → Option Attr → List ℕ → Result Report Refusal
row_report (Some s) (Some a) moments = Ok (row (Some (row_of s a moments)))
row_report _ _ _ = Err NoSuchAlarm

-- what a plant reports, or why not
abbrev pub look : Condensed → Query → Result Report Refusal
look q (State i) = state_report (slice_get q.panel.rows i.0)
look q (Flood a) = flood_report (slice_get q.kept.ages a) (slice_get q.floods a)
look q (Priority n) = list_report (choice.Priority n) q
look q (Area n) = list_report (choice.Area n) q
look q (Wheel n) = list_report (choice.Wheel n) q
look q Stale = list_report choice.Stale q
look q Chatter = list_report choice.Chatter q
look q Plant = Ok (plant q.panel.now (length q.panel.rows) (length q.floods))
look q (Attributes i) = attributes_report (slice_get q.panel.attrs i.0)
look q (Row i) = row_report (slice_get q.panel.rows i.0) (slice_get q.panel.attrs i.0) (moments_in (slice_get q.kept.moments i.0))

-- the answer's fields on one alarm
abbrev pub KeepsAlarm : Answer → Answer → Type 0
KeepsAlarm before after =
    (after.shown ≡ before.shown) × (after.active ≡ before.active) × (after.flags ≡ before.flags) × (after.until ≡ before.until)

-- the answer's fields on an area's window
abbrev pub KeepsFlood : Answer → Answer → Type 0
KeepsFlood before after = (after.window ≡ before.window) × (after.flood ≡ before.flood)

-- the answer's list, and its room
abbrev pub KeepsList : Answer → Answer → Type 0
KeepsList before after = (after.list.items ≡ before.list.items) × (vec_capacity after.list ≡ vec_capacity before.list)

-- the answer's fields on the plant's moment and sizes
abbrev pub KeepsPlant : Answer → Answer → Type 0
KeepsPlant before after = (after.moment ≡ before.moment) × (after.alarms ≡ before.alarms) × (after.areas ≡ before.areas)

-- the answer's attributes of an alarm
abbrev pub KeepsAttributes : Answer → Answer → Type 0
KeepsAttributes before after = after.attr ≡ before.attr

-- the answer's row of an alarm
abbrev pub KeepsRow : Answer → Answer → Type 0
KeepsRow before after = after.row ≡ before.row

-- an answer with all fields as before
pub record IsUnchanged (before after : Answer) : Type 0 where
  pub alarm : KeepsAlarm before after
  pub flood : KeepsFlood before after
  pub list : after.list.items ≡ before.list.items
  pub plant : KeepsPlant before after
  pub attributes : KeepsAttributes before after
  pub row : KeepsRow before after

-- all fields but the list
abbrev pub KeepsUnlisted : Answer → Answer → Type 0
KeepsUnlisted before after =
    KeepsAlarm before after × KeepsFlood before after × KeepsPlant before after × KeepsAttributes before after × KeepsRow before after

-- what a query doesn't ask for stays
abbrev pub KeepsOthers : Query → Answer → Answer → Type 0
KeepsOthers (State i) before after =
    KeepsFlood before after × KeepsList before after × KeepsPlant before after × KeepsAttributes before after × KeepsRow before after
KeepsOthers (Flood a) before after =
    KeepsAlarm before after × KeepsList before after × KeepsPlant before after × KeepsAttributes before after × KeepsRow before after
KeepsOthers (Priority n) before after = KeepsUnlisted before after
KeepsOthers (Area n) before after = KeepsUnlisted before after
KeepsOthers (Wheel n) before after = KeepsUnlisted before after
KeepsOthers Stale before after = KeepsUnlisted before after
KeepsOthers Chatter before after = KeepsUnlisted before after
KeepsOthers Plant before after =
    KeepsAlarm before after × KeepsFlood before after × KeepsList before after × KeepsAttributes before after × KeepsRow before after
KeepsOthers (Attributes i) before after =
    KeepsAlarm before after × KeepsFlood before after × KeepsList before after × KeepsPlant before after × KeepsRow before after
KeepsOthers (Row i) before after =
    KeepsAlarm before after × KeepsFlood before after × KeepsList before after × KeepsPlant before after × KeepsAttributes before after

-- a growth was refused that the list of a plant's alarms needs, and there was no other change
abbrev pub WantsRoom : Condensed → Answer → Answer → Type 0
WantsRoom q before after =
    (vec_capacity before.list < length q.panel.rows) × IsUnchanged before after × (after.refused ≡ one_more before.refused)

-- what may be answered for a list alone
abbrev pub IsListed : Condensed → Choice → Answer → Answer → Result ℕ Refusal → Type 0
IsListed q list before after (Ok n) =
    (exists list q ≡ true) × (after.list.items ≡ list_of list q) × (n ≡ q.panel.count) × (after.refused ≡ before.refused)
    × KeepsUnlisted before after
IsListed q list before after (Err OutOfMemory) = (exists list q ≡ true) × WantsRoom q before after
IsListed q list before after (Err refusal) = (exists list q ≡ false) × (refusal ≡ NoSuchList) × (after ≡ before)

-- a list that is there was asked for
abbrev pub asks_for : Condensed → Option Choice → Bool
asks_for q None = false
asks_for q (Some list) = exists list q

-- possible answers: what the plant answers, with its count, or its refusal; or out of memory, if the list exists and a growth
-- that it needs was refused
abbrev pub IsLook : Condensed → Query → Answer → Answer → Result ℕ Refusal → Type 0
IsLook q query before after (Ok n) =
    (look q query ≡ Ok (report query after)) × (n ≡ q.panel.count) × (after.refused ≡ before.refused) × KeepsOthers query before after
IsLook q query before after (Err OutOfMemory) = (asks_for q (asks_list query) ≡ true) × WantsRoom q before after
IsLook q query before after (Err refusal) = (look q query ≡ Err refusal) × (after ≡ before)
