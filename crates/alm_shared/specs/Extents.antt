-- For the proofs.
-- What exists to be asked for, by how many alarms and areas a plant has.
use Rattle.std.specs.Prelude.{Bool, true, ◌&&◌, nat_le, nat_lt, length}
use Rattle.alm_types.specs.declared.query.Query.{Query}
use Rattle.alm_types.specs.declared.query.Query.TheVariants.{State, Priority, Area, Wheel, Flood, Stale, Chatter, Plant, Attributes, Row}
use Rattle.alm_types.specs.declared.refusal.Refusal.{Refusal}
use Rattle.alm_types.specs.declared.refusal.Refusal.TheVariants.{NoSuchAlarm, NoSuchList}
use Rattle.alm_model.specs.Plant.{Condensed}
use Rattle.alm_model.specs.Lists.{wheel_slots}

-- whether a plant has the alarm or the list that a query asks for
abbrev pub is_there : Condensed → Query → Bool
is_there q (State i) = nat_lt i.0 (length q.panel.rows)
is_there q (Flood area) = nat_lt area (length q.floods)
is_there q (Area area) = nat_lt area (length q.floods)
is_there q (Priority n) = nat_le 1 n && nat_le n 4
is_there q (Wheel slot) = nat_lt slot wheel_slots
is_there q Stale = true
is_there q Chatter = true
is_there q Plant = true
is_there q (Attributes i) = nat_lt i.0 (length q.panel.rows)
is_there q (Row i) = nat_lt i.0 (length q.panel.rows)

-- the refusal if it hasn't
abbrev pub missing : Query → Refusal
missing (State i) = NoSuchAlarm
missing (Attributes i) = NoSuchAlarm
missing (Row i) = NoSuchAlarm
missing _ = NoSuchList
