-- What an action does, however the annunciations are kept.
use Rattle.std.specs.Prelude.{ℕ, ◌+◌, ◌-◌, List, [], ◌∷◌, Bool, true, false, Option, Some, slice_get, slice_set, fold, length, nat_lt, if◌then◌else◌}
use Rattle.alm_types.specs.declared.attr.Attr.{Attr}
use Rattle.alm_types.specs.declared.action.Action.{Action}
use Rattle.alm_types.specs.Changes.{with_priority, with_setpoint}
use Rattle.alm_types.specs.declared.action.Action.TheVariants.{Clock, SetPriority, SetSetpoint}
use Rattle.alm_state.specs.Rows.{State}
use Rattle.alm_state.specs.Outcome.{outcome, without_shelving}
use Rattle.alm_state.specs.declared.outcome.Outcome.{Outcome}
use Rattle.alm_state.specs.declared.outcome.Outcome.TheVariants.{Changed, Annunciated, Shelved}
use Rattle.alm_model.specs.Plant.{Panel, PlantOf, RecordedPlant, Condensed}
use Rattle.alm_types.specs.Actions.{alarm_of}
use Rattle.alm_model.specs.Lists.{due}
use Rattle.alm_model.specs.Keeping.{Keeping, in_full, in_brief, change}

-- an alarm's row becomes another; an annunciation and a shelving take the next stamp
abbrev pub with_row : Panel → ℕ → State → Panel
with_row p i s = record p { rows = slice_set p.rows i s }

abbrev pub with_stamped : Panel → ℕ → State → Panel
with_stamped p i s = record p { rows = slice_set p.rows i s; next_stamp = p.next_stamp + 1 }

-- the plant with what becomes of an alarm; an annunciation is noted
abbrev pub with_outcome : {M : Type 0} → Keeping M → PlantOf M → ℕ → Outcome → PlantOf M
with_outcome k q i (Changed s) = record q { panel = with_row q.panel i s }
with_outcome k q i (Annunciated s) = record q { panel = with_stamped q.panel i s; kept = k.note q.panel i q.kept }
with_outcome k q i (Shelved s) = record q { panel = with_stamped q.panel i s }

-- what becomes of an alarm; no change if there is no such alarm
abbrev pub with_touched_alarm : {M : Type 0} → Keeping M → PlantOf M → ℕ → (Attr → State → Outcome) → Option Attr → Option State → PlantOf M
with_touched_alarm k q i f (Some a) (Some s) = with_outcome k q i (f a s)
with_touched_alarm k q i f _ _ = q

abbrev pub touch : {M : Type 0} → Keeping M → PlantOf M → ℕ → (Attr → State → Outcome) → PlantOf M
touch k q i f = with_touched_alarm k q i f (slice_get q.panel.attrs i) (slice_get q.panel.rows i)

-- the plant after an alarm's shelving ended
abbrev pub unshelve : {M : Type 0} → Keeping M → PlantOf M → ℕ → PlantOf M
unshelve k q i = touch k q i (λ a s. without_shelving q.panel.next_stamp s)

-- the plant at a later moment
abbrev pub later : {M : Type 0} → Keeping M → ℕ → PlantOf M → PlantOf M
later k t q = record q { panel = record q.panel { now = t }; kept = k.pass (t - q.panel.now) q.kept }

-- the plant with other attributes of an alarm, whose row and stamp stay
abbrev pub with_attributes : {M : Type 0} → PlantOf M → ℕ → (Attr → Attr) → PlantOf M
with_attributes q i f = record q { panel = record q.panel { attrs = change q.panel.attrs i f } }

-- what an action does. The clock moves, and then the shelvings that are due end one after the other; or the alarm that is named
-- gets another priority or setpoint; or it changes
abbrev pub with_effect : {M : Type 0} → Keeping M → PlantOf M → Action → PlantOf M
with_effect k q (Clock t) = fold (unshelve k) (later k t q) (due t q.panel)
with_effect k q (SetPriority i priority) = with_attributes q i.0 (with_priority priority)
with_effect k q (SetSetpoint i setpoint) = with_attributes q i.0 (with_setpoint setpoint)
with_effect k q action = touch k q (alarm_of action) (outcome q.panel.now q.panel.next_stamp action)

-- a window above 10 starts a flood, and one below 5 ends it
abbrev pub is_flood : ℕ → Bool → Bool
is_flood window before = if nat_lt 10 window then true else if nat_lt window 5 then false else before

abbrev pub settled_floods : List ℕ → List Bool → List Bool
settled_floods (window ∷ windows) (before ∷ floods) = is_flood window before ∷ settled_floods windows floods
settled_floods _ _ = []

abbrev pub settle : {M : Type 0} → Keeping M → PlantOf M → PlantOf M
settle k q = record q { floods = settled_floods (k.windows q.panel (length q.floods) q.kept) q.floods }

-- the plant with one action more
abbrev pub with_one_more : {M : Type 0} → PlantOf M → PlantOf M
with_one_more q = record q { panel = record q.panel { count = q.panel.count + 1 } }

-- the plant after an action; the floods are settled last
abbrev pub next_plant : {M : Type 0} → Keeping M → PlantOf M → Action → PlantOf M
next_plant k q action = settle k (with_effect k (with_one_more q) action)

abbrev pub after : RecordedPlant → Action → RecordedPlant
after = next_plant in_full

abbrev pub step : Condensed → Action → Condensed
step = next_plant in_brief

-- the condensed plant after a list of actions
abbrev pub run : Condensed → List Action → Condensed
run q actions = fold step q actions
