-- What an accepted action leaves of a plant, in sentences that leave one plant.
use Rattle.std.specs.Prelude.{◌≡◌, ◌≢◌, ◌↔◌, ℕ, ℤ, ◌+◌, ◌-◌, ◌<◌, List, ◌∷◌, Bool, true, false, not, ◌&&◌, ◌==◌, nat_le, nat_lt, Option, Some, None, unwrap_or, length, take, sum, count_by, slice_get, slice_index, AllPairs, Contains, if◌then◌else◌}
use Rattle.alm_types.specs.declared.attr.Attr.{Attr}
use Rattle.alm_types.specs.declared.action.Action.{Action}
use Rattle.alm_types.specs.declared.action.Action.TheVariants.{Clock, SetPriority, SetSetpoint}
use Rattle.alm_types.specs.declared.request.Request.{Request}
use Rattle.alm_types.specs.Wants.{wanted_action}
use Rattle.alm_types.specs.Actions.{alarm_of}
use Rattle.alm_types.specs.Readings.{is_reading}
use Rattle.alm_lists.specs.Orders.{Precedes}
use Rattle.alm_state.specs.Rows.{State}
use Rattle.alm_model.specs.Plant.{Condensed}
use Rattle.alm_model.specs.Lists.{stamp_of}
use Rattle.alm_laws.specs.Alarm.{shelves}
use Rattle.alm_laws.specs.Left.{is_annunciated_then}
use Rattle.alm_laws.specs.Listed.{is_flooded_by}
use Rattle.alm_laws.specs.Moved.{LeftByItsAction, LeftByTheClock}
use Rattle.alm_laws.specs.Plant.{OthersStay}

-- a CLOCK of this moment reaches the deadline of a shelving
abbrev pub is_reached : ℕ → Option ℕ → Bool
is_reached t None = false
is_reached t (Some deadline) = nat_le deadline t

-- an action annunciates an alarm: its shelving ends by the clock while it is active without another flag; or it is named, and
-- annunciated then
abbrev pub is_annunciated_by : ℕ → Action → ℕ → Attr → State → Bool
is_annunciated_by now (Clock t) i a s = is_reached t s.shelved_until && (not s.by_design && not s.out_of_service && s.active)
is_annunciated_by now action i a s = (alarm_of action == i) && is_annunciated_then now action a s

abbrev pub IsAnnunciatedBy : Condensed → Action → ℕ → Type 0
IsAnnunciatedBy q action i =
    (a : Attr) × (s : State) × (slice_get q.panel.attrs i ≡ Some a) × (slice_get q.panel.rows i ≡ Some s) × (is_annunciated_by q.panel.now action i a s ≡ true)

-- the deadline of an alarm's shelving, 0 without one
abbrev pub shelving_end : Option State → ℕ
shelving_end None = 0
shelving_end (Some s) = unwrap_or s.shelved_until 0

-- the list has just the alarms that an action annunciates, by deadline, then by number
pub record AreAnnunciatedInOrder (q : Condensed) (action : Action) (list : List ℕ) : Type 0 where
  pub order : AllPairs (Precedes (λ i. shelving_end (slice_get q.panel.rows i))) list
  pub those : (i : ℕ) → Contains list i ↔ IsAnnunciatedBy q action i

-- the moment: as a CLOCK names it
abbrev pub moment_left : Action → ℕ → ℕ
moment_left (Clock t) before = t
moment_left _ before = before

-- priority and setpoint of the alarm that is named
abbrev pub priority_left : Action → ℕ → ℕ
priority_left (SetPriority i priority) before = priority
priority_left _ before = before

abbrev pub setpoint_left : Action → ℤ → ℤ
setpoint_left (SetSetpoint i setpoint) before = if is_reading setpoint then setpoint else before
setpoint_left _ before = before

-- attributes: only priority and setpoint change, and only of the alarm that is named
pub record AttrLeft (action : Action) (i : ℕ) (a b : Attr) : Type 0 where
  pub others : alarm_of action ≢ i → b ≡ a
  pub priority : alarm_of action ≡ i → b.priority ≡ priority_left action a.priority
  pub setpoint : alarm_of action ≡ i → b.setpoint ≡ setpoint_left action a.setpoint
  pub kind : b.kind ≡ a.kind
  pub deadband : b.deadband ≡ a.deadband
  pub area : b.area ≡ a.area
  pub latching : b.latching ≡ a.latching
  pub max_shelve : b.max_shelve ≡ a.max_shelve
  pub tag : b.tag ≡ a.tag
  pub text : b.text ≡ a.text

-- the area of an alarm
abbrev pub area_at : Option Attr → ℕ
area_at None = 0
area_at (Some a) = a.area

-- the annunciations of an area by their age in seconds, up to 599: each gets older as time passes, and new ones are of age 0
pub record AgesLeft (seconds new : ℕ) (before after : List ℕ) : Type 0 where
  pub long : length after ≡ 600
  pub each : (age : ℕ) → age < 600 → slice_index after age ≡ (if nat_lt age seconds then 0 else slice_index before (age - seconds)) + (if age == 0 then new else 0)

-- as many alarms and areas
pub record IsAsLarge (q p : Condensed) : Type 0 where
  pub rows : length p.panel.rows ≡ length q.panel.rows
  pub attrs : length p.panel.attrs ≡ length q.panel.attrs
  pub moments : length p.kept.moments ≡ length q.kept.moments
  pub floods : length p.floods ≡ length q.floods
  pub ages : length p.kept.ages ≡ length q.kept.ages

-- the plant p is what a request leaves of q, if it annunciates the alarms of the list, in their order
pub record IsLeftWith (q : Condensed) (r : Request) (list : List ℕ) (p : Condensed) : Type 0 where
  pub moment : p.panel.now ≡ moment_left (wanted_action r) q.panel.now
  pub count : p.panel.count ≡ q.panel.count + 1
  pub large : IsAsLarge q p
  pub attrs : (i : ℕ) (a b : Attr) → slice_get q.panel.attrs i ≡ Some a → slice_get p.panel.attrs i ≡ Some b → AttrLeft (wanted_action r) i a b
  -- each alarm: the one that is named, one whose shelving ends, any other
  pub rows : (i : ℕ) (a : Attr) (s t : State) → slice_get q.panel.attrs i ≡ Some a → slice_get q.panel.rows i ≡ Some s → slice_get p.panel.rows i ≡ Some t
      → LeftByItsAction q r i a s t × LeftByTheClock q r a s t × OthersStay r i s t
  -- stamps: the next ones, in order, one for each annunciation and one for a shelving
  pub stamps : (k i : ℕ) → slice_get list k ≡ Some i → stamp_of p.panel i ≡ q.panel.next_stamp + k
  pub next_stamp : p.panel.next_stamp ≡ q.panel.next_stamp + length list + (if shelves (wanted_action r) then 1 else 0)
  -- the last three annunciations of each alarm
  pub annunciated : (i : ℕ) (before : List ℕ) → Contains list i → slice_get q.kept.moments i ≡ Some before → slice_get p.kept.moments i ≡ Some (take 3 (p.panel.now ∷ before))
  pub silent : (i : ℕ) → (Contains list i → ⊥) → slice_get p.kept.moments i ≡ slice_get q.kept.moments i
  -- windows and floods of each area
  pub ages : (area : ℕ) (before after : List ℕ) → slice_get q.kept.ages area ≡ Some before → slice_get p.kept.ages area ≡ Some after
      → AgesLeft (p.panel.now - q.panel.now) (count_by (λ i. area_at (slice_get q.panel.attrs i) == area) list) before after
  pub floods : (area : ℕ) (ages : List ℕ) (before : Bool) → slice_get p.kept.ages area ≡ Some ages → slice_get q.floods area ≡ Some before
      → slice_get p.floods area ≡ Some (is_flooded_by (sum ages) before)

-- and it annunciates just those
abbrev pub IsLeftBehind : Condensed → Request → Condensed → Type 0
IsLeftBehind q r p = (list : List ℕ) × AreAnnunciatedInOrder q (wanted_action r) list × IsLeftWith q r list p
