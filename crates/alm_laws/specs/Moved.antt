-- What an accepted action makes of each alarm of a plant.
use Rattle.std.specs.Prelude.{◌≡◌, ◌⊎◌, ◌≤◌, ℕ, ◌+◌, true, false, Some, None}
use Rattle.alm_types.specs.declared.attr.Attr.{Attr}
use Rattle.alm_types.specs.declared.alarm_id.AlarmId.{AlarmId}
use Rattle.alm_types.specs.declared.action.Action.{Action}
use Rattle.alm_types.specs.declared.action.Action.TheVariants.{Shelve, Unshelve}
use Rattle.alm_types.specs.declared.request.Request.{Request}
use Rattle.alm_types.specs.Wants.{wanted_action}
use Rattle.alm_state.specs.Rows.{State, is_annunciated}
use Rattle.alm_state.specs.declared.core_state.Core.TheVariants.{Normal}
use Rattle.alm_state.specs.declared.outcome.Outcome.{Outcome}
use Rattle.alm_model.specs.Plant.{Condensed}
use Rattle.alm_laws.specs.Alarm.{row_left, resets, shelves}
use Rattle.alm_laws.specs.Left.{IsLeft, design_left, service_left}
use Rattle.alm_laws.specs.Plant.{Names, ConsoleAsks, FlagIsSet, ClockReaches}

-- the alarm that is named is left as the laws of one alarm say, with the next stamp at hand
abbrev pub LeftByItsAction : Condensed → Request → ℕ → Attr → State → State → Type 0
LeftByItsAction q r i a s t = Names (wanted_action r) i → (o : Outcome) × IsLeft q.panel.now q.panel.next_stamp (wanted_action r) a s o × (t ≡ row_left o)

-- one whose deadline has come is left as by UNSHELVE, with a new stamp at hand
abbrev pub LeftByTheClock : Condensed → Request → Attr → State → State → Type 0
LeftByTheClock q r a s t =
    (deadline : ℕ) (j : AlarmId) → s.shelved_until ≡ Some deadline → ClockReaches r deadline
    → (stamp : ℕ) × (o : Outcome) × (q.panel.next_stamp ≤ stamp) × IsLeft q.panel.now stamp (Unshelve j) a s o × (t ≡ row_left o)

-- an annunciated alarm asks for nobody any more only if a console resets it, or a flag of it is set
abbrev pub EndsOnlyByReset : Request → ℕ → State → State → Type 0
EndsOnlyByReset r i s t = is_annunciated s.core ≡ true → is_annunciated t.core ≡ false → ConsoleAsks resets r i ⊎ FlagIsSet r i

-- for how long a shelving is asked
abbrev pub seconds_of : Action → ℕ
seconds_of (Shelve i seconds) = seconds
seconds_of _ = 0

-- a shelving ends just as many seconds after now as a console asked
abbrev pub ShelvedAsAsked : Condensed → Request → ℕ → State → State → Type 0
ShelvedAsAsked q r i s t =
    s.shelved_until ≡ None → (deadline : ℕ) → t.shelved_until ≡ Some deadline → ConsoleAsks shelves r i × (deadline ≡ q.panel.now + seconds_of (wanted_action r))

-- the other flags of the alarm that is named are as they were asked
abbrev pub FlaggedAsAsked : Request → ℕ → State → State → Type 0
FlaggedAsAsked r i s t = Names (wanted_action r) i → (t.by_design ≡ design_left (wanted_action r) s.by_design) × (t.out_of_service ≡ service_left (wanted_action r) s.out_of_service)

-- an alarm without a condition, a flag or a stamp
pub record IsOfNewPlant (s : State) : Type 0 where
  pub inactive : s.active ≡ false
  pub normal : s.core ≡ Normal
  pub unshelved : s.shelved_until ≡ None
  pub by_design : s.by_design ≡ false
  pub in_service : s.out_of_service ≡ false
  pub unstamped : s.stamp ≡ 0
