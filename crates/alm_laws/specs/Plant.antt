-- What an alarm engineer asks of a plant.
use Rattle.std.specs.Prelude.{◌≡◌, ◌≢◌, ◌⊎◌, ℕ, ◌+◌, ◌≤◌, ◌<◌, List, [], ◌∷◌, length, if◌then◌else◌, Bool, true, false, ◌&&◌, ◌||◌, Some, None, Ok, slice_get}
use Rattle.alm_types.specs.declared.attr.Attr.{Attr}
use Rattle.alm_types.specs.declared.action.Action.{Action}
use Rattle.alm_types.specs.declared.action.Action.TheVariants.{Clock, Value, Ack, Reset, Shelve, Unshelve, Oos, Design, SetPriority, SetSetpoint}
use Rattle.alm_types.specs.declared.request.Request.{Request}
use Rattle.alm_types.specs.Wants.{wanted_action}
use Rattle.alm_types.specs.declared.role.Role.{Role}
use Rattle.alm_types.specs.declared.role.Role.TheVariants as role
use Rattle.alm_types.specs.Actions.{alarm_of}
use Rattle.alm_types.specs.Slots.{role_of}
use Rattle.alm_state.specs.Rows.{State, is_annunciated}
use Rattle.alm_state.specs.declared.core_state.Core.TheVariants.{Normal, Unack}
use Rattle.alm_laws.specs.Alarm.{is_unacknowledged, is_latched, acknowledges, resets, shelves, unshelves, suppresses, condition_comes, last_flag_falls}
use Rattle.alm_model.specs.Plant.{Panel, RecordedPlant, Condensed}
use Rattle.alm_model.specs.Accept.{accept, refusal}
use Rattle.alm_model.specs.Step.{step, after}
use Rattle.alm_model.specs.Rules.{KeepsRules}
use Rattle.alm_model.specs.Lists.{stamp_of}

-- a plant that keeps the rules accepts a request, by which an alarm's row becomes another
pub record Becomes (q : Condensed) (r : Request) (i : ℕ) (s t : State) : Type 0 where
  pub rules : KeepsRules q
  pub accepted : accept q.panel r ≡ Ok (wanted_action r)
  pub before : slice_get q.panel.rows i ≡ Some s
  pub after : slice_get (step q (wanted_action r)).panel.rows i ≡ Some t

-- an alarm of a plant that keeps the rules
pub record IsAlarmOf (q : Condensed) (i : ℕ) (a : Attr) (s : State) : Type 0 where
  pub rules : KeepsRules q
  pub attr : slice_get q.panel.attrs i ≡ Some a
  pub row : slice_get q.panel.rows i ≡ Some s

-- who asks for an action
abbrev pub asker_of : Action → Role
asker_of (Clock t) = role.Clock
asker_of (Value i v) = role.Feed
asker_of (Design i on) = role.Feed
asker_of (Ack i) = role.Console
asker_of (Reset i) = role.Console
asker_of (Shelve i seconds) = role.Console
asker_of (Unshelve i) = role.Console
asker_of (Oos i on) = role.Console
asker_of (SetPriority i priority) = role.Console
asker_of (SetSetpoint i setpoint) = role.Console

-- a console asks for what passes a test, and names the alarm
abbrev pub ConsoleAsks : (Action → Bool) → Request → ℕ → Type 0
ConsoleAsks test r i = (role_of r.slot ≡ role.Console) × (test (wanted_action r) ≡ true) × (alarm_of (wanted_action r) ≡ i)

-- a flag of the alarm is set
abbrev pub FlagIsSet : Request → ℕ → Type 0
FlagIsSet r i = (suppresses (wanted_action r) ≡ true) × (alarm_of (wanted_action r) ≡ i)

-- the clock comes to a shelving's deadline, or past it
abbrev pub ClockReaches : Request → ℕ → Type 0
ClockReaches r deadline = (t : ℕ) × ((wanted_action r) ≡ Clock t) × (role_of r.slot ≡ role.Clock) × (deadline ≤ t)

-- only the operator acknowledges: an alarm leaves the unacknowledged states by a console's ACK, or by a flag that is
-- set
abbrev pub IsAcknowledgedByConsoleOrFlag : Request → ℕ → State → State → Type 0
IsAcknowledgedByConsoleOrFlag r i s t =
    is_unacknowledged s.core ≡ true → is_unacknowledged t.core ≡ false → ConsoleAsks acknowledges r i ⊎ FlagIsSet r i

-- what is latched stays until it is reset
abbrev pub IsResetByConsoleOrFlag : Request → ℕ → State → State → Type 0
IsResetByConsoleOrFlag r i s t = is_latched s.core ≡ true → t.core ≡ Normal → ConsoleAsks resets r i ⊎ FlagIsSet r i

-- a shelving ends by a console's UNSHELVE, or by the clock at its deadline
abbrev pub ShelvingEndsOnlyByUnshelveOrClock : Request → ℕ → State → State → Type 0
ShelvingEndsOnlyByUnshelveOrClock r i s t =
    (deadline : ℕ) → s.shelved_until ≡ Some deadline → t.shelved_until ≢ Some deadline → (t.shelved_until ≡ None) × (ConsoleAsks unshelves r i ⊎ ClockReaches r deadline)

-- and the clock ends each whose deadline has come
abbrev pub ClockEndsTheShelving : Request → State → State → Type 0
ClockEndsTheShelving r s t =
    (deadline : ℕ) → s.shelved_until ≡ Some deadline → ClockReaches r deadline → t.shelved_until ≡ None

-- an alarm whose last flag falls while it is active is annunciated again
abbrev pub FreedIsAnnunciatedAnew : Condensed → State → State → Type 0
FreedIsAnnunciatedAnew q s t =
    last_flag_falls s t ≡ true → t.active ≡ true → (t.core ≡ Unack) × (q.panel.next_stamp ≤ t.stamp)

-- and no other alarm is, unless its condition comes
abbrev pub AnnunciatedOnlyThen : State → State → Type 0
AnnunciatedOnlyThen s t =
    is_annunciated t.core ≡ true → t.stamp ≢ s.stamp → (condition_comes s t || last_flag_falls s t && t.active) ≡ true

-- the action names the alarm; CLOCK names none
abbrev pub Names : Action → ℕ → Type 0
Names (Clock t) i = ⊥
Names action i = alarm_of action ≡ i

-- an alarm that is neither named nor due stays as it is
abbrev pub OthersStay : Request → ℕ → State → State → Type 0
OthersStay r i s t = (Names (wanted_action r) i → ⊥) → ((deadline : ℕ) → s.shelved_until ≡ Some deadline → ClockReaches r deadline → ⊥) → t ≡ s

-- the feed asks for what passes a test, and names the alarm
abbrev pub FeedAsks : (Action → Bool) → Request → ℕ → Type 0
FeedAsks test r i = (role_of r.slot ≡ role.Feed) × (test (wanted_action r) ≡ true) × (alarm_of (wanted_action r) ≡ i)

abbrev pub moves_service : Action → Bool
moves_service (Oos i on) = true
moves_service _ = false

abbrev pub moves_design : Action → Bool
moves_design (Design i on) = true
moves_design _ = false

abbrev pub sends_value : Action → Bool
sends_value (Value i v) = true
sends_value _ = false

abbrev pub configures : Action → Bool
configures (SetPriority i priority) = true
configures (SetSetpoint i setpoint) = true
configures _ = false

-- only a console shelves, and sets out of service or back
abbrev pub ShelvedOnlyByAConsole : Request → ℕ → State → State → Type 0
ShelvedOnlyByAConsole r i s t = s.shelved_until ≡ None → t.shelved_until ≢ None → ConsoleAsks shelves r i

abbrev pub ServiceOnlyByAConsole : Request → ℕ → State → State → Type 0
ServiceOnlyByAConsole r i s t = t.out_of_service ≢ s.out_of_service → ConsoleAsks moves_service r i

-- only the feed suppresses by design, and moves the condition
abbrev pub DesignOnlyByTheFeed : Request → ℕ → State → State → Type 0
DesignOnlyByTheFeed r i s t = t.by_design ≢ s.by_design → FeedAsks moves_design r i

abbrev pub ConditionOnlyByTheFeed : Request → ℕ → State → State → Type 0
ConditionOnlyByTheFeed r i s t = t.active ≢ s.active → FeedAsks sends_value r i

-- only the clock slot moves the time
abbrev pub TimeOnlyByTheClock : Condensed → Request → Type 0
TimeOnlyByTheClock q r = (step q (wanted_action r)).panel.now ≢ q.panel.now → role_of r.slot ≡ role.Clock

-- only a console gives an alarm other attributes
abbrev pub AttributesOnlyByAConsole : Condensed → Request → ℕ → Type 0
AttributesOnlyByAConsole q r i = slice_get (step q (wanted_action r)).panel.attrs i ≢ slice_get q.panel.attrs i → ConsoleAsks configures r i

-- an alarm keeps its stamp, has none, or one that no alarm had before
abbrev pub StampsAreNew : Panel → Panel → Type 0
StampsAreNew before after =
    (i : ℕ) → (stamp_of after i ≡ stamp_of before i) ⊎ (stamp_of after i ≡ 0) ⊎ (before.next_stamp ≤ stamp_of after i)

-- a stamp that exists now and later is of one alarm
abbrev pub StampsAreOfOneAlarm : Panel → Panel → Type 0
StampsAreOfOneAlarm before after = (i j : ℕ) → 0 < stamp_of before i → stamp_of before i ≡ stamp_of after j → i ≡ j

-- each action is admitted at its turn
abbrev pub AreTaken : RecordedPlant → List Action → Type 0
AreTaken p [] = Unit {0}
AreTaken p (a ∷ actions) = (refusal p.panel a ≡ None) × AreTaken (after p a) actions

abbrev pub shelvings : List Action → ℕ
shelvings [] = 0
shelvings (a ∷ actions) = (if shelves a then 1 else 0) + shelvings actions

-- as many stamps are given as there are annunciations and shelvings
abbrev pub StampsAreCounted : RecordedPlant → List Action → RecordedPlant → Type 0
StampsAreCounted before actions after =
    after.panel.next_stamp + length before.kept ≡ before.panel.next_stamp + length after.kept + shelvings actions
