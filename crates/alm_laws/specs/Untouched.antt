-- Which actions leave an alarm alone, by what ROW showed of it.
use Rattle.std.specs.Prelude.{◌≡◌, ◌≢◌, ◌<◌, ℕ, List, [], ◌∷◌, Option, Some}
use Rattle.alm_types.specs.Actions.{alarm_of}
use Rattle.alm_types.specs.declared.action.Action.{Action}
use Rattle.alm_types.specs.declared.action.Action.TheVariants.{Clock}

-- another alarm is named; or the clock doesn't reach the deadline of this one
abbrev pub LeavesAlone : (alarm : ℕ) → (deadline : Option ℕ) → Action → Type 0
LeavesAlone i until (Clock t) = (deadline : ℕ) → until ≡ Some deadline → t < deadline
LeavesAlone i until action = alarm_of action ≢ i

abbrev pub AllLeaveAlone : (alarm : ℕ) → (deadline : Option ℕ) → List Action → Type 0
AllLeaveAlone i until [] = Unit {0}
AllLeaveAlone i until (a ∷ actions) = LeavesAlone i until a × AllLeaveAlone i until actions
