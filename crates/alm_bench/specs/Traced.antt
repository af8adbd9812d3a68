-- What a trace alone says of a run: which actions it accepted, and how many of them it reported.
use Rattle.std.specs.Prelude.{◌-◌, ◌++◌, ℕ, max, List, [], ◌∷◌, take}
use Rattle.alm_types.specs.declared.action.Action.{Action}
use Rattle.alm_model.specs.Plant.{Condensed}
use Rattle.alm_model.specs.Judging.{when_accepted}
use Rattle.alm_keeper.specs.AsStore.{StandsFor}
use Rattle.alm_pipeline.specs.declared.step_event.StepEvent.{StepEvent}
use Rattle.alm_pipeline.specs.declared.step_event.StepEvent.TheVariants.{Took, Received, Looked, Opened}
use Rattle.alm_store.specs.Recovery.{IsSafe}

-- what is accepted after an event, if `first` is the count of the plant at the very first. An action that was taken as accepted
-- joins the list, and an opening leaves a prefix
abbrev pub with_event : (first : ℕ) → List Action → StepEvent → List Action
with_event first list (Took verdict) = list ++ when_accepted verdict
with_event first list (Opened count) = take (count - first) list
with_event first list event = list

-- .. and after a trace
abbrev pub accepted_from : (first : ℕ) → List Action → List StepEvent → List Action
accepted_from first list [] = list
accepted_from first list (event ∷ trace) = accepted_from first (with_event first list event) trace

-- the actions that a trace accepted, from this plant on
abbrev pub accepted_in : Condensed → List StepEvent → List Action
accepted_in plant trace = accepted_from plant.panel.count [] trace

-- the number of a receipt, or the count of a look
abbrev pub told_by : StepEvent → ℕ
told_by (Received serial verdict number) = number
told_by (Looked count) = count
told_by event = 0

-- the greatest in a trace
abbrev pub told_in : List StepEvent → ℕ
told_in [] = 0
told_in (event ∷ trace) = max (told_by event) (told_in trace)

-- the image encodes the plant of a prefix of the actions that the trace accepted, and no other; the prefix reaches all that the
-- trace reported
abbrev pub KeepsTold : Condensed → List StepEvent → List ℕ → Type 0
KeepsTold plant trace image = IsSafe StandsFor plant (accepted_in plant trace) (told_in trace) image
