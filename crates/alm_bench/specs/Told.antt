-- What replies and looks report of the accepted actions.
use Rattle.std.specs.Prelude.{◌≡◌, ◌+◌, List, [], ◌∷◌, ◌++◌, length}
use Rattle.alm_types.specs.declared.action.Action.{Action}
use Rattle.alm_types.specs.declared.verdict.Verdict.{Verdict}
use Rattle.alm_types.specs.declared.verdict.Verdict.TheVariants.{Accepted, Refused}
use Rattle.alm_board.specs.PrefixesOf.{IsPrefixOf}
use Rattle.alm_pipeline.specs.declared.step.Step.{Step}
use Rattle.alm_pipeline.specs.declared.step.Step.TheVariants.{Release, Look}
use Rattle.alm_pipeline.specs.declared.step_event.StepEvent.{StepEvent}
use Rattle.alm_pipeline.specs.declared.step_event.StepEvent.TheVariants.{Released, Looked}
use Rattle.alm_pipeline.specs.World.{World, Note, next_notes}

-- the last action of the list is the one that was accepted
abbrev pub EndsWith : Verdict → List Action → Type 0
EndsWith (Accepted a) list = (before : List Action) × (list ≡ before ++ a ∷ [])
EndsWith (Refused r n) list = Unit {0}

-- a reply reports the accepted actions up to its request, and that one too if it was accepted; they are as many as its number
-- says
abbrev pub TellsUpTo : World → List Note → List Action → Type 0
TellsUpTo w [] list = ⊥
TellsUpTo w (note ∷ notes) list = (w.base.panel.count + length list ≡ note.number) × IsPrefixOf list w.accepted × EndsWith note.verdict list

-- this step, with this answer, reports these actions: a reply that is released, those up to its request; a look, those that it
-- shows
abbrev pub Tells : World → Step → StepEvent → List Action → Type 0
Tells w Release (Released slot) list = TellsUpTo w (next_notes w w.stage) list
Tells w (Look slot query) (Looked count) list = list ≡ w.published
Tells w step event list = ⊥
