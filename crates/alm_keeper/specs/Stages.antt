-- The stages of a keeper's work: which device call is next.
use Rattle.std.specs.Prelude.{◌⊎◌, ◌==◌, ℕ, Bool, true, false, List, Result, Ok, Err, if◌then◌else◌}
use Rattle.alm_store.specs.declared.phase.Phase.{Phase}
use Rattle.alm_store.specs.declared.phase.Phase.TheVariants as at
use Rattle.alm_keeper.specs.declared.stage.Work.{Work}
use Rattle.alm_keeper.specs.declared.stage.Work.TheVariants.{Commit, Checkpoint}
use Rattle.alm_keeper.specs.declared.stage.Stage.{Stage}
use Rattle.alm_keeper.specs.declared.stage.Stage.TheVariants.{Idle, Close, CloseSync, Body, BodySync, Gate, TurnSync, Retire, GateSync, Stopped}

abbrev pub IsWorking : Stage → Type 0
IsWorking Idle = ⊥
IsWorking Stopped = ⊥
IsWorking stage = Unit {0}

-- the stage after a call that was done
abbrev pub next_stage : Stage → Stage
next_stage Close = CloseSync
next_stage CloseSync = Body
next_stage Body = BodySync
next_stage BodySync = Gate
next_stage Gate = GateSync
next_stage TurnSync = Retire
next_stage Retire = GateSync
next_stage stage = Idle

-- the stage after a call
abbrev pub stage_after : {E : Type 0} → Stage → Result Unit E → Stage
stage_after stage (Ok _) = next_stage stage
stage_after stage (Err _) = Stopped

-- the first stage of a checkpoint: it closes the gate of the half that doesn't stand only if that gate reads open
abbrev pub first_stage : Bool → Stage
first_stage true = Close
first_stage false = Body

-- after all of a checkpoint's run went out its sync is next, else another piece
abbrev pub sent_stage : (out run : ℕ) → Stage
sent_stage out run = if out == run then BodySync else Body

-- after the write of a checkpoint's gate: in version 03 the half that stood is shut before the last sync
abbrev pub turn_stage : (summed : Bool) → Stage
turn_stage true = TurnSync
turn_stage false = GateSync

-- after a commit: an open checkpoint waits for its next piece
abbrev pub rest_stage : (copying : Bool) → Stage
rest_stage true = Body
rest_stage false = Idle

abbrev pub rest_work : (copying : Bool) → Work
rest_work true = Checkpoint
rest_work false = Commit

-- what an image is at a stage
abbrev pub May : (Before After : List ℕ → Type 0) → Stage → List ℕ → Type 0
May Before After Idle b = After b
May Before After Close b = Before b
May Before After CloseSync b = Before b
May Before After Body b = Before b
May Before After BodySync b = Before b
May Before After Gate b = Before b
May Before After TurnSync b = Before b ⊎ After b
May Before After Retire b = After b
May Before After GateSync b = Before b ⊎ After b
May Before After Stopped b = Before b ⊎ After b

-- what an image is at any moment of the call that is next at a stage
abbrev pub During : (Before After : List ℕ → Type 0) → Stage → List ℕ → Type 0
During Before After Gate b = Before b ⊎ After b
During Before After stage b = May Before After stage b

-- the phase of a store whose work is at a stage: between the pieces of a checkpoint it is paused
abbrev pub phase_of : Stage → Work → Phase
phase_of Idle work = at.Idle
phase_of Stopped work = at.Stopped
phase_of stage Commit = at.Committing
phase_of Body Checkpoint = at.Paused
phase_of stage Checkpoint = at.Copying
