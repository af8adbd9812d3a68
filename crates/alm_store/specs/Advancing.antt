-- What the calls of a store make of it.
use Rattle.std.specs.Prelude.{◌≡◌, ◌≢◌, ◌↔◌, ◌⊎◌, ◌<◌, ◌≤◌, true, List}
use Rattle.alm_types.specs.declared.action.Action.{Action}
use Rattle.alm_disk.specs.Device.{DeviceState}
use Rattle.alm_model.specs.Rules.{admits_all}
use Rattle.alm_model.specs.Step.{run}
use Rattle.alm_store.specs.Calls.{IsCall}
use Rattle.alm_store.specs.Pace.{most_calls}
use Rattle.alm_store.specs.Pacing.{IsJustOpened}
use Rattle.alm_store.specs.State.{StoreState}
use Rattle.alm_store.specs.declared.phase.Phase.{Phase}
use Rattle.alm_store.specs.declared.phase.Phase.TheVariants.{Idle, Committing, Copying, Paused, Stopped}
use Rattle.alm_store.specs.declared.progress.Progress.{Progress}
use Rattle.alm_store.specs.declared.progress.Progress.TheVariants.{More, Done, Failed}

-- a checkpoint is open, and no commit is under way
abbrev pub IsCheckpointing : Phase → Type 0
IsCheckpointing Copying = Unit {0}
IsCheckpointing Paused = Unit {0}
IsCheckpointing phase = ⊥

-- no work is under way, so a commit may begin
abbrev pub IsResting : Phase → Type 0
IsResting Idle = Unit {0}
IsResting Paused = Unit {0}
IsResting phase = ⊥

-- the stored plant stays, and the bytes of a checkpoint that are counted
abbrev pub KeepsStored : (old new : StoreState) → Type 0
KeepsStored old new = (new.stored ≡ old.stored) × (new.written ≡ old.written)

-- no commit was begun
abbrev pub CommitIsNotBegun : (old new : StoreState) → Type 0
CommitIsNotBegun old new = (new.phase ≢ Committing) × (new.next ≡ old.next)

-- the commit of admitted actions was begun: at most four device calls
pub record CommitIsBegun (actions : List Action) (old new : StoreState) : Type 0 where
  pub resting : IsResting old.phase
  pub committing : new.phase ≡ Committing
  pub next : new.next ≡ run old.stored actions
  pub admitted : admits_all old.stored actions ≡ true
  pub calls : new.left ≤ 4

-- a checkpoint was opened
pub record CheckpointIsOpened (old new : StoreState) : Type 0 where
  pub idle : old.phase ≡ Idle
  pub is_open : IsCheckpointing new.phase
  pub next : new.next ≡ old.stored
  pub calls : new.left ≤ most_calls
  pub fresh : IsJustOpened new.going

-- no checkpoint was
abbrev pub CheckpointIsNotOpened : (old new : StoreState) → Type 0
CheckpointIsNotOpened old new = (new.phase ≡ old.phase) × (new.next ≡ old.next) × (new.going ≡ old.going)

-- a device call: a commit continues until it is done, and what is done is stored
abbrev pub Advanced : Progress → (old new : StoreState) → Type 0
Advanced More old new =
    ((new.phase ≡ Committing) ↔ (old.phase ≡ Committing)) × (new.phase ≢ Stopped) × (new.phase ≢ Idle) × (new.stored ≡ old.stored) × (new.next ≡ old.next) × (new.left < old.left)
Advanced Done old new = (new.phase ≢ Committing) × (new.phase ≢ Stopped) × (new.stored ≡ old.next) × (new.next ≡ old.next) × (IsCheckpointing old.phase → new.phase ≡ Idle)
Advanced Failed old new = (new.phase ≡ Stopped) × (new.stored ≡ old.stored) × (new.next ≡ old.next)

-- what will be taken is taken after a checkpoint is done, and will be until then
abbrev pub TakesOn : Progress → Phase → (will_take takes : Type 0) → Type 0
TakesOn More phase will_take takes = will_take
TakesOn Done phase will_take takes = IsCheckpointing phase → takes
TakesOn Failed phase will_take takes = Unit {0}

-- at most one call of the device
abbrev pub IsCalls : DeviceState → DeviceState → Type 0
IsCalls old new = (new ≡ old) ⊎ IsCall old new
