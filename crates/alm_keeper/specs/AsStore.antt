-- A keeper as a store.
use Rattle.std.specs.Prelude.{◌≡◌, ◌+◌, ◌-◌, ◌/◌, ◌^◌, ◌==◌, ℕ, Bool, true, false, List, Option, Some, None, if◌then◌else◌}
use Rattle.alm_disk.specs.Device.{DeviceState}
use Rattle.alm_model.specs.Plant.{Condensed}
use Rattle.alm_checkpoint.specs.Standing.{Stands}
use Rattle.alm_keeper.specs.Keeper.{KeeperView, first_run, next, used_room}
use Rattle.alm_keeper.specs.Stages.{phase_of}
use Rattle.alm_keeper.specs.Stand.{IsAlone}
use Rattle.alm_codec.specs.Versions.{is_full}
use Rattle.alm_store.specs.Pace.{Going, most}
use Rattle.alm_store.specs.State.{StoreState}
use Rattle.alm_keeper.specs.declared.stage.Stage.{Stage}
use Rattle.alm_keeper.specs.declared.stage.Stage.TheVariants.{Idle, Close, CloseSync, Body, BodySync, Gate, TurnSync, Retire, GateSync}
use Rattle.alm_keeper.specs.declared.stage.Work.{Work}
use Rattle.alm_keeper.specs.declared.stage.Work.TheVariants.{Commit, Checkpoint}

-- the bytes encode the plant, in some epoch
abbrev pub StandsFor : List ℕ → Condensed → Type 0
StandsFor bytes plant = (epoch : ℕ) × Stands bytes epoch plant

-- the device is at the last epoch
abbrev pub IsLastEpoch : DeviceState → Type 0
IsLastEpoch state = ∥ ((plant : Condensed) × Stands state.bytes (2 ^ 64 - 1) plant) ∥₁

-- the half that stands is of a version with all actions, and takes frames
abbrev pub IsNewest : {D : Type 0} → KeeperView D → Type 0
IsNewest k = (is_full k.stored.version ≡ true) × IsAlone k.stored.version k.other_open

-- in how many pieces `left` bytes go out
abbrev pub pieces : ℕ → ℕ
pieces left = (left - 1) / most + 1

-- how many device calls at most write and open what a gate guards, and in version 03 shut the half that stood. `left` bytes of
-- a run are still to be written
abbrev pub gate_calls : Work → ℕ
gate_calls Commit = 2
gate_calls Checkpoint = 4

abbrev pub body_calls : Work → (left : ℕ) → ℕ
body_calls Commit left = 4
body_calls Checkpoint left = 5 + pieces left

-- how many are left at most of the work that is under way
abbrev pub calls_left : Stage → Work → (left : ℕ) → ℕ
calls_left Close work left = 2 + body_calls work left
calls_left CloseSync work left = 1 + body_calls work left
calls_left Body work left = body_calls work left
calls_left BodySync work left = 1 + gate_calls work
calls_left Gate work left = gate_calls work
calls_left TurnSync work left = 3
calls_left Retire work left = 2
calls_left GateSync work left = 1
calls_left stage work left = 0

-- ---- the open checkpoint

-- how many pieces of a run went out: the last one may be short
abbrev pub pieces_out : (out run : ℕ) → ℕ
pieces_out out run = if out == run then out / most + 1 else out / most

-- one is open
abbrev pub is_checkpoint_open : Stage → Work → (copying : Bool) → Bool
is_checkpoint_open Idle work copying = false
is_checkpoint_open stage Checkpoint copying = true
is_checkpoint_open stage Commit copying = copying

abbrev pub going_if : Bool → Going → Option Going
going_if true g = Some g
going_if false g = None

abbrev pub run_of : {D : Type 0} → KeeperView D → Going
run_of k = record { since = k.run - first_run k; pieces = pieces_out k.out k.run }

abbrev pub going_of : {D : Type 0} → KeeperView D → Option Going
going_of k = going_if (is_checkpoint_open k.stage k.work k.copying) (run_of k)

-- ---- its state as a store

abbrev pub store_state_of : {D : Type 0} → KeeperView D → StoreState
store_state_of k = record {
  phase = phase_of k.stage k.work;
  left = calls_left k.stage k.work (k.run - k.out);
  stored = k.stored.plant;
  next = (next k).plant;
  segment = k.layout.segment;
  used = used_room k;
  going = going_of k;
  written = k.written;
}
