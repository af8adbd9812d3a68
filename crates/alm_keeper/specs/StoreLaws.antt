-- For the proofs.
-- What a store's laws are of a keeper.
use Rattle.std.specs.Prelude.{◌≡◌, ◌≢◌, ◌≤◌, List, length, ℕ, None, IsSome}
use Rattle.std.proofs.Common.{refl}
use Rattle.alm_disk.specs.Device.{AreBytes}
use Rattle.alm_model.specs.Plant.{Condensed}
use Rattle.alm_model.specs.Rules.{KeepsRules}
use Rattle.alm_checkpoint.proofs.CutOf.{stands_cut}
use Rattle.alm_checkpoint.proofs.Turned.{rules_stored}
use Rattle.alm_checkpoint.proofs.Unique.{stands_once}
use Rattle.alm_store.specs.declared.phase.Phase.TheVariants as at
use Rattle.alm_keeper.specs.declared.stage.Stage.{Stage}
use Rattle.alm_keeper.specs.declared.stage.Stage.TheVariants.{Idle, Close, CloseSync, Body, BodySync, Gate, TurnSync, Retire, GateSync, Stopped}
use Rattle.alm_keeper.specs.declared.stage.Work.{Work}
use Rattle.alm_keeper.specs.declared.stage.Work.TheVariants.{Commit, Checkpoint}
use Rattle.alm_keeper.specs.Stages.{phase_of}
use Rattle.alm_codec.proofs.Full.{full_bears}
use Rattle.alm_keeper.specs.Keeper.{KeeperView, HasRoomFor, next, next_by, begun_by}
use Rattle.alm_store.specs.Pacing.{TakesAny}
use Rattle.alm_types.specs.declared.action.Action.{Action}
use Rattle.alm_store.specs.Advancing.{IsCheckpointing}
use Rattle.alm_keeper.specs.AsStore.{StandsFor, IsNewest, store_state_of, run_of, is_checkpoint_open, going_if, going_of}
use Rattle.alm_store.proofs.Pace.{room_for}
use Rattle.alm_types.specs.Sizes.{most_entries}

-- a keeper whose phase is idle is at no stage of a work
pub is_idle : (s : Stage) (w : Work) → phase_of s w ≡ at.Idle → s ≡ Idle
is_idle Idle w e = refl
is_idle Stopped w e = absurd cc
is_idle Close Commit e = absurd cc
is_idle Close Checkpoint e = absurd cc
is_idle CloseSync Commit e = absurd cc
is_idle CloseSync Checkpoint e = absurd cc
is_idle Body Commit e = absurd cc
is_idle Body Checkpoint e = absurd cc
is_idle BodySync Commit e = absurd cc
is_idle BodySync Checkpoint e = absurd cc
is_idle Gate Commit e = absurd cc
is_idle Gate Checkpoint e = absurd cc
is_idle TurnSync Commit e = absurd cc
is_idle TurnSync Checkpoint e = absurd cc
is_idle Retire Commit e = absurd cc
is_idle Retire Checkpoint e = absurd cc
is_idle GateSync Commit e = absurd cc
is_idle GateSync Checkpoint e = absurd cc

-- if no commit is under way the next plant is the stored one
rests_by : {D : Type 0} (s : Stage) (w : Work) (k : KeeperView D) → phase_of s w ≢ at.Committing → phase_of s w ≢ at.Stopped → (next_by s k.stored (begun_by w k)).plant ≡ k.stored.plant
rests_by Idle w k other going = refl
rests_by Stopped w k other going = absurd (going refl)
rests_by Close Commit k other going = absurd (other refl)
rests_by Close Checkpoint k other going = refl
rests_by CloseSync Commit k other going = absurd (other refl)
rests_by CloseSync Checkpoint k other going = refl
rests_by Body Commit k other going = absurd (other refl)
rests_by Body Checkpoint k other going = refl
rests_by BodySync Commit k other going = absurd (other refl)
rests_by BodySync Checkpoint k other going = refl
rests_by Gate Commit k other going = absurd (other refl)
rests_by Gate Checkpoint k other going = refl
rests_by TurnSync Commit k other going = absurd (other refl)
rests_by TurnSync Checkpoint k other going = refl
rests_by Retire Commit k other going = absurd (other refl)
rests_by Retire Checkpoint k other going = refl
rests_by GateSync Commit k other going = absurd (other refl)
rests_by GateSync Checkpoint k other going = refl

pub rests : {D : Type 0} (k : KeeperView D) → phase_of k.stage k.work ≢ at.Committing → phase_of k.stage k.work ≢ at.Stopped → (next k).plant ≡ k.stored.plant
rests k other going = rests_by k.stage k.work k other going

-- no bytes encode two plants
pub stands_for_one : (bytes : List ℕ) (p q : Condensed) → StandsFor bytes p → StandsFor bytes q → p ≡ q
stands_for_one bytes p q x y = (stands_once bytes x.0 y.0 p q x.1 y.1).1

-- what bytes encode keeps the rules of every plant
pub keeps_rules : (bytes : List ℕ) (p : Condensed) → AreBytes bytes → StandsFor bytes p → KeepsRules p
keeps_rules bytes p are x = let k = stands_cut bytes x.0 p x.1 are in rules_stored k.cut p k.stores

-- no checkpoint is open if a keeper is idle, and one is open in its stages
alone_by : {D : Type 0} (k : KeeperView D) (s : Stage) (w : Work) → phase_of s w ≡ at.Idle → going_if (is_checkpoint_open s w k.copying) (run_of k) ≡ None
alone_by k Idle w e = refl
alone_by k Stopped w e = absurd cc
alone_by k Close Commit e = absurd cc
alone_by k Close Checkpoint e = absurd cc
alone_by k CloseSync Commit e = absurd cc
alone_by k CloseSync Checkpoint e = absurd cc
alone_by k Body Commit e = absurd cc
alone_by k Body Checkpoint e = absurd cc
alone_by k BodySync Commit e = absurd cc
alone_by k BodySync Checkpoint e = absurd cc
alone_by k Gate Commit e = absurd cc
alone_by k Gate Checkpoint e = absurd cc
alone_by k TurnSync Commit e = absurd cc
alone_by k TurnSync Checkpoint e = absurd cc
alone_by k Retire Commit e = absurd cc
alone_by k Retire Checkpoint e = absurd cc
alone_by k GateSync Commit e = absurd cc
alone_by k GateSync Checkpoint e = absurd cc

open_by : {D : Type 0} (k : KeeperView D) (s : Stage) (w : Work) → IsCheckpointing (phase_of s w) → IsSome (going_if (is_checkpoint_open s w k.copying) (run_of k))
open_by k Idle w e = absurd e
open_by k Stopped w e = absurd e
open_by k Close Commit e = absurd e
open_by k Close Checkpoint e = refl
open_by k CloseSync Commit e = absurd e
open_by k CloseSync Checkpoint e = refl
open_by k Body Commit e = absurd e
open_by k Body Checkpoint e = refl
open_by k BodySync Commit e = absurd e
open_by k BodySync Checkpoint e = refl
open_by k Gate Commit e = absurd e
open_by k Gate Checkpoint e = refl
open_by k TurnSync Commit e = absurd e
open_by k TurnSync Checkpoint e = refl
open_by k Retire Commit e = absurd e
open_by k Retire Checkpoint e = refl
open_by k GateSync Commit e = absurd e
open_by k GateSync Checkpoint e = refl

pub goes_alone : {D : Type 0} (k : KeeperView D) → phase_of k.stage k.work ≡ at.Idle → going_of k ≡ None
goes_alone k is = alone_by k k.stage k.work is

pub goes_open : {D : Type 0} (k : KeeperView D) → IsCheckpointing (phase_of k.stage k.work) → IsSome (going_of k)
goes_open k is = open_by k k.stage k.work is

-- if there is room for the longest frame any batch is taken by a half of a version with all actions, which takes frames
pub fits_any : {D : Type 0} (k : KeeperView D) (actions : List Action) → IsNewest k → length actions ≤ most_entries → TakesAny (store_state_of k) → HasRoomFor k actions
fits_any k actions newest few any = ((room_for k.stored.room k.layout.segment (length actions) few any, full_bears k.stored.version actions newest.0), newest.1)
