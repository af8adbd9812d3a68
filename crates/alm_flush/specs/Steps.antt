-- What a step of a flusher makes of its store: of the device, of the batch under way, in which order, at which pace,
-- and why it fails.
use Rattle.std.specs.Prelude.{◌≡◌, ◌≢◌, ◌↔◌, ◌⊎◌, ◌+◌, ◌*◌, ◌<◌, ◌≤◌, ℕ, Bool, List, [], length, IsTrue, MatchBool, None, false, true}
use Rattle.alm_types.specs.Sizes.{most_entries}
use Rattle.alm_types.specs.declared.action.Action.{Action}
use Rattle.alm_disk.specs.Failures.{HasFailed}
use Rattle.alm_disk.specs.declared.disk.Disk
use Rattle.alm_model.specs.Rules.{admits_all}
use Rattle.alm_model.specs.Step.{run}
use Rattle.alm_store.specs.Advancing.{CheckpointIsNotOpened, CheckpointIsOpened, CommitIsNotBegun, IsCalls, IsCheckpointing}
use Rattle.alm_store.specs.Calls.{CallDone, CallFailed, IsCall}
use Rattle.alm_store.specs.Pace.{least_segment, most, most_calls}
use Rattle.alm_store.specs.Pacing.{KeepsPace, SamePace}
use Rattle.alm_store.specs.State.{StoreState}
use Rattle.alm_store.specs.declared.phase.Phase.TheVariants.{Idle, Committing, Paused, Stopped}
use Rattle.alm_store.specs.declared.store.Store.{Ghosts}
use Rattle.alm_flush.specs.Advances.{Advances, IsSure, Within}
use Rattle.alm_flush.specs.Pacing.{NearPace}
use Rattle.alm_flush.specs.declared.advance.Advance.{Advance}
use Rattle.alm_flush.specs.declared.advance.Advance.TheVariants.{More, Committed, Failed}

-- a commit that is under way is that of these actions, which are admitted
pub record CommitsOnly (actions : List Action) (s : StoreState) : Type 0 where
  pub next : s.phase ≡ Committing → s.next ≡ run s.stored actions
  pub admitted : s.phase ≡ Committing → admits_all s.stored actions ≡ true

-- what is stored when it is done is what is stored, or these actions more
abbrev pub IsEither : List Action → StoreState → Type 0
IsEither actions s = ∥ (s.next ≡ s.stored) ⊎ (s.next ≡ run s.stored actions) ∥₁

-- the batch is stored exactly if its commit is done
pub record StoresBatch (result : Advance) (actions : List Action) (old new : StoreState) : Type 0 where
  pub answer : Advances result old.phase new.phase old.stored new.stored actions
  pub going : result ≢ Failed → new.phase ≢ Stopped
  pub passed : result ≡ Committed → admits_all old.stored actions ≡ true
  pub either : result ≢ Committed → IsEither actions new

-- a commit stays under way until it is done
pub record KeepsPhase (result : Advance) (old new : StoreState) : Type 0 where
  pub more : old.phase ≡ Committing → result ≡ More → new.phase ≡ Committing
  pub copies : IsCheckpointing old.phase → new.phase ≢ Committing
  pub commits : result ≡ Committed → old.phase ≡ Committing

-- the bytes of pieces are counted: by a piece at a time, only outside a commit, and down to a piece none is taken back
pub record CountsPieces (result : Advance) (old new : StoreState) : Type 0 where
  pub one : new.written ≤ old.written + most
  pub none : old.phase ≢ Paused → new.written ≤ old.written
  pub on : result ≡ More → old.written ≤ most → old.written ≤ new.written

-- what was begun if no work was under way: a commit, which leaves use and open checkpoint, or a checkpoint
pub record StartsInPace (takes : Type 0) (old new : StoreState) : Type 0 where
  pub pace : takes → SamePace old new
  pub alone : new.phase ≡ Committing → new.going ≡ old.going

module _ {S D : Type 0} (g : Ghosts S D) where
  -- no device call was made, and what is stored is as it was
  pub record IsUntouched (old new : S) : Type 0 where
    pub disk : g.disk new ≡ g.disk old
    pub exhausted : g.exhausted old ↔ g.exhausted new
    pub newest : g.newest old → g.newest new
    pub stored : (g.state new).stored ≡ (g.state old).stored
    pub written : (g.state new).written ≡ (g.state old).written
    pub segment : (g.state new).segment ≡ (g.state old).segment

  -- except for the count of a checkpoint's bytes it is as before
  pub record IsAsBefore (old new : S) : Type 0 where
    pub disk : g.disk new ≡ g.disk old
    pub state : g.state new ≡ record (g.state old) { written = (g.state new).written }
    pub newest : g.newest old → g.newest new
    pub takes : (actions : List Action) → (g.takes old actions ↔ g.takes new actions) × (g.will_take old actions ↔ g.will_take new actions)

  -- work is begun for a batch with these actions, or it was refused. No device call is made. Only a batch that isn't the next one is
  -- refused, except in the last epoch
  pub record BeginsWork (result : Bool) (actions : List Action) (is_next : Type 0) (old new : S) : Type 0 where
    pub kept : IsUntouched old new
    pub refused : result ≡ false → CommitIsNotBegun (g.state old) (g.state new)
    pub commit : IsTrue result → CommitsOnly actions (g.state new)
    pub cause : ¬ (g.exhausted old) → is_next → IsTrue result

  -- how many calls are left of what was begun, and that a checkpoint makes the room for these actions
  pub record HasFewCalls (actions : List Action) (s : S) : Type 0 where
    pub commit : (g.state s).phase ≡ Committing → (g.state s).left ≤ 4
    pub checkpoint : IsCheckpointing (g.state s).phase → ((g.state s).left ≤ most_calls) × (length actions ≤ most_entries → g.will_take s actions)

  -- what is begun for a batch before the next call
  pub record BeginsInOrder (actions : List Action) (old new : S) : Type 0 where
    pub taken : (g.state old).phase ≡ Idle → g.takes old actions → (g.state new).phase ≡ Committing
    pub takes : g.takes old actions → IsCheckpointing (g.state new).phase → g.takes new actions
    pub between : (g.state old).phase ≡ Paused → (g.state new).phase ≡ Committing → 0 < (g.state old).written
    pub waits : g.takes old actions → (g.state new).phase ≡ Paused → (g.state old).written ≡ 0

  pub record BeginsInPace (old new : S) : Type 0 where
    pub pace : g.newest old → least_segment ≤ (g.state old).segment → KeepsPace (g.state old) → KeepsPace (g.state new)
    pub alone : (g.state new).phase ≡ Committing → (g.state new).going ≡ (g.state old).going

  -- pieces of a checkpoint and commits, one after the other
  pub record IsInOrder (result : Advance) (actions : List Action) (old new : S) : Type 0 where
    -- a checkpoint only if the store doesn't take the batch
    pub taken : (g.state old).phase ≡ Idle → g.takes old actions → result ≡ More → (g.state new).phase ≡ Committing
    -- a piece goes out before each commit within a checkpoint,
    pub between : (g.state old).phase ≡ Paused → (g.state new).phase ≡ Committing → 0 < (g.state old).written
    -- and no more than one while a batch waits that was taken as it was fetched
    pub waits : result ≡ More → g.takes old actions → 0 < length actions → (g.state old).written ≤ most → (g.state new).written ≤ most
    pub still : result ≡ More → g.takes old actions → 0 < length actions → (g.state new).phase ≢ Committing → g.takes new actions
    -- and its count isn't reset
    pub counted : result ≡ More → 0 < length actions → (g.state old).written ≤ most → (g.state old).written ≤ (g.state new).written

  -- the same between a commit's end and the checkpoint that is opened after it
  pub record NearsPace (result : Advance) (old new : S) : Type 0 where
    pub segment : (g.state new).segment ≡ (g.state old).segment
    pub newest : g.newest old → g.newest new
    pub pace : result ≡ More → g.newest old → least_segment ≤ (g.state old).segment → KeepsPace (g.state old) → KeepsPace (g.state new)
    pub near : result ≡ Committed → g.newest old → least_segment ≤ (g.state old).segment → KeepsPace (g.state old) → NearPace (g.state new)
    pub alone : result ≡ Committed → (g.state old).going ≡ None → (g.state new).going ≡ None

  -- after a commit a checkpoint is open if more than half of the segment is used, except in the last epoch, and none is opened
  -- otherwise
  pub record OpensBehind (result : Advance) (old new : S) : Type 0 where
    pub opens : result ≡ Committed → ¬ (g.exhausted new) → (g.state new).segment < 2 * (g.state new).used → IsCheckpointing (g.state new).phase
    pub only : result ≡ Committed → (g.state old).going ≡ None → 2 * (g.state new).used ≤ (g.state new).segment → (g.state new).going ≡ None

  -- between two batches a checkpoint was opened if no work was under way, without a device call, and what is stored stays as it was.
  -- If none was opened only the count of a checkpoint's bytes may be another
  pub record OpensBetween (result : Bool) (old new : S) : Type 0 where
    pub disk : g.disk new ≡ g.disk old
    pub exhausted : g.exhausted old ↔ g.exhausted new
    pub newest : g.newest old → g.newest new
    pub takes : (actions : List Action) → g.takes old actions → g.takes new actions
    pub stored : (g.state new).stored ≡ (g.state old).stored
    pub used : (g.state new).used ≡ (g.state old).used
    pub segment : (g.state new).segment ≡ (g.state old).segment
    pub working : (g.state old).phase ≢ Idle → (result ≡ false) × (new ≡ old)
    pub opened : MatchBool result (CheckpointIsOpened (g.state old) (g.state new)) (CheckpointIsNotOpened (g.state old) (g.state new))
    pub pace : KeepsPace (g.state old) → KeepsPace (g.state new)

  -- the store keeps its pace, and so takes every batch, as long as epochs are left
  pub record StaysInPace (result : Advance) (old new : S) : Type 0 where
    pub segment : (g.state new).segment ≡ (g.state old).segment
    pub newest : g.newest old → g.newest new
    pub pace : result ≢ Failed → ¬ (g.exhausted new) → g.newest old → least_segment ≤ (g.state old).segment → KeepsPace (g.state old) → KeepsPace (g.state new)

  -- the commit of these actions is done in at most m steps
  abbrev pub EndsWithin : (m : ℕ) → List Action → S → Type 0
  EndsWithin m actions s = Within m (g.state s).phase (g.state s).left (g.takes s actions) (g.will_take s actions) (length actions)

  module _ (d : Disk.Ghosts D) where
    -- at most one call of the device, whatever it does
    pub record CallsDevice (result : Advance) (actions : List Action) (old new : S) : Type 0 where
      pub honest : d.honest (g.disk old) ↔ d.honest (g.disk new)
      -- the call was done if there is more to do for a batch that has actions, or for a checkpoint. There was no call for a batch
      -- without actions. If the step fails, a call failed, or none was made
      pub done : 0 < length actions → result ≢ Failed → CallDone d.serves (g.disk old) (g.disk new)
      pub goes : result ≡ More → CallDone d.serves (g.disk old) (g.disk new)
      pub none : actions ≡ [] → result ≡ Committed → g.disk new ≡ g.disk old
      pub failed : result ≡ Failed → (g.disk new ≡ g.disk old) ⊎ CallFailed d.serves (g.disk old) (g.disk new)
      pub sound : result ≢ Failed → d.failures (g.disk new) ≡ d.failures (g.disk old)
      pub count : d.failures (g.disk old) ≤ d.failures (g.disk new)
      pub exhausted : g.exhausted old → g.exhausted new
      -- of an honest one it is a write or a sync by its bytes
      pub call : d.honest (g.disk old) → IsCalls (d.state (g.disk old)) (d.state (g.disk new))
      pub one : d.honest (g.disk old) → 0 < length actions → result ≢ Failed → IsCall (d.state (g.disk old)) (d.state (g.disk new))
      pub more : d.honest (g.disk old) → result ≡ More → IsCall (d.state (g.disk old)) (d.state (g.disk new))

    -- the batch is the next one, and its step failed: because of the device if no checkpoint is to begin, and otherwise too,
    -- except in the last epoch
    pub record HasCauses (result : Advance) (actions : List Action) (is_next : Type 0) (old new : S) : Type 0 where
      pub sure : result ≡ Failed → IsSure (g.state old).phase (g.takes old actions) → is_next → HasFailed (d.failures (g.disk old)) (d.failures (g.disk new))
      pub cause : result ≡ Failed → (g.state old).phase ≢ Stopped → ¬ (g.exhausted old) → is_next → HasFailed (d.failures (g.disk old)) (d.failures (g.disk new))

    -- one step of the commit of these actions: at most one device call. The commit stays that of these actions alone, and is done
    -- in one step less if there is more to do
    pub record StepsCommit (result : Advance) (actions : List Action) (is_next : Type 0) (old new : S) : Type 0 where
      pub device : CallsDevice result actions old new
      pub stores : StoresBatch result actions (g.state old) (g.state new)
      pub commit : CommitsOnly actions (g.state new)
      pub order : IsInOrder result actions old new
      pub ends : (m : ℕ) → result ≡ More → EndsWithin (m + 1) actions old → EndsWithin m actions new
      pub causes : HasCauses result actions is_next old new
