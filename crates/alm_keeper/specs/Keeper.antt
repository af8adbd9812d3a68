-- A keeper as its callers see it, and what each call makes of it.
use Rattle.std.specs.Prelude.{◌≡◌, ◌≢◌, ◌↔◌, ℕ, ◌+◌, ◌-◌, ◌≤◌, ◌^◌, ◌==◌, min, Bool, true, false, List, [], ◌∷◌, ◌++◌, length, take, drop, Result, Ok, Err, IsErr, if◌then◌else◌}
use Rattle.alm_types.specs.declared.action.Action.{Action}
use Rattle.alm_types.specs.Batches.{Judged}
use Rattle.alm_types.specs.Sizes.{most_entries}
use Rattle.alm_model.specs.Plant.{Condensed}
use Rattle.alm_model.specs.Step.{run}
use Rattle.alm_disk.specs.declared.call.Call.{Call}
use Rattle.alm_disk.specs.declared.call.Call.TheVariants.{Read, Write, Sync}
use Rattle.alm_disk.specs.declared.disk_fault.DiskFault.{DiskFault}
use Rattle.alm_disk.specs.declared.disk.Disk
use Rattle.alm_disk.specs.Device.{DeviceState, Writes, Syncs}
use Rattle.alm_codec.specs.declared.asked.Asked.{Asked}
use Rattle.alm_codec.specs.Frames.{asked_actions, frame_body}
use Rattle.alm_codec.specs.Image.{image_text}
use Rattle.alm_codec.specs.declared.version.Version.{Version}
use Rattle.alm_codec.specs.Versions.{AreBorne, closed_gate, newer}
use Rattle.alm_segment.specs.Course.{frame_len}
use Rattle.alm_checkpoint.specs.declared.layout.Layout.{Layout}
use Rattle.alm_checkpoint.specs.declared.half.Half.{Half}
use Rattle.alm_checkpoint.specs.declared.half.Half.TheVariants.{First, Second}
use Rattle.alm_checkpoint.specs.Layouts.{header_len, head_len, half_len, image_size, longest_segment, other}
use Rattle.alm_checkpoint.specs.Headers.{half_head_text, is_summed}
use Rattle.alm_checkpoint.specs.Cut.{head_before}
use Rattle.alm_checkpoint.specs.Opening.{Opened, gate_in, head_of, opened_in}
use Rattle.alm_checkpoint.specs.Standing.{Stands}
use Rattle.alm_store.specs.declared.phase.Phase.{Phase}
use Rattle.alm_store.specs.declared.phase.Phase.TheVariants as at
use Rattle.alm_keeper.specs.declared.stage.Stage.{Stage}
use Rattle.alm_keeper.specs.declared.stage.Stage.TheVariants.{Idle, Close, CloseSync, Body, Gate, Retire, GateSync, Stopped}
use Rattle.alm_keeper.specs.declared.stage.Work.{Work}
use Rattle.alm_keeper.specs.declared.stage.Work.TheVariants.{Commit, Checkpoint}
use Rattle.alm_store.specs.declared.refused.Refused.{Refused}
use Rattle.alm_store.specs.declared.refused.Refused.TheVariants as no
use Rattle.alm_store.specs.declared.progress.Progress.{Progress}
use Rattle.alm_store.specs.declared.progress.Progress.TheVariants.{More, Done, Failed}
use Rattle.alm_store.specs.Pace.{largest, most}
use Rattle.alm_keeper.specs.Batch.{tried_batch}
use Rattle.alm_keeper.specs.Stages.{IsWorking, first_stage, next_stage, sent_stage, turn_stage, rest_stage, rest_work, During}
use Rattle.alm_keeper.specs.Stand.{IsAlone, left_open}

-- what a device encodes: a plant in an epoch, the version of its half, and how many bytes of the segment are left from its first
-- closed gate on
pub record Standing : Type 0 where
  pub version : Version
  pub epoch : ℕ
  pub plant : Condensed
  pub room : ℕ

-- a keeper of a device
pub record KeeperView (D : Type 0) : Type 0 where
  pub disk : D
  -- which device call is next, and of which work
  pub stage : Stage
  pub work : Work
  -- the half that stands; the gate of the other one reads open
  pub half : Half
  pub other_open : Bool
  -- where the halves lie, and how long their images and segments are
  pub layout : Layout
  pub stored : Standing
  -- the actions of the commit that is begun, each with who asked
  pub asked : List Asked
  -- a checkpoint is open; how long its run is, its bytes, and how many of them went out
  pub copying : Bool
  pub run : ℕ
  pub copied : List ℕ
  pub out : ℕ
  -- how many bytes of runs went out since the last commit's end or mark, up to the largest number
  pub written : ℕ

-- a frame of `actions` actions and the gate after it fit
abbrev pub HasRoom : Standing → ℕ → Type 0
HasRoom s actions = frame_len actions + 1 ≤ s.room

-- how long the run of a checkpoint is at first: the head from its offset 1, the image, and a closed gate
abbrev pub first_run : {D : Type 0} → KeeperView D → ℕ
first_run k = head_len + image_size k.layout

-- how much of the segment is used: the place of its first closed gate
abbrev pub used_room : {D : Type 0} → KeeperView D → ℕ
used_room k = k.layout.segment - k.stored.room

-- a frame of these actions fits, and the half may hold them
abbrev pub HasRoomIn : Standing → List Action → Type 0
HasRoomIn s actions = HasRoom s (length actions) × AreBorne s.version actions

-- .. and it takes frames
abbrev pub HasRoomFor : {D : Type 0} → KeeperView D → List Action → Type 0
HasRoomFor k actions = HasRoomIn k.stored actions × IsAlone k.stored.version k.other_open

-- after a commit, and after a checkpoint with a run of this length
abbrev pub with_actions : Standing → List Asked → Standing
with_actions s asked = record { version = s.version; epoch = s.epoch; plant = run s.plant (asked_actions asked); room = s.room - frame_len (length asked) }

abbrev pub with_checkpoint : (half run : ℕ) → Standing → Standing
with_checkpoint half run s = record { version = newer s.version; epoch = s.epoch + 1; plant = s.plant; room = half - run }

-- what the work that is begun makes of what is stored
abbrev pub begun_by : {D : Type 0} → Work → KeeperView D → Standing
begun_by Commit k = with_actions k.stored k.asked
begun_by Checkpoint k = with_checkpoint (half_len k.layout) k.run k.stored

abbrev pub begun_standing : {D : Type 0} → KeeperView D → Standing
begun_standing k = begun_by k.work k

-- what is stored when the work that is begun is done
abbrev pub next_by : Stage → (stored begun_standing : Standing) → Standing
next_by Idle stored begun_standing = stored
next_by stage stored begun_standing = begun_standing

abbrev pub next : {D : Type 0} → KeeperView D → Standing
next k = next_by k.stage k.stored (begun_standing k)

-- an open checkpoint waits between two pieces, or while a commit is under way
abbrev pub IsPaused : {D : Type 0} → Phase → KeeperView D → Type 0
IsPaused at.Paused k = k.copying ≡ true
IsPaused at.Committing k = k.copying ≡ true
IsPaused phase k = ⊥

-- ---- bytes

-- they encode the plant in its epoch
abbrev pub IsStoredIn : Standing → List ℕ → Type 0
IsStoredIn s bytes = Stands bytes s.epoch s.plant

-- .. in a half of that version, with exactly that room
abbrev pub StandsWithRoom : Standing → List ℕ → Type 0
StandsWithRoom s bytes = (stands : Stands bytes s.epoch s.plant) × (stands.left ≡ s.room) × (stands.opened.head.version ≡ s.version)

-- the half that stands is this one, of this layout, and the other one's gate reads so
pub record LiesIn (half : Half) (layout : Layout) (other_open : Bool) (bytes : List ℕ) : Type 0 where
  pub opened : Opened
  pub opens : opened_in bytes ≡ Ok opened
  pub in_half : opened.half ≡ half
  pub of_layout : opened.layout ≡ layout
  pub beside : gate_in (head_of layout (other half) bytes) ≡ other_open

-- at any moment of the call that is next: until the gate's write begins they encode what is stored, from then on that or what is
-- begun
abbrev pub MayStand : {D : Type 0} → KeeperView D → List ℕ → Type 0
MayStand k bytes = During (IsStoredIn k.stored) (IsStoredIn (next k)) k.stage bytes

-- ---- answers

abbrev pub trial : Result Condensed ℕ → Result Unit Refused
trial (Ok q) = Ok tt
trial (Err place) = Err (no.NotAccepted place)

-- to a batch: if no work is under way and the batch's first number comes next, its actions are tried on the stored plant
abbrev pub begin_answer : Phase → Condensed → Judged → Result Unit Refused
begin_answer at.Stopped plant batch = Err no.Stopped
begin_answer at.Committing plant batch = Err no.Working
begin_answer at.Copying plant batch = Err no.Working
begin_answer phase plant batch = if batch.first == plant.panel.count + 1 then trial (tried_batch plant 0 batch.entries) else Err no.Gap

-- to a checkpoint, in an epoch
abbrev pub checkpoint_answer : Phase → ℕ → Result Unit Refused
checkpoint_answer at.Idle epoch = if epoch + 1 == 2 ^ 64 then Err no.Exhausted else Ok tt
checkpoint_answer at.Stopped epoch = Err no.Stopped
checkpoint_answer phase epoch = Err no.Working

-- ---- what is always so of a keeper

pub record IsConsistent {D : Type 0} (k : KeeperView D) : Type 0 where
  -- the largest image, and the longest segment
  pub lengths : (image_size k.layout ≤ largest) × (k.layout.segment ≤ longest_segment)
  -- the frames in the run of a checkpoint are among those of the segment
  pub runs : IsWorking k.stage → k.work ≡ Checkpoint → (k.out ≤ k.run) × (k.run + k.stored.room ≤ half_len k.layout)
  -- a frame has at most 256 actions, and its commit comes before a piece of an open checkpoint
  pub frames : IsWorking k.stage → k.work ≡ Commit → (length k.asked ≤ most_entries) × (k.copying ≡ true → k.out + 1 ≤ k.run)
  -- in version 03 a commit is under way only while the other half's gate is closed: so no damaged gate lets that one stand
  pub alone : IsWorking k.stage → k.work ≡ Commit → IsAlone k.stored.version k.other_open
  -- a piece of a checkpoint has a byte or more
  pub pieces : k.stage ≡ Body → k.work ≡ Checkpoint → k.out + 1 ≤ k.run
  -- if it is idle no checkpoint is open, and one is if it is under way
  pub copies : (k.stage ≡ Idle → k.copying ≡ false) × (IsWorking k.stage → k.work ≡ Checkpoint → k.copying ≡ true)

-- ---- what a call makes of a keeper

-- a batch with these actions: the commit is begun; a batch that isn't accepted stops the keeper, and no commit is begun
abbrev pub BeginsCommit : {D : Type 0} → Result Unit Refused → List Asked → (old new : KeeperView D) → Type 0
BeginsCommit (Ok _) asked old new = new ≡ record old { stage = Body; work = Commit; asked = asked }
BeginsCommit (Err (no.NotAccepted place)) asked old new = new ≡ record old { stage = Stopped; work = Commit; asked = [] }
BeginsCommit (Err why) asked old new = new ≡ old

-- the run of a new checkpoint: the head of the other half in the next epoch, from its offset 1, the image, and a closed gate
abbrev pub copy_text : Layout → Half → Standing → List ℕ
copy_text l half s = half_head_text l (other half) (head_before (newer s.version) (s.epoch + 1) s.plant) ++ image_text s.plant ++ closed_gate (newer s.version) ∷ []

-- the stored plant is copied, and the checkpoint is open
abbrev pub BeginsCheckpoint : {D : Type 0} → Result Unit Refused → (old new : KeeperView D) → Type 0
BeginsCheckpoint (Ok _) old new = new ≡ record old { stage = first_stage old.other_open; work = Checkpoint; copying = true; run = first_run old; copied = copy_text old.layout old.half old.stored; out = 0 }
BeginsCheckpoint (Err why) old new = new ≡ old

-- the next piece if `left` bytes are left
abbrev pub piece : (left : ℕ) → ℕ
piece left = min left most

-- n bytes went out
abbrev pub written_after : (written n : ℕ) → ℕ
written_after written n = min (written + n) (2 ^ 64 - 1)

abbrev pub sends : {D : Type 0} → (n : ℕ) → KeeperView D → KeeperView D
sends n k = record k { stage = sent_stage (k.out + n) k.run; out = k.out + n; written = written_after k.written n }

-- a frame of `actions` actions is copied after the image
abbrev pub after_frame : (copying : Bool) → (run actions : ℕ) → ℕ
after_frame true run actions = run + frame_len actions
after_frame false run actions = run

-- .. over its closed gate, with the next epoch
abbrev pub frame_copied : Standing → List Asked → (run : ℕ) → List ℕ → List ℕ
frame_copied s asked run text = take (run - 1) text ++ 165 ∷ frame_body (newer s.version) (s.epoch + 1) (s.plant.panel.count + 1) asked

abbrev pub copied_after : (copying : Bool) → Standing → List Asked → (run : ℕ) → List ℕ → List ℕ
copied_after true s asked run text = frame_copied s asked run text
copied_after false s asked run text = text

-- a commit is done
abbrev pub commits : {D : Type 0} → KeeperView D → KeeperView D
commits k = record k { stage = rest_stage k.copying; work = rest_work k.copying; stored = with_actions k.stored k.asked; run = after_frame k.copying k.run (length k.asked); copied = copied_after k.copying k.stored k.asked k.run k.copied; written = 0 }

-- a checkpoint is done
abbrev pub turns : {D : Type 0} → KeeperView D → KeeperView D
turns k = record k { stage = Idle; half = other k.half; other_open = left_open k.stored.version; stored = begun_by Checkpoint k; copying = false; copied = [] }

-- the keeper after the call that is next was done
abbrev pub after_by : {D : Type 0} → Stage → Work → KeeperView D → KeeperView D
after_by CloseSync work k = record k { stage = Body; other_open = false }
after_by Body Checkpoint k = sends (piece (k.run - k.out)) k
after_by Gate Checkpoint k = record k { stage = turn_stage (is_summed k.stored.version) }
after_by GateSync Commit k = commits k
after_by GateSync Checkpoint k = turns k
after_by stage work k = record k { stage = next_stage stage }

abbrev pub after_call : {D : Type 0} → KeeperView D → KeeperView D
after_call k = after_by k.stage k.work k

-- one device call of the work: Done is returned at its end
abbrev pub Progresses : {D : Type 0} → Progress → (old new : KeeperView D) → Type 0
Progresses More old new = (old.stage ≢ GateSync) × (new ≡ record (after_call old) { disk = new.disk })
Progresses Done old new = (old.stage ≡ GateSync) × (new ≡ record (after_call old) { disk = new.disk })
Progresses Failed old new = new ≡ record old { disk = new.disk; stage = Stopped }

-- ---- the device call

-- the start of a half of this length: its gate
abbrev pub half_from : (size : ℕ) → Half → ℕ
half_from size First = header_len
half_from size Second = header_len + size

-- the gate that the work opens: the first closed one of the half that stands, or that of the other half
abbrev pub gate_by : {D : Type 0} → Work → KeeperView D → ℕ
gate_by Commit k = half_from (half_len k.layout) k.half + half_len k.layout - k.stored.room
gate_by Checkpoint k = half_from (half_len k.layout) (other k.half)

-- the gate of the half that stood, which a checkpoint of version 03 closes at its end
abbrev pub own_gate : {D : Type 0} → KeeperView D → ℕ
own_gate k = half_from (half_len k.layout) k.half

-- a write of a number of bytes at a place, or a sync. What follows the gate is the body of the frame, or the next piece of the
-- run
abbrev pub call_by : {D : Type 0} → Stage → Work → KeeperView D → Call
call_by Close work k = Write (gate_by work k) 1
call_by Body Commit k = Write (gate_by Commit k + 1) (frame_len (length k.asked))
call_by Body Checkpoint k = Write (gate_by Checkpoint k + k.out + 1) (piece (k.run - k.out))
call_by Gate work k = Write (gate_by work k) 1
call_by Retire work k = Write (own_gate k) 1
call_by stage work k = Sync

-- the device call that is next
abbrev pub call_of : {D : Type 0} → KeeperView D → Call
call_of k = call_by k.stage k.work k

-- the bytes that it writes: a closed gate, a frame with who asked, a piece of the run, an open gate
abbrev pub payload_by : {D : Type 0} → Stage → Work → KeeperView D → List ℕ
payload_by Close work k = closed_gate k.layout.version ∷ []
payload_by Body Commit k = frame_body k.stored.version k.stored.epoch (k.stored.plant.panel.count + 1) k.asked
payload_by Body Checkpoint k = take (piece (k.run - k.out)) (drop k.out k.copied)
payload_by Gate work k = 165 ∷ []
payload_by Retire work k = closed_gate k.layout.version ∷ []
payload_by stage work k = []

abbrev pub payload_of : {D : Type 0} → KeeperView D → List ℕ
payload_of k = payload_by k.stage k.work k

-- what a call with these bytes makes of a device
abbrev pub Makes : {E : Type 0} → Call → List ℕ → Result Unit E → (old new : DeviceState) → Type 0
Makes (Read at n) text result old new = ⊥
Makes (Write at n) text result old new = (length text ≡ n) × Writes at text result old new
Makes Sync text result old new = Syncs result old new

-- how many bytes a call writes
abbrev pub bytes_of : Call → ℕ
bytes_of (Read at n) = 0
bytes_of (Write at n) = n
bytes_of Sync = 0

-- exactly the bytes that the call writes went out, and are counted
abbrev pub SendsPiece : {D : Type 0} → (old new : KeeperView D) → Type 0
SendsPiece old new = (new.out ≡ old.out + bytes_of (call_of old)) × (new.written ≡ written_after old.written (bytes_of (call_of old)))

-- this call was made on the device and no other, with these bytes, and it failed if the result says so
pub record CallsOnce {D : Type 0} (d : Disk.Ghosts D) (call : Call) (text : List ℕ) (told : Progress) (old new : D) : Type 0 where
  pub result : Result Unit DiskFault
  pub served : d.serves old call result new
  pub makes : d.honest old → Makes call text result (d.state old) (d.state new)
  pub fault : (told ≡ Failed) ↔ IsErr result
