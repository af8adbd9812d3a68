-- What a keeper knows and has begun.
use Rattle.std.specs.Prelude.{◌≡◌, ◌⊎◌, ℕ, ◌+◌, ◌-◌, ◌*◌, ◌^◌, ◌<◌, ◌≤◌, Bool, true, false, None, Some, List, [], ◌∷◌, ◌++◌, length, take, vec_capacity, Result, Ok, Err}
use Rattle.alm_keeper.specs.Keeper.{Standing, KeeperView, piece, written_after}
use Rattle.alm_keeper.specs.Stages.{During, next_stage, first_stage, sent_stage, turn_stage, rest_stage, rest_work, phase_of}
use Rattle.alm_store.specs.Advancing.{IsResting}
use Rattle.alm_codec.specs.declared.asked.Asked.{Asked}
use Rattle.alm_model.specs.Plant.{Condensed}
use Rattle.alm_model.specs.Rules.{KeepsRules, AreAdmitted}
use Rattle.alm_codec.specs.Frames.{IsFrame, asked_actions, frame_body}
use Rattle.alm_codec.specs.Versions.{closed_gate, newer}
use Rattle.alm_codec.specs.Image.{IsOf, image_text}
use Rattle.alm_segment.specs.Course.{frame_len}
use Rattle.alm_checkpoint.specs.Headers.{half_head_text, is_summed}
use Rattle.alm_checkpoint.specs.Layouts.{image_size, device_len, head_len, segment_at, other}
use Rattle.alm_checkpoint.specs.Cut.{IsLayout, head_before}
use Rattle.alm_keeper.specs.declared.stage.Stage.{Stage}
use Rattle.alm_keeper.specs.declared.stage.Stage.TheVariants.{Idle, Close, CloseSync, Body, Gate, TurnSync, Retire, GateSync, Stopped}
use Rattle.alm_keeper.specs.declared.stage.Work.{Work}
use Rattle.alm_keeper.specs.declared.stage.Work.TheVariants.{Commit, Checkpoint}
use Rattle.alm_store.specs.declared.refused.Refused.{Refused}
use Rattle.alm_store.specs.declared.refused.Refused.TheVariants as no
use Rattle.alm_keeper.specs.declared.book.Book.{Book}
use Rattle.alm_disk.specs.Device.{DeviceState, IsImage}
use Rattle.alm_disk.specs.declared.disk_fault.DiskFault.{DiskFault}
use Rattle.alm_store.specs.declared.progress.Progress.{Progress}
use Rattle.alm_store.specs.declared.progress.Progress.TheVariants.{More, Done, Failed}
use Rattle.alm_keeper.specs.Piecewise.{Copy, run_text}
use Rattle.alm_keeper.specs.Phases.{UnderWay, Rest, Shut, ShutSync, Pause, Frame, End, KeptIn}
use Rattle.alm_keeper.specs.Phases.{WorkAdvances as AdvancesOn}
use Rattle.alm_keeper.specs.Stand.{HoldsPlant, HoldsIt, SaysIt, Account, IsAlone, saying, end_of_half, TakesAsked, with_commit, turned_half}
use Rattle.alm_keeper.specs.Trail.{asked_in, IsEnd}
use Rattle.alm_keeper.specs.Saying.{AddsTo}
use Rattle.alm_types.specs.Sizes.{most_actions, most_entries}

-- the account of the device that the book holds. No field of a book has the trail
abbrev pub account : Book → Account
account b = record { layout = b.layout; half = b.half; other_open = b.other_open; version = b.version; epoch = b.epoch; gate = b.gate; plant = b.stored; trail = [] }

-- the run of the open checkpoint
abbrev pub run_in : Book → List ℕ
run_in b = take b.run b.buffer.items

-- how long its next piece is
abbrev pub piece_of : Book → ℕ
piece_of b = piece (b.run - b.out)

-- what the device will be when the work is done
abbrev pub done_by : Work → Book → Account
done_by Commit b = with_commit (account b) b.actions.items
done_by Checkpoint b = turned_half (account b) b.run

abbrev pub account_next_at : Stage → Work → Book → Account
account_next_at Idle work b = account b
account_next_at stage work b = done_by work b

abbrev pub account_next : Book → Account
account_next b = account_next_at b.stage b.work b

-- a commit is begun
pub record Committing (a : Account) (asked : List Asked) (frame : List ℕ) (ahead : Condensed) : Type 0 where
  pub spells : IsFrame a.version a.epoch (a.plant.panel.count + 1) asked
  pub admitted : AreAdmitted a.plant (asked_actions asked)
  pub takes : TakesAsked a asked
  pub alone : IsAlone a.version a.other_open
  pub text : take (19 + 16 * length asked) frame ≡ frame_body a.version a.epoch (a.plant.panel.count + 1) asked
  pub tried : ahead ≡ (with_commit a asked).plant

abbrev pub DoesWork : Work → Book → Type 0
DoesWork Commit b = Committing (account b) b.actions.items b.frame.items b.ahead
DoesWork Checkpoint b = (b.copying ≡ true) × (b.ahead ≡ b.stored)

abbrev pub Does : Stage → Work → Book → Type 0
Does Idle work b = (b.copying ≡ false) × (b.ahead ≡ b.stored)
Does Stopped work b = Unit {0}
Does Close Commit b = ⊥
Does CloseSync Commit b = ⊥
Does TurnSync Commit b = ⊥
Does Retire Commit b = ⊥
Does stage work b = DoesWork work b

-- how much of a run went out: none before the other half's gate is closed, all of it at the end
abbrev pub HasSent : Stage → Work → (out run : ℕ) → Type 0
HasSent Close work out run = out ≡ 0
HasSent CloseSync work out run = out ≡ 0
HasSent stage Commit out run = out < run
HasSent Body Checkpoint out run = out < run
HasSent stage Checkpoint out run = out ≡ run

-- a checkpoint is open: its run is in the buffer, and the frames in it are among the frames of the half that stands, so they fit
-- the other half
pub record OpenedBook (stage : Stage) (b : Book) : Type 0 where
  pub more : b.epoch + 1 < 2 ^ 64
  pub least : head_len + image_size b.layout ≤ b.run
  pub room : segment_at b.layout b.half + b.run ≤ b.gate + (head_len + image_size b.layout)
  pub within : b.run ≤ length b.buffer.items
  pub sent : HasSent stage b.work b.out b.run

abbrev pub IsCopying : Bool → Stage → Book → Type 0
IsCopying false stage b = Unit {0}
IsCopying true Stopped b = Unit {0}
IsCopying true stage b = OpenedBook stage b

-- what is true of a book, whatever the device does. The room of its vectors never changes: no call takes memory
pub record InOrder (b : Book) : Type 0 where
  pub layout : IsLayout b.layout
  pub small : device_len b.layout < 2 ^ 64
  pub rules : KeepsRules b.stored
  pub sizes : IsOf b.layout.rows b.layout.areas b.stored.panel.count b.stored
  pub count : b.stored.panel.count ≤ most_actions
  pub first : segment_at b.layout b.half ≤ b.gate
  pub gate : b.gate + 1 ≤ end_of_half (account b)
  pub room : vec_capacity b.actions ≡ most_entries
  pub frame : length b.frame.items ≡ 4115
  pub frame_room : vec_capacity b.frame ≡ 4115
  pub buffer : vec_capacity b.buffer ≡ head_len + image_size b.layout + b.layout.segment
  pub does : Does b.stage b.work b
  pub copy : IsCopying b.copying b.stage b

-- its layout fits a device of `size` bytes
pub record FitsDevice (b : Book) (size : ℕ) : Type 0 where
  pub fits : device_len b.layout ≤ size
  pub in_memory : size < 2 ^ 64

-- what is stored stays the same, and so does an open checkpoint
pub record SameBeside (old new : Book) : Type 0 where
  pub account : account new ≡ account old
  pub copying : new.copying ≡ old.copying
  pub run : new.run ≡ old.run
  pub text : run_in new ≡ run_in old
  pub out : new.out ≡ old.out
  pub written : new.written ≡ old.written

-- what is left, by the result
abbrev pub Begins : Result Unit Refused → List Asked → (old new : Book) → Type 0
Begins (Ok _) asked old new = IsResting (phase_of old.stage old.work) × (new.stage ≡ Body) × (new.work ≡ Commit) × (new.actions.items ≡ asked) × SameBeside old new
Begins (Err (no.NotAccepted place)) asked old new = IsResting (phase_of old.stage old.work) × (new.stage ≡ Stopped) × (new.work ≡ Commit) × (new.actions.items ≡ []) × SameBeside old new
Begins (Err why) asked old new = new ≡ old

-- a checkpoint is open: the stored plant is copied
pub record OpensCheckpoint (old new : Book) : Type 0 where
  pub idle : old.stage ≡ Idle
  pub stage : new.stage ≡ first_stage old.other_open
  pub work : new.work ≡ Checkpoint
  pub account : account new ≡ account old
  pub actions : new.actions.items ≡ old.actions.items
  pub copying : new.copying ≡ true
  pub run : new.run ≡ head_len + image_size old.layout
  pub text : run_in new ≡ half_head_text old.layout (other old.half) (head_before (newer old.version) (old.epoch + 1) old.stored) ++ image_text old.stored ++ closed_gate (newer old.version) ∷ []
  pub out : new.out ≡ 0
  pub written : new.written ≡ old.written

abbrev pub Copies : Result Unit Refused → (old new : Book) → Type 0
Copies (Ok _) old new = OpensCheckpoint old new
Copies (Err why) old new = new ≡ old

-- the frame of the commit that is done goes out with an open checkpoint
pub record GrowsBook (old new : Book) : Type 0 where
  pub run : new.run ≡ old.run + frame_len (length old.actions.items)
  pub text : run_in new ≡ take (old.run - 1) (run_in old) ++ (165 ∷ frame_body (newer old.version) (old.epoch + 1) (old.stored.panel.count + 1) old.actions.items)

abbrev pub GrowsWhere : Bool → (old new : Book) → Type 0
GrowsWhere true old new = GrowsBook old new
GrowsWhere false old new = new.run ≡ old.run

-- a commit is done, a checkpoint is done
pub record ClosesBook (old new : Book) : Type 0 where
  pub stage : new.stage ≡ rest_stage old.copying
  pub work : new.work ≡ rest_work old.copying
  pub account : account new ≡ saying [] (with_commit (account old) old.actions.items)
  pub actions : new.actions.items ≡ old.actions.items
  pub copying : new.copying ≡ old.copying
  pub grows : GrowsWhere old.copying old new
  pub out : new.out ≡ old.out
  pub written : new.written ≡ 0

pub record TurnsBook (old new : Book) : Type 0 where
  pub stage : new.stage ≡ Idle
  pub work : new.work ≡ old.work
  pub account : account new ≡ turned_half (account old) old.run
  pub actions : new.actions.items ≡ old.actions.items
  pub copying : new.copying ≡ false
  pub run : new.run ≡ old.run
  pub out : new.out ≡ old.out
  pub written : new.written ≡ old.written

abbrev pub Finishes : Work → (old new : Book) → Type 0
Finishes Commit old new = ClosesBook old new
Finishes Checkpoint old new = TurnsBook old new

-- n bytes of the run went out
abbrev pub sent_by : ℕ → Book → Book
sent_by n b = record b { stage = sent_stage (b.out + n) b.run; out = b.out + n; written = written_after b.written n }

-- the book after a call that was done. After the other half's gate was synced closed, it reads closed
abbrev pub IsBookAfter : Stage → Work → Progress → (old new : Book) → Type 0
IsBookAfter GateSync work step old new = (step ≡ Done) × Finishes work old new
IsBookAfter CloseSync work step old new = (step ≡ More) × (new ≡ record old { stage = Body; other_open = false })
IsBookAfter Body Checkpoint step old new = (step ≡ More) × (new ≡ sent_by (piece_of old) old)
IsBookAfter Gate Checkpoint step old new = (step ≡ More) × (new ≡ record old { stage = turn_stage (is_summed old.version) })
IsBookAfter stage work step old new = (step ≡ More) × (new ≡ record old { stage = next_stage stage })

-- what is under way on the device, without an open checkpoint
abbrev pub work_alone : Stage → List Asked → UnderWay
work_alone Idle asked = Rest
work_alone stage asked = Frame None stage asked

-- .. and with one
abbrev pub work_beside : Stage → Work → Copy → List Asked → UnderWay
work_beside Close work k asked = Shut k
work_beside CloseSync work k asked = ShutSync k
work_beside TurnSync work k asked = End k TurnSync
work_beside Retire work k asked = End k Retire
work_beside stage Commit k asked = Frame (Some k) stage asked
work_beside Body Checkpoint k asked = Pause k
work_beside stage Checkpoint k asked = End k stage

-- the copy, of which `out` bytes went out
abbrev pub at_out : Copy → ℕ → Copy
at_out k out = record k { out = out }

-- some copy has this run, whose frames are the last ones of a device with this trail. The copied plant and the frames since are in
-- no field of the book
pub record CopiedIn (b : Book) (trail : List Asked) (k : Copy) : Type 0 where
  pub run : run_text (account b) k ≡ run_in b
  pub ends : IsEnd (asked_in k.since) trail

-- what is kept of the device, if the device keeps to its model and its trail is this one
abbrev pub KeptBy : Stage → Bool → Work → List Asked → Book → DeviceState → Type 0
KeptBy Stopped copying work trail b state = (x : List ℕ) → IsImage state x → HoldsPlant b.epoch b.stored x ⊎ HoldsIt (done_by work b) x
KeptBy stage false work trail b state = KeptIn (work_alone stage b.actions.items) (saying trail (account b)) state
KeptBy stage true work trail b state = (k : Copy) × CopiedIn b trail k × KeptIn (work_beside stage work (at_out k b.out) b.actions.items) (saying trail (account b)) state

abbrev pub Keeps : DeviceState → Book → Type 0
Keeps state b = (trail : List Asked) × KeptBy b.stage b.copying b.work trail b state

-- what a call makes of it
abbrev pub PassesBy : Bool → Stage → Work → List Asked → Book → Result Unit DiskFault → (old new : DeviceState) → Type 0
PassesBy false stage work trail b result old new = AdvancesOn (work_alone stage b.actions.items) (saying trail (account b)) (piece_of b) result old new
PassesBy true stage work trail b result old new = (k : Copy) × CopiedIn b trail k × KeptIn (work_beside stage work (at_out k b.out) b.actions.items) (saying trail (account b)) old
    × AdvancesOn (work_beside stage work (at_out k b.out) b.actions.items) (saying trail (account b)) (piece_of b) result old new

abbrev pub PassesOn : Result Unit DiskFault → (old new : DeviceState) → Book → Type 0
PassesOn result old new b = (trail : List Asked) × PassesBy b.copying b.stage b.work trail b result old new

-- what a crash leaves at any moment of the call that is next, with the trail before it, and after the work
pub record LeavesSaying (b : Book) (left : List ℕ → Type 0) : Type 0 where
  pub before : List Asked
  pub after : List Asked
  pub adds : AddsTo b.work before b.actions.items after
  pub says : (bytes : List ℕ) → left bytes → During (SaysIt (saying before (account b))) (SaysIt (saying after (account_next b))) b.stage bytes

-- what a device encodes, by what is known of it
abbrev pub standing_by : Account → Standing
standing_by a = record { version = a.version; epoch = a.epoch; plant = a.plant; room = end_of_half a - a.gate }

-- how a step ends
abbrev pub EndsStep : Progress → (old new : Book) → Type 0
EndsStep Failed old new = new ≡ record old { stage = Stopped }
EndsStep step old new = IsBookAfter old.stage old.work step old new

-- ---- for callers

-- the bytes of the run, while a checkpoint is open
abbrev pub copied_in : Bool → List ℕ → List ℕ
copied_in true text = text
copied_in false text = []

abbrev pub keeper_of : {D : Type 0} → D → Book → KeeperView D
keeper_of disk b = record {
  disk = disk;
  stage = b.stage;
  work = b.work;
  half = b.half;
  other_open = b.other_open;
  layout = b.layout;
  stored = standing_by (account b);
  asked = b.actions.items;
  copying = b.copying;
  run = b.run;
  copied = copied_in b.copying (run_in b);
  out = b.out;
  written = b.written;
}
