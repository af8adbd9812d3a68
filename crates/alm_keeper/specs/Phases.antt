-- A keeper's device, by what is under way on it.
use Rattle.std.specs.Prelude.{◌≡◌, ◌⊎◌, ℕ, ◌+◌, ◌≤◌, true, false, List, [], ◌∷◌, length, take, drop, Bool, Option, Some, None, Result, Ok, ◌==◌, if◌then◌else◌}
use Rattle.alm_codec.specs.declared.asked.Asked.{Asked}
use Rattle.alm_model.specs.Rules.{AreAdmitted}
use Rattle.alm_codec.specs.declared.version.Version.{Version}
use Rattle.alm_codec.specs.Versions.{closed_gate}
use Rattle.alm_codec.specs.Frames.{IsFrame, asked_actions, frame_body}
use Rattle.alm_disk.specs.Device.{DeviceState, Writes, Syncs}
use Rattle.alm_disk.specs.Device.{IsImage as IsLeft}
use Rattle.alm_checkpoint.specs.Headers.{is_summed}
use Rattle.alm_keeper.specs.Stand.{SaysIt, Ready, Account, other_at, TakesAsked, with_commit}
use Rattle.alm_keeper.specs.Resting.{RestsBut, or_within, Kept}
use Rattle.alm_keeper.specs.Stages.{During, next_stage, turn_stage}
use Rattle.alm_keeper.specs.declared.stage.Stage.{Stage}
use Rattle.alm_keeper.specs.declared.stage.Stage.TheVariants.{Close, CloseSync, Body, BodySync, Gate, TurnSync, Retire, GateSync}
use Rattle.alm_keeper.specs.Piecewise.{Copy, run_text, IsCopy, is_sent, WrotePart, Paused, turned_by, ended_by, with_copied_frame, with_sent_bytes}

-- the other half's gate reads closed
abbrev pub with_other_shut : Account → Account
with_other_shut a = record a { other_open = false }

-- the gate was written closed, and awaits its sync
pub record ClosesOther (a : Account) (state : DeviceState) : Type 0 where
  pub images : (b : List ℕ) → IsLeft state b → SaysIt a b
  pub bytes : List ℕ
  pub ready : Ready (with_other_shut a) bytes
  pub rests : RestsBut (or_within (other_at a) 1 (λ place. false)) state bytes

-- no work is under way
pub record Rested (a : Account) (state : DeviceState) : Type 0 where
  pub images : (b : List ℕ) → IsLeft state b → Ready a b
  pub bytes : List ℕ
  pub ready : Ready a bytes
  pub rests : RestsBut (λ place. false) state bytes

-- what is under way
pub data UnderWay : Type 0 where
  Rest : UnderWay
  -- a checkpoint closes the other half's gate
  Shut : Copy → UnderWay
  ShutSync : Copy → UnderWay
  -- it is open, and no call is under way
  Pause : Copy → UnderWay
  -- a commit, with or without an open checkpoint
  Frame : Option Copy → Stage → List Asked → UnderWay
  -- the end of a checkpoint
  End : Copy → Stage → UnderWay

abbrev pub Commits : Account → List Asked → Type 0
Commits a asked = IsFrame a.version a.epoch (a.plant.panel.count + 1) asked × AreAdmitted a.plant (asked_actions asked) × TakesAsked a asked

abbrev pub out_of : Option Copy → ℕ
out_of None = 0
out_of (Some k) = k.out

-- the open checkpoint during a commit
abbrev pub Beside : Option Copy → Account → DeviceState → Type 0
Beside None a state = Unit {0}
Beside (Some k) a state = IsCopy a k × WrotePart a (take k.out (run_text a k)) state

-- a checkpoint's gate: its write, or its sync
abbrev pub KeptTurn : Copy → Stage → Account → DeviceState → Type 0
KeptTurn k stage a state = Kept (λ place. false) (Ready a) (Ready (turned_by a k)) stage state (other_at a) (run_text a k)

-- its last sync: of that gate, or in version 03 of the closed one of the half that stood
abbrev pub KeptLast : (summed : Bool) → Copy → Account → DeviceState → Type 0
KeptLast true k a state = ClosesOther (turned_by a k) state
KeptLast false k a state = KeptTurn k GateSync a state

-- the end of a checkpoint
abbrev pub KeptEnd : Copy → Stage → Account → DeviceState → Type 0
KeptEnd k TurnSync a state = (is_summed a.version ≡ true) × KeptTurn k GateSync a state
KeptEnd k Retire a state = (is_summed a.version ≡ true) × Rested (turned_by a k) state
KeptEnd k GateSync a state = KeptLast (is_summed a.version) k a state
KeptEnd k stage a state = KeptTurn k stage a state

abbrev pub KeptIn : UnderWay → Account → DeviceState → Type 0
KeptIn Rest a state = Rested a state
KeptIn (Shut k) a state = (a.other_open ≡ true) × IsCopy (with_other_shut a) k × (k.out ≡ 0) × Rested a state
KeptIn (ShutSync k) a state = IsCopy (with_other_shut a) k × (k.out ≡ 0) × ClosesOther a state
KeptIn (Pause k) a state = IsCopy a k × Paused a k state
KeptIn (Frame other stage asked) a state = Commits a asked × Beside other a state × Kept (is_sent a (out_of other)) (Ready a) (Ready (with_commit a asked)) stage state a.gate (frame_body a.version a.epoch (a.plant.panel.count + 1) asked)
KeptIn (End k stage) a state = KeptEnd k stage a state

-- the one call of a stage, for the gate at a place of a device of a version, and the text after it
abbrev pub StageCall : {E : Type 0} → Version → Stage → (at : ℕ) (text : List ℕ) → Result Unit E → (old new : DeviceState) → Type 0
StageCall version Close at text result old new = Writes at (closed_gate version ∷ []) result old new
StageCall version CloseSync at text result old new = Syncs result old new
StageCall version Body at text result old new = Writes (at + 1) text result old new
StageCall version BodySync at text result old new = Syncs result old new
StageCall version Gate at text result old new = Writes at (165 ∷ []) result old new
StageCall version TurnSync at text result old new = Syncs result old new
StageCall version Retire at text result old new = Writes at (closed_gate version ∷ []) result old new
StageCall version GateSync at text result old new = Syncs result old new
StageCall version stage at text result old new = ⊥

-- the device call that is next; of a pause a piece of n bytes
abbrev pub MakesCall : {E : Type 0} → UnderWay → Account → (n : ℕ) → Result Unit E → (old new : DeviceState) → Type 0
MakesCall Rest a n result old new = ⊥
MakesCall (Shut k) a n result old new = Writes (other_at a) (closed_gate a.layout.version ∷ []) result old new
MakesCall (ShutSync k) a n result old new = Syncs result old new
MakesCall (Pause k) a n result old new = (k.out + n ≤ length (run_text a k)) × Writes (other_at a + 1 + k.out) (take n (drop k.out (run_text a k))) result old new
MakesCall (Frame other stage asked) a n result old new = StageCall a.layout.version stage a.gate (frame_body a.version a.epoch (a.plant.panel.count + 1) asked) result old new
MakesCall (End k Retire) a n result old new = Writes (other_at (turned_by a k)) (closed_gate a.layout.version ∷ []) result old new
MakesCall (End k stage) a n result old new = StageCall a.layout.version stage (other_at a) (run_text a k) result old new

-- what a crash leaves at any moment of it
abbrev pub DuringIn : UnderWay → Account → List ℕ → Type 0
DuringIn Rest a b = Ready a b
DuringIn (Shut k) a b = SaysIt a b
DuringIn (ShutSync k) a b = SaysIt a b
DuringIn (Pause k) a b = Ready a b
DuringIn (Frame other stage asked) a b = During (Ready a) (Ready (with_commit a asked)) stage b
DuringIn (End k stage) a b = During (SaysIt a) (SaysIt (turned_by a k)) stage b

-- after a commit's end
abbrev pub without_pause : Option Copy → List Asked → UnderWay
without_pause None asked = Rest
without_pause (Some k) asked = Pause (with_copied_frame k asked)

-- what is under way after the call was done, and the account
abbrev pub next_work : UnderWay → Account → ℕ → UnderWay
next_work Rest a n = Rest
next_work (Shut k) a n = ShutSync k
next_work (ShutSync k) a n = Pause k
next_work (Pause k) a n = if k.out + n == length (run_text a k) then End k BodySync else Pause (with_sent_bytes k n)
next_work (Frame other GateSync asked) a n = without_pause other asked
next_work (Frame other stage asked) a n = Frame other (next_stage stage) asked
next_work (End k Gate) a n = End k (turn_stage (is_summed a.version))
next_work (End k GateSync) a n = Rest
next_work (End k stage) a n = End k (next_stage stage)

abbrev pub next_account : UnderWay → Account → Account
next_account (ShutSync k) a = with_other_shut a
next_account (Frame other GateSync asked) a = with_commit a asked
next_account (End k GateSync) a = ended_by a k
next_account work a = a

-- what a call makes of the device
pub record WorkAdvances {E : Type 0} (work : UnderWay) (a : Account) (n : ℕ) (result : Result Unit E) (old new : DeviceState) : Type 0 where
  pub any_moment : (b : List ℕ) → IsLeft old b ⊎ IsLeft new b → DuringIn work a b
  pub kept : result ≡ Ok tt → KeptIn (next_work work a n) (next_account work a) new
