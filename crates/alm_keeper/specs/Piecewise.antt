-- A checkpoint that goes out in pieces between commits.
use Rattle.std.specs.Prelude.{◌≡◌, ℕ, ◌+◌, ◌^◌, ◌<◌, ◌≤◌, Bool, true, false, List, [], ◌∷◌, ◌++◌, length, take}
use Rattle.alm_codec.specs.declared.asked.Asked.{Asked}
use Rattle.alm_model.specs.Plant.{Condensed}
use Rattle.alm_model.specs.Step.{run}
use Rattle.alm_model.specs.Rules.{AreAdmitted}
use Rattle.alm_codec.specs.Versions.{closed_gate, newer}
use Rattle.alm_codec.specs.Image.{IsImageText, IsOf, image_text}
use Rattle.alm_disk.specs.Device.{DeviceState, is_within}
use Rattle.alm_disk.specs.Device.{IsImage as IsLeft}
use Rattle.alm_segment.specs.Texts.{Frame, written, frames_text, AreFrames, actions_in}
use Rattle.alm_checkpoint.specs.Layouts.{part, segment_at, other}
use Rattle.alm_checkpoint.specs.Cut.{head_before}
use Rattle.alm_checkpoint.specs.Headers.{half_head_text}
use Rattle.alm_keeper.specs.Stand.{Ready, Account, left_open, other_at}
use Rattle.alm_keeper.specs.Resting.{RestsBut}
use Rattle.alm_keeper.specs.Trail.{asked_in}
use Rattle.alm_types.specs.Sizes.{most_actions}

-- an open checkpoint: the plant that was copied, the frames committed since, and how many bytes of the run went out
pub record Copy : Type 0 where
  pub base : Condensed
  pub since : List Frame
  pub out : ℕ

-- the copy of what is stored, as the checkpoint is begun
abbrev pub new_copy : Account → Copy
new_copy a = record { base = a.plant; since = []; out = 0 }

-- the frames since, with the new epoch and open gates
abbrev pub since_text : Account → Copy → List ℕ
since_text a k = frames_text (newer a.version) (a.epoch + 1) k.base.panel.count k.since

-- what precedes the run's last byte, its closed gate: the head from its offset 1, the image, the frames since
abbrev pub open_text : Account → Copy → List ℕ
open_text a k = half_head_text a.layout (other a.half) (head_before (newer a.version) (a.epoch + 1) k.base) ++ image_text k.base ++ since_text a k

-- the run
abbrev pub run_text : Account → Copy → List ℕ
run_text a k = open_text a k ++ closed_gate (newer a.version) ∷ []

-- the copy is of this account: its frames make the stored plant of the copied one
pub record IsCopy (a : Account) (k : Copy) : Type 0 where
  pub more : a.epoch + 1 < 2 ^ 64
  pub image : IsImageText k.base (image_text k.base)
  pub sizes : IsOf a.layout.rows a.layout.areas k.base.panel.count k.base
  pub count : k.base.panel.count ≤ most_actions
  pub frames : AreFrames (newer a.version) (a.epoch + 1) k.base.panel.count k.since
  pub admitted : AreAdmitted k.base (actions_in k.since)
  pub runs : run k.base (actions_in k.since) ≡ a.plant
  -- the frames since are among the frames of the half that stands: so they fit the other one
  pub room : segment_at a.layout a.half + length (since_text a k) ≤ a.gate
  pub shut : a.other_open ≡ false
  -- the closed gate hasn't gone out
  pub left : k.out ≤ length (open_text a k)

-- the places that went out: they may be pending, and no kept fact depends on them
abbrev pub is_sent : Account → ℕ → ℕ → Bool
is_sent a out = is_within (other_at a + 1) out

-- the other half reads so after its gate
abbrev pub WrotePart : Account → List ℕ → DeviceState → Type 0
WrotePart a text state = part (other_at a + 1) (length text) state.bytes ≡ text

-- a paused checkpoint: no call is under way
pub record Paused (a : Account) (k : Copy) (state : DeviceState) : Type 0 where
  pub images : (b : List ℕ) → IsLeft state b → Ready a b
  pub bytes : List ℕ
  pub ready : Ready a bytes
  pub rests : RestsBut (is_sent a k.out) state bytes
  pub wrote : WrotePart a (take k.out (run_text a k)) state

-- the device after the checkpoint's gate was opened
abbrev pub turned_by : Account → Copy → Account
turned_by a k = record a { half = other a.half; other_open = true; version = newer a.version; epoch = a.epoch + 1; gate = other_at a + 1 + length (open_text a k); trail = asked_in k.since }

-- .. and after its end
abbrev pub ended_by : Account → Copy → Account
ended_by a k = record (turned_by a k) { other_open = left_open a.version }

-- one frame more
abbrev pub with_copied_frame : Copy → List Asked → Copy
with_copied_frame k asked = record k { since = k.since ++ written asked ∷ [] }

-- n bytes more went out
abbrev pub with_sent_bytes : Copy → ℕ → Copy
with_sent_bytes k n = record k { out = k.out + n }
