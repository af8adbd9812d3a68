-- What a keeper knows of its device.
use Rattle.std.specs.Prelude.{◌≡◌, ℕ, ◌+◌, ◌≤◌, ◌&&◌, Bool, false, not, List, ◌∷◌, ◌++◌, length}
use Rattle.alm_types.specs.declared.action.Action.{Action}
use Rattle.alm_codec.specs.declared.asked.Asked.{Asked}
use Rattle.alm_model.specs.Plant.{Condensed}
use Rattle.alm_model.specs.Step.{run}
use Rattle.alm_codec.specs.declared.version.Version.{Version}
use Rattle.alm_codec.specs.Frames.{asked_actions}
use Rattle.alm_codec.specs.Versions.{AreBorne, is_open, newer}
use Rattle.alm_segment.specs.Course.{frame_len}
use Rattle.alm_checkpoint.specs.declared.layout.Layout.{Layout}
use Rattle.alm_checkpoint.specs.declared.half.Half.{Half}
use Rattle.alm_checkpoint.specs.Layouts.{layout_byte, is_half_open, half_at, half_len, other}
use Rattle.alm_checkpoint.specs.Headers.{is_summed}
use Rattle.alm_checkpoint.specs.Cut.{Cut, Stores, Reaches, front, device_of}
use Rattle.alm_keeper.specs.Trail.{asked_in}

-- the device holds this plant in this epoch, before a closed gate
pub record HoldsPlant (epoch : ℕ) (plant : Condensed) (bytes : List ℕ) : Type 0 where
  pub cut : Cut
  pub in_epoch : cut.epoch ≡ epoch
  pub stores : Stores cut plant
  pub gate : ℕ
  pub closed : is_open cut.version gate ≡ false
  pub tail : List ℕ
  pub reaches : Reaches cut (gate ∷ tail)
  pub text : bytes ≡ device_of cut (gate ∷ tail)

-- what a keeper knows
pub record Account : Type 0 where
  pub layout : Layout
  -- the half that stands
  pub half : Half
  -- the other half's gate reads open
  pub other_open : Bool
  -- the version of the half that stands
  pub version : Version
  pub epoch : ℕ
  -- the place of the first closed gate of the half that stands
  pub gate : ℕ
  pub plant : Condensed
  -- the actions that the half that stands says since its image, each with who asked
  pub trail : List Asked

-- what a keeper knows of a device that is cut so
abbrev pub account_of : Cut → Condensed → Account
account_of c plant = record { layout = c.layout; half = c.half; other_open = is_half_open (layout_byte c.other 0); version = c.version; epoch = c.epoch; gate = length (front c); plant = plant; trail = asked_in c.frames }

-- its plant is stored in its epoch
abbrev pub HoldsIt : Account → List ℕ → Type 0
HoldsIt a bytes = HoldsPlant a.epoch a.plant bytes

-- .. and its frames say its trail
abbrev pub SaysIt : Account → List ℕ → Type 0
SaysIt a bytes = (holds : HoldsIt a bytes) × (a.trail ≡ asked_in holds.cut.frames)

-- the same account, with this trail
abbrev pub saying : List Asked → Account → Account
saying trail a = record a { trail = trail }

-- the device is as the account says
pub record Ready (a : Account) (bytes : List ℕ) : Type 0 where
  pub cut : Cut
  pub is : a ≡ account_of cut a.plant
  pub stores : Stores cut a.plant
  pub gate : ℕ
  pub closed : is_open cut.version gate ≡ false
  pub tail : List ℕ
  pub reaches : Reaches cut (gate ∷ tail)
  pub text : bytes ≡ device_of cut (gate ∷ tail)

-- the start of the other half
abbrev pub other_at : Account → ℕ
other_at a = half_at a.layout (other a.half)

-- the end of the half that stands
abbrev pub end_of_half : Account → ℕ
end_of_half a = half_at a.layout a.half + half_len a.layout

-- a frame of n actions and the next gate fit
abbrev pub FitsFrame : Account → ℕ → Type 0
FitsFrame a n = a.gate + frame_len n + 1 ≤ end_of_half a

-- in version 03 a half takes no frame while the other half's gate is open
abbrev pub IsAlone : Version → (other_open : Bool) → Type 0
IsAlone version other_open = (is_summed version && other_open) ≡ false

-- a frame of these actions fits, and the half may hold them
abbrev pub TakesFrame : Account → List Action → Type 0
TakesFrame a actions = FitsFrame a (length actions) × AreBorne a.version actions × IsAlone a.version a.other_open

abbrev pub TakesAsked : Account → List Asked → Type 0
TakesAsked a asked = FitsFrame a (length asked) × AreBorne a.version (asked_actions asked)

-- after a checkpoint the half that stood has an open gate, but in version 03 a closed one
abbrev pub left_open : Version → Bool
left_open version = not (is_summed version)

-- after a commit, after a checkpoint
abbrev pub with_commit : Account → List Asked → Account
with_commit a asked = record a { gate = a.gate + frame_len (length asked); plant = run a.plant (asked_actions asked); trail = a.trail ++ asked }

-- .. whose run has this length
abbrev pub turned_half : Account → (run : ℕ) → Account
turned_half a run = record a { half = other a.half; other_open = left_open a.version; version = newer a.version; epoch = a.epoch + 1; gate = other_at a + run }
