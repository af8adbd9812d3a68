-- What a device says of who asked.
use Rattle.std.specs.Prelude.{◌≡◌, ℕ, ◌+◌, false, List, [], ◌∷◌, ◌++◌, length}
use Rattle.alm_model.specs.Plant.{Condensed}
use Rattle.alm_codec.specs.declared.asked.Asked.{Asked}
use Rattle.alm_codec.specs.Frames.{frame_body}
use Rattle.alm_codec.specs.Versions.{is_open}
use Rattle.alm_segment.specs.Texts.{Frame}
use Rattle.alm_checkpoint.specs.Cut.{Cut, Stores, Reaches, front, device_of}
use Rattle.alm_keeper.specs.Formatting.{overwritten}

-- all actions of these frames, in order, each with who asked
abbrev pub asked_in : List Frame → List Asked
asked_in [] = []
asked_in (f ∷ frames) = f.asked ++ asked_in frames

-- a list of these ends so
abbrev pub IsEnd : (end all : List Asked) → Type 0
IsEnd end all = (front : List Asked) × (all ≡ front ++ end)

-- the frames of the half that stands say that these were asked since its image
pub record Says (asked : List Asked) (bytes : List ℕ) : Type 0 where
  pub cut : Cut
  pub plant : Condensed
  pub stores : Stores cut plant
  pub gate : ℕ
  pub closed : is_open cut.version gate ≡ false
  pub tail : List ℕ
  pub reaches : Reaches cut (gate ∷ tail)
  pub text : bytes ≡ device_of cut (gate ∷ tail)
  pub said : asked ≡ asked_in cut.frames

-- such a device after the first write of a commit: its frame stands after the first closed gate
abbrev pub with_body : {asked : List Asked} {bytes : List ℕ} → Says asked bytes → List Asked → List ℕ
with_body {bytes = bytes} s asked = overwritten (length (front s.cut) + 1) (frame_body s.cut.version s.cut.epoch (s.plant.panel.count + 1) asked) bytes

-- .. with this gate
abbrev pub gated : {asked : List Asked} {bytes : List ℕ} → Says asked bytes → ℕ → List ℕ → List ℕ
gated s gate device = overwritten (length (front s.cut)) (gate ∷ []) device
