-- A device cut into its fields.
use Rattle.std.specs.Prelude.{◌≡◌, ◌⊎◌, ℕ, ◌+◌, ◌<◌, ◌≤◌, ◌^◌, true, false, List, [], ◌∷◌, ◌++◌, length, take, Ok}
use Rattle.alm_model.specs.Plant.{Condensed}
use Rattle.alm_model.specs.Step.{run}
use Rattle.alm_model.specs.Rules.{AreAdmitted}
use Rattle.alm_codec.specs.Image.{IsImageText, IsOf, image_text}
use Rattle.alm_codec.specs.declared.version.Version.{Version}
use Rattle.alm_codec.specs.Versions.{AreBorne, is_open, newer}
use Rattle.alm_segment.specs.Texts.{Frame, frames_text, AreFrames, actions_in}
use Rattle.alm_checkpoint.specs.declared.layout.Layout.{Layout}
use Rattle.alm_checkpoint.specs.declared.half.Half.{Half}
use Rattle.alm_checkpoint.specs.declared.half_head.HalfHead.{HalfHead}
use Rattle.alm_checkpoint.specs.declared.half.Half.TheVariants.{First, Second}
use Rattle.alm_checkpoint.specs.Layouts.{other, head_len, half_len, is_rows, is_areas, is_segment}
use Rattle.alm_checkpoint.specs.Headers.{header_text, half_head_text, image_sum, allows}
use Rattle.alm_checkpoint.specs.Opening.{gate_in, epoch_in, beside_from}
use Rattle.alm_types.specs.Sizes.{most_actions}

-- the limits of a layout
pub record IsLayout (l : Layout) : Type 0 where
  pub rows : is_rows l.rows ≡ true
  pub areas : is_areas l.areas ≡ true
  pub segment : is_segment l.segment ≡ true

-- A device whose half stands, without the bytes of its segment from the first closed gate on.
pub record Cut : Type 0 where
  pub layout : Layout
  -- the half that stands, its version, its epoch, the plant of its image and its frames
  pub half : Half
  pub version : Version
  pub epoch : ℕ
  pub base : Condensed
  pub frames : List Frame
  -- the bytes of the other half, and those after both
  pub other : List ℕ
  pub rest : List ℕ

-- the head of a half that has the image of this plant
abbrev pub head_before : Version → (epoch : ℕ) → Condensed → HalfHead
head_before version epoch base =
    record { epoch = epoch; version = version; count = base.panel.count; sum = image_sum version (image_text base) }

-- a half from its open gate on, up to a place in its segment
abbrev pub half_text : Layout → Half → Version → (epoch : ℕ) → Condensed → List Frame → List ℕ
half_text l h version epoch base frames =
    165 ∷ half_head_text l h (head_before version epoch base) ++ image_text base ++ frames_text version epoch base.panel.count frames

-- what is before the half that stands, and after it
abbrev pub before : Half → List ℕ → List ℕ
before First other = []
before Second other = other

abbrev pub behind : Half → List ℕ → List ℕ → List ℕ
behind First other rest = other ++ rest
behind Second other rest = rest

abbrev pub front : Cut → List ℕ
front c = (165 ∷ header_text c.layout ++ before c.half c.other) ++ half_text c.layout c.half c.version c.epoch c.base c.frames

abbrev pub back : Cut → List ℕ
back c = behind c.half c.other c.rest

-- the device, with these bytes in its segment from the first closed gate on
abbrev pub device_of : Cut → List ℕ → List ℕ
device_of c tail = front c ++ tail ++ back c

-- the bytes of the segment that are left after the frames
abbrev pub Reaches : Cut → List ℕ → Type 0
Reaches c tail = length (frames_text c.version c.epoch c.base.panel.count c.frames) + length tail ≡ c.layout.segment

-- a half does not stand next to one of this epoch, and its head is whole where it has to be
pub record IsBelow (l : Layout) (h : Half) (epoch : ℕ) (half : List ℕ) : Type 0 where
  pub older : (gate_in half ≡ false) ⊎ (epoch_in half < epoch)
  pub whole : beside_from l h (take head_len half) ≡ Ok tt

-- it stores this plant
pub record Stores (c : Cut) (plant : Condensed) : Type 0 where
  pub layout : IsLayout c.layout
  pub version : allows c.layout.version c.version ≡ true
  pub epoch : c.epoch < 2 ^ 64
  pub image : IsImageText c.base (image_text c.base)
  pub sizes : IsOf c.layout.rows c.layout.areas c.base.panel.count c.base
  pub count : c.base.panel.count ≤ most_actions
  pub frames : AreFrames c.version c.epoch c.base.panel.count c.frames
  pub borne : AreBorne c.version (actions_in c.frames)
  pub admitted : AreAdmitted c.base (actions_in c.frames)
  pub runs : run c.base (actions_in c.frames) ≡ plant
  pub size : length c.other ≡ half_len c.layout
  pub below : IsBelow c.layout (other c.half) c.epoch c.other

-- ---- the same device, changed

-- the same frames, with any open gates
abbrev pub OtherGates : Version → (frames others : List Frame) → Type 0
OtherGates version [] [] = Unit {0}
OtherGates version (f ∷ frames) (g ∷ others) = (g.asked ≡ f.asked) × (is_open version g.gate ≡ true) × OtherGates version frames others
OtherGates version _ _ = ⊥

-- other frames
abbrev pub with_frames : Cut → List Frame → Cut
with_frames c frames = record c { frames = frames }

-- one frame more after the others
abbrev pub with_frame : Cut → Frame → Cut
with_frame c frame = record c { frames = c.frames ++ frame ∷ [] }

-- another half next to the one that stands
abbrev pub with_other : Cut → List ℕ → Cut
with_other c bytes = record c { other = bytes }

-- the other half stands, in the next epoch and the version that a checkpoint writes. It has the image of this plant and no
-- frames; these bytes end the half that stood before
abbrev pub turned_cut : Cut → Condensed → List ℕ → Cut
turned_cut c plant tail = record {
  layout = c.layout;
  half = other c.half;
  version = newer c.version;
  epoch = c.epoch + 1;
  base = plant;
  frames = [];
  other = half_text c.layout c.half c.version c.epoch c.base c.frames ++ tail;
  rest = c.rest;
}

-- the bytes of a device are those of a cut that stores a plant, with its first closed gate at a place
pub record IsCut (device : List ℕ) (epoch : ℕ) (plant : Condensed) (place : ℕ) : Type 0 where
  pub cut : Cut
  pub gate : ℕ
  pub tail : List ℕ
  pub is : device ≡ device_of cut (gate ∷ tail)
  pub stores : Stores cut plant
  pub shut : is_open cut.version gate ≡ false
  pub reaches : Reaches cut (gate ∷ tail)
  pub of_epoch : cut.epoch ≡ epoch
  pub gate_is : length (front cut) ≡ place

-- what is before the other half on the device, and after it
abbrev pub side_front : Cut → Half → List ℕ → List ℕ
side_front c First tail = front c ++ tail
side_front c Second tail = 165 ∷ header_text c.layout

abbrev pub side_back : Cut → Half → List ℕ → List ℕ
side_back c First tail = c.rest
side_back c Second tail = half_text c.layout c.half c.version c.epoch c.base c.frames ++ tail ++ c.rest

-- the same, if the other half also has frames after its image
abbrev pub turned_with : Cut → Condensed → List Frame → List ℕ → Cut
turned_with c base frames tail = record (turned_cut c base tail) { frames = frames }
