-- Formatting a device.
use Rattle.std.specs.Prelude.{◌≡◌, ◌⊎◌, ℕ, ◌+◌, ◌≤◌, ◌||◌, true, false, List, [], ◌∷◌, ◌++◌, length, take, drop, Ok}
use Rattle.alm_model.specs.Plant.{Condensed}
use Rattle.alm_codec.specs.declared.version.Version.{Version}
use Rattle.alm_codec.specs.Image.{image_text}
use Rattle.alm_disk.specs.Device.{DeviceState, IsImage, is_within}
use Rattle.alm_disk.specs.Settled.{IsSettled}
use Rattle.alm_codec.specs.Versions.{closed_gate}
use Rattle.alm_checkpoint.specs.declared.layout.Layout.{Layout}
use Rattle.alm_checkpoint.specs.declared.half.Half.TheVariants.{First, Second}
use Rattle.alm_checkpoint.specs.Layouts.{layout_byte, is_header_open, half_at}
use Rattle.alm_checkpoint.specs.Headers.{half_head_text, segment_fits}
use Rattle.alm_checkpoint.specs.Cut.{head_before}
use Rattle.alm_checkpoint.specs.declared.device_fault.DeviceFault.TheVariants.{Unformatted}
use Rattle.alm_checkpoint.specs.Standing.{HasFault, Stands}
use Rattle.alm_checkpoint.specs.Opening.{Opened, opened_in}

-- the bytes are not those of a formatted device
abbrev pub IsUnformatted : List ℕ → Type 0
IsUnformatted b = HasFault b Unformatted

-- the layout has the longest segment that fits twice
pub record IsLongest (size rows areas : ℕ) (l : Layout) : Type 0 where
  pub of_rows : l.rows ≡ rows
  pub of_areas : l.areas ≡ areas
  pub fits : segment_fits size rows areas l.segment ≡ true
  pub most : (n : ℕ) → segment_fits size rows areas n ≡ true → n ≤ l.segment

-- .. for the alarms and areas of a plant
abbrev pub IsLongestFor : (size : ℕ) → Condensed → Layout → Type 0
IsLongestFor size plant l = IsLongest size (length plant.panel.rows) (length plant.floods) l

-- the bytes encode this plant in epoch 1, with the longest segment that fits twice
pub record IsNewDevice (size : ℕ) (plant : Condensed) (bytes : List ℕ) : Type 0 where
  pub stands : Stands bytes 1 plant
  pub longest : IsLongestFor size plant stands.opened.layout

-- the header of the bytes and the half that stands are of a version
pub record IsOfVersion (version : Version) (bytes : List ℕ) : Type 0 where
  pub opened : Opened
  pub opens : opened_in bytes ≡ Ok opened
  pub of_header : opened.layout.version ≡ version
  pub of_half : opened.head.version ≡ version

-- the header's gate reads closed, and no crash opens it
pub record IsShut (state : DeviceState) : Type 0 where
  pub stable : state.pending 0 ≡ false
  pub closed : is_header_open (layout_byte state.bytes 0) ≡ false

-- at any moment of a call a crash leaves a device that isn't formatted
abbrev pub StaysUnformatted : (old new : DeviceState) → Type 0
StaysUnformatted old new = (b : List ℕ) → IsImage old b ⊎ IsImage new b → IsUnformatted b

-- the device before, with the header's gate pending also
abbrev pub gate_pending : DeviceState → DeviceState
gate_pending state = record { bytes = state.bytes; pending = λ place. is_within 0 1 place || state.pending place; faulted = state.faulted }

-- a crash leaves what it could leave before, except for the byte of the header's gate
abbrev pub LeavesBefore : (old new : DeviceState) → Type 0
LeavesBefore old new = (b : List ℕ) → IsImage new b → IsImage (gate_pending old) b

-- these bytes in place of those from a place on
abbrev pub overwritten : ℕ → List ℕ → List ℕ → List ℕ
overwritten at bytes device = take at device ++ bytes ++ drop (at + length bytes) device

-- the device with all that is written after the header's gate: the header, half 0 up to its segment's first gate, half 1's gate,
-- and half 0's gate, open
abbrev pub with_empty_half : Layout → (header half : List ℕ) → List ℕ → List ℕ
with_empty_half l header half device = overwritten 23 (165 ∷ []) (overwritten (half_at l Second) (closed_gate l.version ∷ []) (overwritten 23 half (overwritten 1 header device)))

-- the header's gate is open too
abbrev pub with_open_gate : List ℕ → List ℕ
with_open_gate device = overwritten 0 (165 ∷ []) device

-- the device is settled, with the header's gate closed
abbrev pub IsGateClosed : DeviceState → Type 0
IsGateClosed state = IsSettled state state.bytes × (is_header_open (layout_byte state.bytes 0) ≡ false)

-- these bytes are those of the device with the header's gate open
abbrev pub IsWithGateOpen : DeviceState → List ℕ → Type 0
IsWithGateOpen state b = b ≡ with_open_gate state.bytes

-- half 0 from its closed gate on, up to its segment's first gate, also closed
abbrev pub first_half : Layout → Condensed → List ℕ
first_half l plant = closed_gate l.version ∷ (half_head_text l First (head_before l.version 1 plant) ++ image_text plant ++ closed_gate l.version ∷ [])

-- all of it is written on some device of a size
pub record IsWritten (size : ℕ) (l : Layout) (header half bytes : List ℕ) : Type 0 where
  pub before : List ℕ
  pub long : length before ≡ size
  pub is : bytes ≡ with_open_gate (with_empty_half l header half before)

-- it is not formatted, or all is written
abbrev pub MayBe : (size : ℕ) → Layout → (header half : List ℕ) → List ℕ → Type 0
MayBe size l header half b = IsUnformatted b ⊎ IsWritten size l header half b

-- what a crash leaves of a device whose formatting failed. Either it is what it could leave before, except for the header's gate
-- (the first sync failed), or an unformatted device or one that is all written
abbrev pub Leaves : (size : ℕ) → Layout → (header half : List ℕ) → (old new : DeviceState) → Type 0
Leaves size l header half old new = LeavesBefore old new ⊎ ((b : List ℕ) → IsImage new b → MayBe size l header half b)

-- the same, of a plant
abbrev pub LeavesOf : (size : ℕ) → Condensed → (old new : DeviceState) → Type 0
LeavesOf size plant old new = LeavesBefore old new ⊎ ((b : List ℕ) → IsImage new b → IsUnformatted b ⊎ IsNewDevice size plant b)
