-- The device calls of a formatting in their order, and what a crash leaves at any moment of each.
use Rattle.std.specs.Prelude.{Ok, Err}
use Rattle.std.specs.Prelude.{◌≡◌, ◌⊎◌, ℕ, ◌+◌, List, [], ◌∷◌, ◌++◌, Result}
use Rattle.alm_model.specs.Plant.{Condensed}
use Rattle.alm_disk.specs.Device.{DeviceState, IsImage}
use Rattle.alm_disk.specs.declared.call.Call.{Call}
use Rattle.alm_disk.specs.declared.call.Call.TheVariants.{Write, Sync}
use Rattle.alm_disk.specs.declared.disk_fault.DiskFault.{DiskFault}
use Rattle.alm_checkpoint.specs.declared.layout.Layout.{Layout}
use Rattle.alm_checkpoint.specs.declared.half.Half.TheVariants.{Second}
use Rattle.alm_checkpoint.specs.Layouts.{half_at, image_size}
use Rattle.alm_keeper.specs.Formatting.{IsUnformatted, IsLongestFor, IsNewDevice}

-- the header's gate is closed; all else is written after it; the header's gate is opened
pub data FormatPart : Type 0 where
  Closing : FormatPart
  Behind : FormatPart
  Opening : FormatPart

abbrev pub close_calls : List (FormatPart × Call)
close_calls = (Closing, Write 0 1) ∷ (Closing, Sync) ∷ []

abbrev pub behind_calls : Layout → List (FormatPart × Call)
behind_calls l =
    (Behind, Write 1 22) ∷ (Behind, Write 23 (26 + image_size l)) ∷ (Behind, Write (half_at l Second) 1) ∷ (Behind, Sync) ∷ (Behind, Write 23 1) ∷ (Behind, Sync) ∷ []

abbrev pub open_calls : List (FormatPart × Call)
open_calls = (Opening, Write 0 1) ∷ (Opening, Sync) ∷ []

-- the ten calls
abbrev pub format_calls : Layout → List (FormatPart × Call)
format_calls l = close_calls ++ (behind_calls l ++ open_calls)

-- what a crash may leave: anything until the header's gate is known to be closed, then an unformatted device. From the write that
-- opens the gate on it is an unformatted or a new one
abbrev pub MayLeaveWhile : (new : List ℕ → Type 0) → FormatPart → List ℕ → Type 0
MayLeaveWhile new Closing b = Unit {0}
MayLeaveWhile new Behind b = IsUnformatted b
MayLeaveWhile new Opening b = IsUnformatted b ⊎ new b

-- one call, between two devices, and its result; under the premise, what a crash leaves at any moment of it
pub record FormatMoment {Dev : Type 0} (serves : Dev → Call → Result Unit DiskFault → Dev → Type 0) (state : Dev → DeviceState) (premise : Type 0) (new : List ℕ → Type 0) (result : Result Unit DiskFault) (step : FormatPart × Call) (before after : Dev) : Type 0 where
  pub served : serves before step.1 result after
  pub any_moment : premise → (b : List ℕ) → IsImage (state before) b ⊎ IsImage (state after) b → MayLeaveWhile new step.0 b

-- from one device to another by these calls, in this order; each was done
abbrev pub IsLedBy : {Dev : Type 0} → (Result Unit DiskFault → FormatPart × Call → Dev → Dev → Type 0) → Dev → List (FormatPart × Call) → Dev → Type 0
IsLedBy step first [] last = first ≡ last
IsLedBy step first (c ∷ calls) last = (d : _) × step (Ok tt) c first d × IsLedBy step d calls last

-- some of them were done, and the next one failed
pub record FailsIn {Dev : Type 0} (step : Result Unit DiskFault → FormatPart × Call → Dev → Dev → Type 0) (first : Dev) (all : List (FormatPart × Call)) (last : Dev) : Type 0 where
  pub made : List (FormatPart × Call)
  pub call : FormatPart × Call
  pub left : List (FormatPart × Call)
  pub are : made ++ call ∷ left ≡ all
  pub middle : Dev
  pub goes : IsLedBy step first made middle
  pub fault : DiskFault
  pub fails : step (Err fault) call middle last

-- no bytes
abbrev pub Never : List ℕ → Type 0
Never b = ⊥

-- a formatting of a device of a size for a plant: its ten calls, all done (`Goes`) or up to one that failed (`FailsIn`)
pub record Formats {Dev : Type 0} (course : (Result Unit DiskFault → FormatPart × Call → Dev → Dev → Type 0) → Dev → List (FormatPart × Call) → Dev → Type 0) (serves : Dev → Call → Result Unit DiskFault → Dev → Type 0) (state : Dev → DeviceState) (premise : Type 0) (size : ℕ) (plant : Condensed) (first last : Dev) : Type 0 where
  pub layout : Layout
  pub longest : IsLongestFor size plant layout
  pub calls : course (FormatMoment serves state premise (IsNewDevice size plant)) first (format_calls layout) last
