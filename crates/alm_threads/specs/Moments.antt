-- The moments of a run that has ended.
use Rattle.std.specs.Prelude.{◌≤◌, ℕ, List}
use mathlib.Core.List.{IsPrefix}
use Rattle.alm_types.specs.declared.action.Action.{Action}
use Rattle.alm_disk.specs.Device.{DeviceState}
use Rattle.alm_model.specs.Plant.{Condensed}
use Rattle.alm_moments.specs.declared.recorded_moment.RecordedMoment.{RecordedMoment}
use Rattle.alm_moments.specs.Moments.{IsDevice, IsSafeMoment, RecordedCourse, now_of, opening_moment}

-- a run went from one device to another by these moments, each of them safe. At the last, what was accepted is a prefix of these
-- actions, and the floor reaches this number
pub record IsCourse (recovers : List ℕ → Condensed → Type 0) (base : Condensed) (from to : DeviceState) (moments : List RecordedMoment) (accepted : List Action) (reported : ℕ) : Type 0 where
  pub course : RecordedCourse (IsSafeMoment recovers base) (opening_moment base from) moments
  pub device : IsDevice to (now_of base from moments)
  pub within : IsPrefix (now_of base from moments).accepted accepted
  pub reaches : reported ≤ (now_of base from moments).floor

-- a device that does what its trait says went so by the moments of a history
abbrev pub Endures : Type 0 → (List ℕ → Condensed → Type 0) → Condensed → (from to : DeviceState) → (history : List RecordedMoment) → (accepted : List Action) → (reported : ℕ) → Type 0
Endures honest recovers base from to history accepted reported = honest → ∥ IsCourse recovers base from to history accepted reported ∥₁
