-- The moments of a run, and what a crash leaves at each.
use Rattle.std.specs.Prelude.{◌≡◌, ◌⊎◌, ◌≤◌, ◌+◌, ℕ, zero, suc, Bool, false, List, [], ◌∷◌, ◌++◌, length, get_or}
use mathlib.Core.List.{IsPrefix}
use Rattle.alm_types.specs.declared.action.Action.{Action}
use Rattle.alm_disk.specs.Device.{DeviceState, IsImage}
use Rattle.alm_model.specs.Plant.{Condensed}
use Rattle.alm_model.specs.Step.{run}
use Rattle.alm_store.specs.Calls.{IsCall}
use Rattle.alm_store.specs.Recovery.{IsSafe}
use Rattle.alm_moments.specs.declared.recorded_moment.RecordedMoment.{RecordedMoment}

-- the first n values of a function
abbrev pub first_values : ℕ → (ℕ → Bool) → List Bool
first_values zero f = []
first_values (suc n) f = f 0 ∷ first_values n (λ k. f (suc k))

-- this device, with these accepted actions and this floor
abbrev pub moment_of : DeviceState → List Action → ℕ → RecordedMoment
moment_of d accepted floor = record { bytes = d.bytes; pending = first_values (length d.bytes) d.pending; faulted = d.faulted; accepted = accepted; floor = floor }

-- the device at a moment
abbrev pub device_at : RecordedMoment → DeviceState
device_at m = record { bytes = m.bytes; pending = λ place. get_or m.pending place false; faulted = m.faulted }

-- a device is this one at the moment
abbrev pub IsDevice : DeviceState → RecordedMoment → Type 0
IsDevice d m = (m.bytes ≡ d.bytes) × (m.pending ≡ first_values (length d.bytes) d.pending) × (m.faulted ≡ d.faulted)

-- one call of the device was made
abbrev pub IsCalled : RecordedMoment → RecordedMoment → Type 0
IsCalled m n = (d e : DeviceState) × IsDevice d m × IsDevice e n × IsCall d e

-- the next moment: one call of the device was made; or none, and actions may have been accepted, or the floor raised
abbrev pub IsNextMoment : RecordedMoment → RecordedMoment → Type 0
IsNextMoment m n = (IsCalled m n × (n.accepted ≡ m.accepted) × (n.floor ≡ m.floor))
    ⊎ ((n.bytes ≡ m.bytes) × (n.pending ≡ m.pending) × (n.faulted ≡ m.faulted) × IsPrefix m.accepted n.accepted × (m.floor ≤ n.floor))

-- these moments follow one another after the first, each of them safe
abbrev pub FollowOn : (RecordedMoment → Type 0) → RecordedMoment → List RecordedMoment → Type 0
FollowOn safe m [] = Unit {0}
FollowOn safe m (n ∷ moments) = IsNextMoment m n × safe n × FollowOn safe n moments

-- the last of them, or the first if none follows
abbrev pub last_of : RecordedMoment → List RecordedMoment → RecordedMoment
last_of m [] = m
last_of m (n ∷ moments) = last_of n moments

-- before any action was accepted
abbrev pub opening_moment : Condensed → DeviceState → RecordedMoment
opening_moment base device = moment_of device [] base.panel.count

-- each image that a crash may leave at this moment encodes the plant that a prefix of the accepted actions makes. The prefix reaches the floor
abbrev pub IsSafeMoment : (List ℕ → Condensed → Type 0) → Condensed → RecordedMoment → Type 0
IsSafeMoment recovers base m = (image : List ℕ) → IsImage (device_at m) image → IsSafe recovers base m.accepted m.floor image

-- from this moment on, each of them safe
pub record RecordedCourse (safe : RecordedMoment → Type 0) (first : RecordedMoment) (moments : List RecordedMoment) : Type 0 where
  pub opened : safe first
  pub leads : FollowOn safe first moments

-- the moments of a run since its opening, if its device keeps to its model
abbrev pub AreMoments : Type 0 → (List ℕ → Condensed → Type 0) → Condensed → DeviceState → List RecordedMoment → Type 0
AreMoments honest recovers base first moments = honest → ∥ RecordedCourse (IsSafeMoment recovers base) (opening_moment base first) moments ∥₁

-- the last moment
abbrev pub now_of : Condensed → DeviceState → List RecordedMoment → RecordedMoment
now_of base first moments = last_of (opening_moment base first) moments

-- these are on the device from the last of these moments on: its floor reaches them, and they are the first that were accepted by then
abbrev pub AreHeld : Condensed → DeviceState → List RecordedMoment → List Action → Type 0
AreHeld base first moments list = (base.panel.count + length list ≤ (now_of base first moments).floor) × ∥ IsPrefix list (now_of base first moments).accepted ∥₁

-- the power fails at any moment after those that were seen. Each image that the crash may leave encodes a plant, and only such that
-- these actions make, with others after them that were accepted by then
abbrev pub StaysStored : Type 0 → (List ℕ → Condensed → Type 0) → Condensed → DeviceState → (seen : List RecordedMoment) → List Action → Type 0
StaysStored honest recovers base first seen list =
    (moments : List RecordedMoment) → IsPrefix seen moments → AreMoments honest recovers base first moments → honest
    → (image : List ℕ) → IsImage (device_at (now_of base first moments)) image
    → ∥ ((plant : Condensed) × recovers image plant) ∥₁ × ((plant : Condensed) → recovers image plant
    → ∥ ((more : List Action) × (plant ≡ run base (list ++ more)) × IsPrefix (list ++ more) (now_of base first moments).accepted) ∥₁)
