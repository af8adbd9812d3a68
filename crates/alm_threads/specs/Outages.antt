-- Runs one after the other, each opened on what a crash left of the one before.
use Rattle.std.specs.Prelude.{◌≡◌, ℕ, List, [], ◌∷◌, ◌++◌}
use mathlib.Core.List.{IsPrefix}
use Rattle.alm_types.specs.declared.action.Action.{Action}
use Rattle.alm_disk.specs.Device.{DeviceState, IsImage}
use Rattle.alm_model.specs.Plant.{Condensed}
use Rattle.alm_model.specs.Step.{run}
use Rattle.alm_moments.specs.declared.recorded_moment.RecordedMoment.{RecordedMoment}
use Rattle.alm_moments.specs.Moments.{AreHeld, IsSafeMoment, RecordedCourse, device_at, now_of, opening_moment}

-- by its outage a run had accepted some actions, and reported some of them
pub record ByOutage : Type 0 where
  pub accepted : List Action
  pub told : List Action

-- a run began with this plant, and the power failed at the last of these moments, each of them safe. A receipt or a look had what was
-- reported, with some of the moments. The crash leaves an image that encodes the next plant
pub record Outage (recovers : List ℕ → Condensed → Type 0) (base : Condensed) (by_then : ByOutage) (next : Condensed) : Type 0 where
  pub first : DeviceState
  pub moments : List RecordedMoment
  pub course : RecordedCourse (IsSafeMoment recovers base) (opening_moment base first) moments
  pub accepted_is : by_then.accepted ≡ (now_of base first moments).accepted
  pub seen : List RecordedMoment
  pub before : IsPrefix seen moments
  pub held : AreHeld base first seen by_then.told
  pub image : List ℕ
  pub left : IsImage (device_at (now_of base first moments)) image
  pub stands : recovers image next

-- any number of runs, each from the plant that the outage before it left
abbrev pub Outages : (List ℕ → Condensed → Type 0) → Condensed → List ByOutage → Condensed → Type 0
Outages recovers base [] last = last ≡ base
Outages recovers base (one ∷ more) last = (next : Condensed) × Outage recovers base one next × Outages recovers next more last

-- run after run what it had reported was done, and then others of what it had accepted
abbrev pub KeepsReported : Condensed → List ByOutage → Condensed → Type 0
KeepsReported base [] last = last ≡ base
KeepsReported base (one ∷ more) last = (others : List Action) × IsPrefix (one.told ++ others) one.accepted × KeepsReported (run base (one.told ++ others)) more last
