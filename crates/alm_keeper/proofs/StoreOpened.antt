-- Why a keeper wasn't opened.
use Rattle.std.proofs.Common.{ℕ, List, Result, Ok, Err, IfErr}
use Rattle.alm_disk.specs.Device.{DeviceState, IsImage}
use Rattle.alm_checkpoint.specs.Standing.{HasFault}
use Rattle.alm_checkpoint.specs.declared.device_fault.DeviceFault.{DeviceFault}
use Rattle.alm_checkpoint.specs.declared.device_fault.DeviceFault.TheVariants as found
use Rattle.alm_checkpoint.proofs.Unique.{stands_or_fault}
use Rattle.alm_store.specs.declared.open_fault.OpenFault.{OpenFault}
use Rattle.alm_store.specs.declared.open_fault.OpenFault.TheVariants as fault
use Rattle.alm_keeper.specs.Opening.{OpensAs, CountsAs}
use Rattle.alm_keeper.specs.AsStore.{StandsFor}
use Rattle.alm_store.specs.Opening.{IsFaulty, HasCause}

faulty : (state : DeviceState) (bytes : List ℕ) (f : DeviceFault) → IsImage state bytes → HasFault bytes f → ∥ IsFaulty StandsFor state ∥₁
faulty state bytes f image has = ∣ record { image = bytes; is_image = image; faulty = λ plant s. stands_or_fault bytes s.0 plant f s.1 has } ∣₁

pub cause_of : (state : DeviceState) (bytes : List ℕ) (f : OpenFault) (before now : ℕ) → IsImage state bytes → OpensAs bytes (Err f) → CountsAs f before now → HasCause StandsFor state f before now
cause_of state bytes fault.Unformatted before now image opens counts = faulty state bytes found.Unformatted image opens
cause_of state bytes (fault.Damaged half at) before now image opens counts = faulty state bytes (found.Damaged half at) image opens
cause_of state bytes fault.Disk before now image opens counts = counts
cause_of state bytes fault.OutOfMemory before now image opens counts = tt

-- a fact of an error makes another
pub if_err : {A : Type 0} {E : Type 0} {P Q : E → Type 0} (result : Result A E) → IfErr result P → ((e : E) → P e → Q e) → IfErr result Q
if_err (Ok x) p f = tt
if_err (Err e) p f = f e p
