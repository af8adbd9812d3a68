-- A device of which every image is known.
use Rattle.std.specs.Prelude.{◌≡◌, ℕ, false, List}
use Rattle.alm_disk.specs.Device.{DeviceState, is_within}

-- these bytes read, no place is pending and no call has failed
pub record IsSettled (state : DeviceState) (bytes : List ℕ) : Type 0 where
  pub reads : state.bytes ≡ bytes
  pub nothing_pending : (place : ℕ) → state.pending place ≡ false
  pub sound : state.faulted ≡ false

-- these bytes read, at most the n places from at are pending, and no call has failed
pub record AwaitsSync (at n : ℕ) (state : DeviceState) (bytes : List ℕ) : Type 0 where
  pub reads : state.bytes ≡ bytes
  pub within : (place : ℕ) → is_within at n place ≡ false → state.pending place ≡ false
  pub sound : state.faulted ≡ false
