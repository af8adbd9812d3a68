-- A device: what a read returns, what a crash may leave, and what each call does to both.
use Rattle.std.specs.Prelude.{◌≡◌, ◌<◌, ◌+◌, ℕ, Bool, true, false, ◌||◌, ◌&&◌, nat_lt, nat_le, List, ◌++◌, length, get_or, take, drop, Result, OnOk, OnErr}

pub record DeviceState : Type 0 where
  -- the bytes as they read
  pub bytes : List ℕ
  -- the places that a write has touched since the last successful sync
  pub pending : ℕ → Bool
  -- a write or a sync has failed since the last successful sync
  pub faulted : Bool

-- the byte at a place
abbrev pub byte_at : List ℕ → ℕ → ℕ
byte_at bytes place = get_or bytes place 0

-- each is a byte
abbrev pub AreBytes : List ℕ → Type 0
AreBytes bytes = (place : ℕ) → byte_at bytes place < 256

-- the place is one of the n places from at
abbrev pub is_within : ℕ → ℕ → ℕ → Bool
is_within at n place = nat_le at place && nat_lt place (at + n)

-- a crash may leave these bytes: of the same length, and outside the pending places those that read
pub record IsImage (state : DeviceState) (image : List ℕ) : Type 0 where
  pub size : length image ≡ length state.bytes
  pub bytes : AreBytes image
  pub stable : (place : ℕ) → state.pending place ≡ false → byte_at image place ≡ byte_at state.bytes place

-- it reads as before, the same places are pending, and the same has failed
pub record IsSame (old new : DeviceState) : Type 0 where
  pub bytes : new.bytes ≡ old.bytes
  pub pending : (place : ℕ) → new.pending place ≡ old.pending place
  pub faulted : new.faulted ≡ old.faulted

-- a read from a place, into a buffer that then holds these bytes
abbrev pub Reads : {E : Type 0} → (at : ℕ) → (into : List ℕ) → Result Unit E → DeviceState → Type 0
Reads at into result state = OnOk result (into ≡ take (length into) (drop at state.bytes))

-- a write of these bytes at a place
pub record Writes {E : Type 0} (at : ℕ) (bytes : List ℕ) (result : Result Unit E) (old new : DeviceState) : Type 0 where
  pub written : OnOk result (new.bytes ≡ take at old.bytes ++ bytes ++ drop (at + length bytes) old.bytes)
  pub size : length new.bytes ≡ length old.bytes
  pub outside : (place : ℕ) → is_within at (length bytes) place ≡ false → byte_at new.bytes place ≡ byte_at old.bytes place
  pub pending : (place : ℕ) → new.pending place ≡ (is_within at (length bytes) place || old.pending place)
  pub done : OnOk result (new.faulted ≡ old.faulted)
  pub failed : OnErr result (new.faulted ≡ true)

-- a sync
pub record Syncs {E : Type 0} (result : Result Unit E) (old new : DeviceState) : Type 0 where
  pub nothing_pending : OnOk result ((place : ℕ) → new.pending place ≡ false)
  pub read_stays : OnOk result (old.faulted ≡ false → new.bytes ≡ old.bytes)
  pub one_image : OnOk result (IsImage old new.bytes)
  pub done : OnOk result (new.faulted ≡ false)
  pub no_new_image : OnErr result ((image : List ℕ) → IsImage new image → IsImage old image)
  pub failed : OnErr result (new.faulted ≡ true)

-- a crash, if `names place read byte` says that this byte may be named for this pending place
pub record Crashes (names : ℕ → ℕ → ℕ → Type 0) (old new : DeviceState) : Type 0 where
  pub image : IsImage old new.bytes
  pub named : (place : ℕ) → place < length old.bytes → old.pending place ≡ true
      → names place (byte_at old.bytes place) (byte_at new.bytes place)
  pub nothing_pending : (place : ℕ) → new.pending place ≡ false
  pub sound : new.faulted ≡ false
