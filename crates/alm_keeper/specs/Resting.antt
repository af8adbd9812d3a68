-- A device of which some places are loose: they may be pending, and no kept fact depends on their bytes.
use Rattle.std.specs.Prelude.{◌≡◌, ◌⊎◌, ℕ, ◌+◌, ◌||◌, Bool, true, false, List, ◌∷◌, ◌++◌, length}
use Rattle.alm_disk.specs.Device.{DeviceState, IsImage, byte_at, is_within}
use Rattle.alm_keeper.specs.Stages.{May, During}
use Rattle.alm_keeper.specs.declared.stage.Stage.{Stage}
use Rattle.alm_keeper.specs.declared.stage.Stage.TheVariants.{Idle, Body, BodySync, Gate, GateSync, Stopped}

-- these bytes read, at most the loose places are pending, and no call has failed
pub record RestsBut (loose : ℕ → Bool) (state : DeviceState) (bytes : List ℕ) : Type 0 where
  pub reads : state.bytes ≡ bytes
  pub within : (place : ℕ) → loose place ≡ false → state.pending place ≡ false
  pub sound : state.faulted ≡ false

-- n places from a place on are loose as well
abbrev pub or_within : (at n : ℕ) → (ℕ → Bool) → ℕ → Bool
or_within at n loose place = is_within at n place || loose place

-- the same bytes except for the loose places
pub record IsBeside (loose : ℕ → Bool) (bytes other : List ℕ) : Type 0 where
  pub size : length other ≡ length bytes
  pub same : (place : ℕ) → loose place ≡ false → byte_at other place ≡ byte_at bytes place

-- it doesn't depend on the loose places
abbrev pub Blind : (ℕ → Bool) → (List ℕ → Type 0) → Type 0
Blind loose P = (bytes other : List ℕ) → P bytes → IsBeside loose bytes other → P other

-- a write after a gate, on a device that is loose elsewhere
pub record Guarded (loose : ℕ → Bool) (Before After : List ℕ → Type 0) (at : ℕ) (text : List ℕ) : Type 0 where
  -- whether the gate is open at a value: it is at the one that is written
  pub opens : ℕ → Bool
  pub written : opens 165 ≡ true
  pub front : List ℕ
  pub room : List ℕ
  pub back : List ℕ
  pub place : at ≡ length front
  pub fits : length room ≡ length text
  pub closed : (gate : ℕ) → opens gate ≡ false → (left : List ℕ) → length left ≡ length room → Before (front ++ (gate ∷ left) ++ back)
  pub whole : (gate : ℕ) → opens gate ≡ true → After (front ++ (gate ∷ text) ++ back)
  pub blind_before : Blind loose Before
  pub blind_after : Blind loose After

abbrev pub with_gate : {loose : ℕ → Bool} {Before After : List ℕ → Type 0} {at : ℕ} {text : List ℕ} → Guarded loose Before After at text → ℕ → List ℕ → List ℕ
with_gate k gate left = k.front ++ (gate ∷ left) ++ k.back

-- the gate is closed before the fourth call: the device is one of those before, whatever follows it
abbrev pub AtStage : (loose : ℕ → Bool) (Before After : List ℕ → Type 0) → Stage → DeviceState → ℕ → List ℕ → Type 0
AtStage loose Before After Body state at text = (k : Guarded loose Before After at text) × (gate : ℕ) × (k.opens gate ≡ false) × RestsBut loose state (with_gate k gate k.room)
AtStage loose Before After BodySync state at text = (k : Guarded loose Before After at text) × (gate : ℕ) × (k.opens gate ≡ false) × RestsBut (or_within (at + 1) (length text) loose) state (with_gate k gate text)
AtStage loose Before After Gate state at text = (k : Guarded loose Before After at text) × (gate : ℕ) × (k.opens gate ≡ false) × RestsBut loose state (with_gate k gate text)
AtStage loose Before After GateSync state at text = (k : Guarded loose Before After at text) × RestsBut (or_within at 1 loose) state (with_gate k 165 text)
AtStage loose Before After Idle state at text = (b : List ℕ) × After b × RestsBut loose state b
AtStage loose Before After Stopped state at text = Unit {0}
AtStage loose Before After stage state at text = ⊥

pub record Kept (loose : ℕ → Bool) (Before After : List ℕ → Type 0) (stage : Stage) (state : DeviceState) (at : ℕ) (text : List ℕ) : Type 0 where
  pub images : (b : List ℕ) → IsImage state b → May Before After stage b
  pub stands : AtStage loose Before After stage state at text

-- what a call makes of a device: what is kept after it, and what a crash leaves at any moment of it
pub record Passes (loose : ℕ → Bool) (Before After : List ℕ → Type 0) (stage after : Stage) (old new : DeviceState) (at : ℕ) (text : List ℕ) : Type 0 where
  pub kept : Kept loose Before After after new at text
  pub any_moment : (b : List ℕ) → IsImage old b ⊎ IsImage new b → During Before After stage b
