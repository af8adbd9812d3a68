-- The headline: after a crash at any moment the device encodes the plant that a prefix of the accepted actions makes. The prefix
-- contains all that was reported or shown. Also the runs of a world with its device, at each point of which it holds.
use Rattle.std.specs.Prelude.{◌≡◌, ◌≢◌, ◌⊎◌, ◌<◌, ◌-◌, ℕ, false, List, [], ◌∷◌, length, take}
use Rattle.alm_disk.specs.Device.{DeviceState, IsImage, Crashes}
use Rattle.alm_disk.specs.Failures.{HasFailed}
use Rattle.alm_types.specs.Counts.{one_more}
use Rattle.alm_model.specs.Plant.{Condensed}
use Rattle.alm_model.specs.Step.{run}
use Rattle.alm_model.specs.Judging.{accepted_of}
use Rattle.alm_store.specs.Calls.{IsCall}
use Rattle.alm_store.specs.declared.phase.Phase.{Phase}
use Rattle.alm_store.specs.declared.phase.Phase.TheVariants.{Idle, Committing, Stopped}
use Rattle.alm_store.specs.Advancing.{IsCalls, IsCheckpointing}
use Rattle.alm_store.specs.Opening.{HasCause}
use Rattle.alm_store.specs.Recovery.{IsSafe}
use Rattle.alm_pipeline.specs.Named.{names_byte}
use Rattle.alm_pipeline.specs.World.{World, Answers, Possible, after_step, entries_at, IsHeld}
use Rattle.alm_pipeline.specs.declared.step.Step.{Step}
use Rattle.alm_pipeline.specs.declared.step.Step.TheVariants.{Call, Look, Crash, Reopen}
use Rattle.alm_pipeline.specs.declared.step_event.StepEvent.{StepEvent}
use Rattle.alm_pipeline.specs.declared.step_event.StepEvent.TheVariants.{More, Committed, Failed, Crashed, Opened, Unopened, Skipped}

-- ---- runs

-- what contracts see of a device: its state, how often a call of it has failed, and the phase of the store over it.
-- Also how many growths were refused that looks at lists need
pub record Sight : Type 0 where
  pub state : DeviceState
  pub failures : ℕ
  pub phase : Phase
  pub refused : ℕ

-- a device alone: no store is open over it
abbrev pub device_alone : DeviceState → (failures refused : ℕ) → Sight
device_alone state' failures' refused' = record { state = state'; failures = failures'; phase = Stopped; refused = refused' }

-- a device call is possible: a batch waits for its commit, or a checkpoint is open
abbrev pub MayCall : World → Sight → Type 0
MayCall w d = (w.closed ≡ false) × (IsHeld w.stage ⊎ IsCheckpointing d.phase)

-- which bytes encode which plant, and which device is at the last epoch
module _ (recovers : List ℕ → Condensed → Type 0) (spent : DeviceState → Type 0) where
  -- each image that a crash may leave of the device is safe
  abbrev pub Headline : World → DeviceState → Type 0
  Headline w state = (image : List ℕ) → IsImage state image → IsSafe recovers w.base w.accepted w.floor image

  -- What a step with this answer does to the device.
  -- - A Call is one write or one sync, done or failed, or none for a batch without actions. It is skipped only if no batch waits
  --   and no checkpoint is open. If there is more to do the device didn't fail. It fails only if the device failed in it, or if
  --   no work was under way in the last epoch, so that a checkpoint was due.
  -- - A look that is possible is skipped only if a growth of its list was refused.
  -- - A crash leaves the bytes that it names.
  -- - A reopening reads an image, and answers what it encodes, or a fault with its cause.
  -- - No other step touches the device.
  abbrev pub Moves : World → Step → StepEvent → Sight → Sight → Type 0
  Moves w Call More d d' = MayCall w d × IsCall d.state d'.state × (d'.failures ≡ d.failures) × (d'.phase ≢ Stopped) × (d'.refused ≡ d.refused)
  Moves w Call Committed d d' =
      (0 < length (accepted_of (entries_at w.stage)) → IsCall d.state d'.state) × (accepted_of (entries_at w.stage) ≡ [] → d'.state ≡ d.state) × (d'.failures ≡ d.failures)
      × (d'.phase ≢ Committing) × (d'.phase ≢ Stopped) × (d'.refused ≡ d.refused)
  Moves w Call Failed d d' =
      MayCall w d × IsCalls d.state d'.state × (d.phase ≢ Idle → HasFailed d.failures d'.failures) × (¬ (spent d.state) → HasFailed d.failures d'.failures) × (d'.refused ≡ d.refused)
  Moves w Call Skipped d d' = ¬ (MayCall w d) × (d' ≡ d)
  Moves w (Look slot query) Skipped d d' = (¬ (Possible w (Look slot query)) × (d' ≡ d)) ⊎ (d' ≡ record d { refused = one_more d.refused })
  Moves w (Crash bytes) Crashed d d' = Crashes (names_byte bytes.items) d.state d'.state × (d'.failures ≡ d.failures) × (d'.refused ≡ d.refused)
  Moves w Reopen (Opened n) d d' =
      IsImage d.state d'.state.bytes × ((place : ℕ) → d'.state.pending place ≡ false) × recovers d'.state.bytes (run w.base (take (n - w.base.panel.count) w.accepted))
      × (d'.phase ≡ Idle) × (d'.refused ≡ d.refused)
  Moves w Reopen (Unopened fault) d d' = ((image : List ℕ) → IsImage d'.state image → IsImage d.state image) × HasCause recovers d.state fault d.failures d'.failures × (d'.refused ≡ d.refused)
  Moves w step event d d' = d' ≡ d

  -- the world's run of these steps, from a device to a device. Each entry answers its step, the device moves as the step lets it,
  -- and the headline holds before the first step and after each
  abbrev pub IsRun : World → Sight → List Step → List StepEvent → Sight → Type 0
  IsRun w d [] [] d' = Headline w d.state × (d' ≡ d)
  IsRun w d (step ∷ steps) (event ∷ trace) d' = Headline w d.state × ((m : Sight) × Answers w step event × Moves w step event d m × IsRun (after_step w step event) m steps trace d')
  IsRun w d [] (event ∷ trace) d' = ⊥
  IsRun w d (step ∷ steps) [] d' = ⊥

-- the world after these steps
abbrev pub after_steps : World → List Step → List StepEvent → World
after_steps w [] trace = w
after_steps w (step ∷ steps) [] = w
after_steps w (step ∷ steps) (event ∷ trace) = after_steps (after_step w step event) steps trace
