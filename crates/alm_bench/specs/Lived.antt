-- The whole life of a device.
use Rattle.std.specs.Prelude.{◌≡◌, ◌⊎◌, ◌↔◌, ℕ, List}
use Rattle.alm_disk.specs.declared.disk.Disk
use Rattle.alm_codec.specs.declared.version.Version.TheVariants.{V02}
use Rattle.alm_keeper.specs.AsStore.{StandsFor, IsLastEpoch}
use Rattle.alm_keeper.specs.Formatted.{IsFormatted, IsLeftBy}
use Rattle.alm_keeper.specs.declared.format_fault.FormatFault.{FormatFault}
use Rattle.alm_keeper.specs.declared.format_fault.FormatFault.TheVariants.{OutOfMemory}
use Rattle.alm_model.specs.Plant.{Condensed}
use Rattle.alm_pipeline.specs.Headline.{IsRun, device_alone}
use Rattle.alm_pipeline.specs.World.{closed_world, first}
use Rattle.alm_pipeline.specs.declared.step.Step.{Step}
use Rattle.alm_pipeline.specs.declared.step_event.StepEvent.{StepEvent}
use Rattle.alm_store.specs.declared.phase.Phase.{Phase}

module _ {D : Type 0} (d : Disk.Ghosts D) where
  -- these steps, with this trace, are a run of the closed world of a plant. It leads from one device to the other
  abbrev pub IsLifeOf : Condensed → List Step → List StepEvent → (old new : D) → Type 0
  IsLifeOf plant steps trace old new =
      (at : Phase) × (n : ℕ) × IsRun StandsFor IsLastEpoch (closed_world (first plant)) (device_alone (d.state old) (d.failures old) 0) steps trace (record { state = d.state new; failures = d.failures new; phase = at; refused = n })

  -- the device was formatted for a plant
  abbrev pub IsNewFor : Condensed → (old new : D) → Type 0
  IsNewFor plant old new = IsFormatted d.serves d.state d.honest d.size V02 plant old new

  -- it was left alone: it is as honest as it was, has the same state, and failed as often
  abbrev pub IsLeftAlone : (old new : D) → Type 0
  IsLeftAlone old new = (d.honest old ↔ d.honest new) × (d.state new ≡ d.state old) × (d.failures new ≡ d.failures old)

  -- no step was made: its formatting was refused, or memory ran out when the device was formatted
  abbrev pub IsUnlived : FormatFault → Condensed → (old new : D) → Type 0
  IsUnlived fault plant old new =
      IsLeftBy fault d.serves d.state d.honest d.size d.failures plant old new ⊎ ((fault ≡ OutOfMemory) × (formatted : D) × IsNewFor plant old formatted × IsLeftAlone formatted new)
