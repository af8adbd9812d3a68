-- What a desk over a device has done.
use Rattle.std.specs.Prelude.{◌≡◌, ◌↔◌, ◌⊎◌, ℕ, List, [], ◌∷◌, Contains, Option, Some, Result, OnOk}
use Rattle.alm_types.specs.declared.request.Request.{Request}
use Rattle.alm_model.specs.Plant.{Condensed}
use Rattle.alm_disk.specs.Device.{IsImage}
use Rattle.alm_disk.specs.declared.disk.Disk
use Rattle.alm_desk.specs.Answers.{DeskState, standing_of}
use Rattle.alm_desk.specs.Backends.{IsJudged, kept_by}
use Rattle.alm_desk.specs.DeskLines.{AnswersInput}
use Rattle.alm_desk.specs.declared.judged_request.JudgedRequest.{JudgedRequest}
use Rattle.alm_desk.specs.declared.stopped.Stopped.{Stopped}
use Rattle.alm_file.specs.declared.file_fault.FileFault.{FileFault}
use Rattle.alm_file.specs.Replay.{BeginsAs}
use Rattle.alm_keeper.specs.AsStore.{StandsFor}
use Rattle.alm_store.specs.Opening.{IsGivenBack, IsOpenedAs}
use Rattle.alm_store.specs.declared.open_fault.OpenFault.{OpenFault}
use Rattle.alm_program.specs.declared.fault.Fault.{Fault}
use Rattle.alm_program.specs.declared.fault.Fault.TheVariants.{OutOfMemory}
use Rattle.alm_program.specs.Faults.{fault_of_file, fault_of_open}

-- a request, and what came of it
pub record JudgedAtDesk : Type 0 where
  pub request : Request
  pub result : Result JudgedRequest Stopped

-- requests were judged one after the other, each on the plant that the ones before it left; and of which plants the storage holds one
abbrev pub AreJudgedAtDesk : Option Condensed → List Condensed → List JudgedAtDesk → Option Condensed → List Condensed → Type 0
AreJudgedAtDesk plant kept [] later kept_later = (later ≡ plant) × (kept_later ≡ kept)
AreJudgedAtDesk plant kept (j ∷ js) later kept_later =
    (next : Option Condensed) × IsJudged plant j.request j.result next × AreJudgedAtDesk next (kept_by plant kept j.request j.result) js later kept_later

-- a desk was run from this plant on, over a device that was honest as said, up to that device and that state. What it printed for an input
-- that is known is what the lines of that input ask. Each image of the device at its end holds one of the plants that are kept
pub record RunsDesk {D : Type 0} (d : Disk.Ghosts D) (base : Condensed) (honest_before : Type 0) (back : D) (input old new : Option (List ℕ)) (done : Result Unit Fault) (later : DeskState) : Type 0 where
  pub honest : ∥ (honest_before ↔ d.honest back) ∥₁
  pub judged : ∥ ((js : List JudgedAtDesk) × AreJudgedAtDesk (Some base) (base ∷ []) js later.plant later.kept) ∥₁
  pub printed : OnOk done (AnswersInput (standing_of (Some base) (base ∷ []) 0 0 []) input old later new)
  pub holds : d.honest back → (image : List ℕ) → IsImage (d.state back) image → ∥ ((plant : Condensed) × Contains later.kept plant × StandsFor image plant) ∥₁

-- the device was opened with this plant, and then a desk was run over it
pub record IsDeskOver {D : Type 0} (d : Disk.Ghosts D) (device back : D) (input old new : Option (List ℕ)) (done : Result Unit Fault) : Type 0 where
  pub opened : D
  pub base : Condensed
  pub later : DeskState
  pub is : IsOpenedAs d StandsFor base device opened
  pub runs : RunsDesk d base (d.honest opened) back input old new done later

-- a file held the bytes `start`. A device that began with them had a desk run over it, and became `back`: its record is longer by each call
-- that was made since
pub record IsDeskFrom {D : Type 0} (d : Disk.Ghosts D) (start : List ℕ) (back : D) (done : Result Unit Fault) : Type 0 where
  pub device : D
  pub begins : BeginsAs start (d.size device) (d.honest device) (d.state device)
  pub input : Option (List ℕ)
  pub old : Option (List ℕ)
  pub new : Option (List ℕ)
  pub over : IsDeskOver d device back input old new done

-- the device isn't opened, for its cause, and this is the fault of that
pub record DeskIsNotOpened {D : Type 0} (d : Disk.Ghosts D) (device : D) (fault : Fault) : Type 0 where
  pub why : OpenFault
  pub now : D
  pub named : fault ≡ fault_of_open why
  pub is : IsGivenBack d StandsFor why device now

-- no desk is run over the device: there is no memory, or it isn't opened
abbrev pub IsNotRun : {D : Type 0} (d : Disk.Ghosts D) (device : D) (fault : Fault) → Type 0
IsNotRun d device fault = (fault ≡ OutOfMemory) ⊎ DeskIsNotOpened d device fault

-- a file held the bytes `start`, and no desk is run over it: the file isn't opened, or a device that began with these bytes isn't run
abbrev pub IsNotRunFrom : {D : Type 0} (d : Disk.Ghosts D) (start : List ℕ) (fault : Fault) → Type 0
IsNotRunFrom {D} d start fault =
    ((cause : FileFault) × (fault ≡ fault_of_file cause)) ⊎ ((device : D) × BeginsAs start (d.size device) (d.honest device) (d.state device) × IsNotRun d device fault)
