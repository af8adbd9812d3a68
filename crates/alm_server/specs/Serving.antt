-- What the program says of a server's fault, and of the device's file that it served.
use Rattle.std.specs.Prelude.{◌≡◌, ◌⊎◌, ℕ, List, Option, Result, Ok, Err}
use Rattle.alm_disk.specs.declared.disk.Disk
use Rattle.alm_file.specs.declared.file_fault.FileFault.{FileFault}
use Rattle.alm_file.specs.Replay.{BeginsAs}
use Rattle.alm_keeper.specs.AsStore.{IsLastEpoch, StandsFor}
use Rattle.alm_threads.specs.declared.stop_cause.StopCause.{StopCause}
use Rattle.alm_serve.specs.Runs.{ServeEnds}
use Rattle.alm_program.specs.declared.fault.Fault.{Fault}
use Rattle.alm_program.specs.declared.fault.Fault.TheVariants as program
use Rattle.alm_program.specs.Faults.{fault_of_file, fault_of_open}
use Rattle.alm_serve.specs.declared.serve_fault.ServeFault.{ServeFault}
use Rattle.alm_serve.specs.declared.serve_fault.ServeFault.TheVariants.{Open, Net, Write, Memory, Storage}

-- the fault of a server
abbrev pub fault_of_serve : ServeFault → Fault
fault_of_serve (Open fault) = fault_of_open fault
fault_of_serve Net = program.Net
fault_of_serve Write = program.Io
fault_of_serve Memory = program.OutOfMemory
fault_of_serve Storage = program.Stopped

-- what the program ends with: that fault, or none
abbrev pub end_of_serving : Result ℕ ServeFault → Result Unit Fault
end_of_serving (Ok count) = Ok tt
end_of_serving (Err fault) = Err (fault_of_serve fault)

-- the file held the bytes `start`. A device that began with them was served, and became `back`: its record is longer by each call that
-- was made since
pub record IsServedFrom {D : Type 0} (d : Disk.Ghosts D) (start : List ℕ) (back : D) (why : Option StopCause) (served : Result ℕ ServeFault) : Type 0 where
  pub device : D
  pub begins : BeginsAs start (d.size device) (d.honest device) (d.state device)
  pub ends : ServeEnds d StandsFor IsLastEpoch device back why served

-- nothing is served: there is no memory, or the file isn't opened
abbrev pub IsNotServed : Fault → Type 0
IsNotServed fault = (fault ≡ program.OutOfMemory) ⊎ ((cause : FileFault) × (fault ≡ fault_of_file cause))
