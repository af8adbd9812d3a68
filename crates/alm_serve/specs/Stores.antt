-- What a server over an open store has done.
use Rattle.std.specs.Prelude.{◌≡◌, ◌⊎◌, ℕ, List, ◌++◌, Option, None, map, Result, Ok, Err}
use Rattle.std.specs.Io.KnownBytes.{Appends}
use Rattle.alm_disk.specs.declared.disk.Disk
use Rattle.alm_lines.specs.Written.{IsCutShort}
use Rattle.alm_moments.specs.declared.run_id.RunId
use Rattle.alm_rings.specs.declared.told.Told
use Rattle.alm_store.specs.declared.store.Store
use Rattle.alm_threads.specs.Runs.{IsRunOver}
use Rattle.alm_threads.specs.declared.report.RunReport.{RunReport}
use Rattle.alm_threads.specs.declared.run_end.RunEnd.{RunEnd}
use Rattle.alm_threads.specs.declared.stop_cause.StopCause.{StopCause}
use Rattle.alm_threads.specs.declared.storage.Storage.TheVariants as storage
use Rattle.alm_serve.specs.declared.serve_fault.ServeFault.{ServeFault}
use Rattle.alm_serve.specs.declared.serve_fault.ServeFault.TheVariants.{Memory, Storage, Write}
use Rattle.alm_serve.specs.declared.slot_port.SlotPort.{SlotPort}
use Rattle.alm_serve.specs.declared.store_end.StoreEnd.{StoreEnd}
use Rattle.alm_serve.specs.declared.store_end.StoreEnd.TheVariants.{Unserved, Served}
use Rattle.alm_serve.specs.Ports.{AllAttended, AllTalked, AreUnused}
use Rattle.alm_serve.specs.Serving.{serving_line, stopped_line}

-- what is written at the end of a run by its result, if `stored` actions are stored
abbrev pub EndWrites : Option (List ℕ) → Option (List ℕ) → (stored : ℕ) → Result ℕ ServeFault → Type 0
EndWrites old new stored (Ok count) = Appends old new (stopped_line count)
EndWrites old new stored (Err Write) = IsCutShort old new (stopped_line stored)
EndWrites old new stored (Err fault) = new ≡ old

module _ {K D T J : Type 0} (k : Store.Ghosts K D) (d : Disk.Ghosts D) {t : Told.Ghosts T} {j : RunId.Ghosts J} where
  -- the result of a run by its report
  abbrev pub IsResultOf : Result ℕ ServeFault → RunReport K T J D k d t j → Type 0
  IsResultOf (Ok count) report = (report.storage ≡ storage.Whole) × (count ≡ (k.state report.keeper).stored.panel.count)
  IsResultOf (Err Storage) report = report.storage ≡ storage.Stopped
  IsResultOf (Err Write) report = report.storage ≡ storage.Whole
  IsResultOf (Err other) report = ⊥

  module _ {R : Type 0} where
    -- these ports were the sources of a run over this store, each at the console of its slot that the report has, and nothing else
    -- used these consoles. If no connection had come before, what a slot's clients sent and read is that of its connections
    pub record IsRunOfPorts (store : K) (ports : List (SlotPort R T)) (run : RunEnd K T J (SlotPort R T) D k d t j) : Type 0 where
      pub over : IsRunOver k d store (map (λ port. port.slot) ports) run.report.consoles.value.items run.report
      pub attended : AllAttended (k.state store).stored ports run.sources.items run.report.consoles.value.items
      pub talked : AreUnused ports → AllTalked (k.state store).stored run.sources.items run.report.consoles.value.items

    -- nothing was run, and the store is as it was; or these ports were served in a run over it
    abbrev pub ServesStore : K → List (SlotPort R T) → StoreEnd K T J (SlotPort R T) D k d t j → Type 0
    ServesStore store ports (Unserved fault back) = (back ≡ store) × ((fault ≡ Memory) ⊎ (fault ≡ Write))
    ServesStore store ports (Served result run) = IsRunOfPorts store ports run × IsResultOf result run.report

    -- what it wrote, by the name of what it listens at
    abbrev pub WritesOf : List ℕ → Option (List ℕ) → Option (List ℕ) → StoreEnd K T J (SlotPort R T) D k d t j → Type 0
    WritesOf name old new (Unserved Write back) = IsCutShort old new (serving_line name)
    WritesOf name old new (Unserved fault back) = Appends old new (serving_line name)
    WritesOf name old new (Served (Ok count) run) = Appends old new (serving_line name ++ stopped_line count)
    WritesOf name old new (Served (Err Write) run) = IsCutShort old new (serving_line name ++ stopped_line (k.state run.report.keeper).stored.panel.count)
    WritesOf name old new (Served (Err fault) run) = Appends old new (serving_line name)

  module _ {S : Type 0} where
    -- a server's result, why its run stopped, and its store
    abbrev pub served_of : StoreEnd K T J S D k d t j → Result ℕ ServeFault
    served_of (Unserved fault back) = Err fault
    served_of (Served result run) = result

    abbrev pub cause_of : StoreEnd K T J S D k d t j → Option StopCause
    cause_of (Unserved fault back) = None
    cause_of (Served result run) = run.report.cause

    abbrev pub back_of : StoreEnd K T J S D k d t j → K
    back_of (Unserved fault back) = back
    back_of (Served result run) = run.report.keeper
