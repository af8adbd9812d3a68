-- A server's end by its store, as an end by its device; and what is written, by what else is known of a whole run.
use Rattle.std.proofs.Common.{◌≡◌, ◌⊎◌, inl, inr, ℕ, List, Option, [], sym, refl}
use Rattle.std.specs.Prelude.{Result, Ok, Err}
use Rattle.std.specs.Io.KnownBytes.{Appends}
use Rattle.std.proofs.lemmas.List.{append-nil}
use Rattle.alm_disk.specs.Device.{DeviceState}
use Rattle.alm_disk.specs.declared.disk.Disk
use Rattle.alm_model.specs.Plant.{Condensed}
use Rattle.alm_threads.specs.declared.stop_cause.StopCause.{StopCause}
use Rattle.alm_threads.specs.declared.storage.Storage.{Storage as Kind}
use Rattle.alm_threads.specs.declared.storage.Storage.TheVariants.{Whole, Stopped}
use Rattle.alm_serve.specs.declared.serve_fault.ServeFault.{ServeFault}
use Rattle.alm_serve.specs.declared.serve_fault.ServeFault.TheVariants.{Open, Net, Write, Memory, Storage}
use Rattle.alm_serve.specs.Runs.{IsOpened, RunsBy, ServeEnds}
use Rattle.alm_store.specs.declared.open_fault.OpenFault.{OpenFault}
use Rattle.alm_serve.specs.Serving.{ServeWrites, serving_line, stopped_line}

module _ {D : Type 0} (d : Disk.Ghosts D) (recovers : List ℕ → Condensed → Type 0) (spent : DeviceState → Type 0) where
  -- a device that was opened, and what was done with it
  pub ends_of : (device back : D) (o : IsOpened d recovers device) (why : Option StopCause) (result : Result ℕ ServeFault) → RunsBy d recovers spent o.base o.opened back why result → ServeEnds d recovers spent device back why result
  ends_of device back o why (Ok count) runs = (o, runs)
  ends_of device back o why (Err Storage) runs = (o, runs)
  ends_of device back o why (Err (Open fault)) runs = absurd runs
  ends_of device back o why (Err Net) runs = (o, runs)
  ends_of device back o why (Err Write) runs = (o, runs)
  ends_of device back o why (Err Memory) runs = (o, runs)

-- what is written, with what else is known of no run and of a whole one
pub writes_map : (idle idle' : Type 0) (whole whole' : ℕ → Type 0) (name : List ℕ) (old new : Option (List ℕ)) (result : Result ℕ ServeFault)
    → (idle → idle') → ((count : ℕ) → whole count → whole' count) → ServeWrites idle whole name old new result → ServeWrites idle' whole' name old new result
writes_map idle idle' whole whole' name old new (Ok count) none more w = w
writes_map idle idle' whole whole' name old new (Err (Open why)) none more w = w
writes_map idle idle' whole whole' name old new (Err Net) none more w = w
writes_map idle idle' whole whole' name old new (Err Memory) none more w = w
writes_map idle idle' whole whole' name old new (Err Storage) none more w = w
writes_map idle idle' whole whole' name old new (Err Write) none more (inl w) = inl (none w.0, w.1)
writes_map idle idle' whole whole' name old new (Err Write) none more (inr w) = inr (w.0, more w.0 w.1, w.2)

-- a run is whole or stopped
pub by_storage : {R : Type 0} (storage : Kind) → (storage ≡ Whole → R) → (storage ≡ Stopped → R) → R
by_storage Whole whole stopped = whole refl
by_storage Stopped whole stopped = stopped refl

-- what an end without a whole run has written, once the first line was
pub writes_first : (idle : Type 0) (whole : ℕ → Type 0) (name : List ℕ) (old new : Option (List ℕ)) (fault : ServeFault) → ¬ (fault ≡ Net) → ((why : OpenFault) → ¬ (fault ≡ Open why)) → (fault ≡ Write → idle ⊎ ((count : ℕ) × whole count)) → Appends old new (serving_line name) → ServeWrites idle whole name old new (Err fault)
writes_first idle whole name old new (Open why) net open' runs first = absurd (open' why refl)
writes_first idle whole name old new Net net open' runs first = absurd (net refl)
writes_first idle whole name old new Memory net open' runs first = inr first
writes_first idle whole name old new Storage net open' runs first = first
writes_first idle whole name old new Write net open' runs first = elim (runs refl) [
  | inl none ↦ inl (none, record { front = serving_line name; rest = []; whole = sym (append-nil (serving_line name)); written = first })
  | inr ran ↦ inr (ran.0, ran.1, record { front = serving_line name; rest = stopped_line ran.0; whole = refl; written = first })
]
