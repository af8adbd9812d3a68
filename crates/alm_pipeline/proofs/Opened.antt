-- An opening that was done, and whose parts found no memory.
use Rattle.std.proofs.Common.{◌≡◌, ℕ, List, [], ◌∷◌, inr, sym, subst, Result}
use Rattle.std.proofs.lemmas.List.{ext_get_or}
use Rattle.alm_disk.specs.Device.{IsImage}
use Rattle.alm_disk.specs.declared.call.Call.{Call}
use Rattle.alm_disk.specs.declared.disk.Disk
use Rattle.alm_disk.specs.declared.disk_fault.DiskFault.{DiskFault}
use Rattle.alm_model.specs.Plant.{Condensed}
use Rattle.alm_store.specs.Calls.{AreDone, SomeAreDone, OpensBy, IsRefusedBy}
use Rattle.alm_store.specs.Opening.{IsGivenBack, IsOpenedAs}
use Rattle.alm_store.specs.declared.open_fault.OpenFault.TheVariants.{OutOfMemory}

module _ {D : Type 0} (serves : D → Call → Result Unit DiskFault → D → Type 0) where
  all_done : (calls : List Call) (a b : D) → AreDone serves calls a b → SomeAreDone serves calls a b
  all_done [] a b is = is
  all_done (x ∷ xs) a b is = inr (is.0, is.1, all_done xs is.0 b is.2)

  refused_behind : (a b : D) → OpensBy serves a b → IsRefusedBy OutOfMemory serves a b
  refused_behind a b is =
      let done = is.done in
      record { reads = is.reads; are_reads = is.are_reads; made = inr (done.0, done.1, all_done is.reads done.0 b done.2) }

-- it was opened, and is given back since its parts found no memory
pub given_back_behind : {D : Type 0} (d : Disk.Ghosts D) (recovers : List ℕ → Condensed → Type 0) (plant : Condensed) (old new : D) → IsOpenedAs d recovers plant old new → IsGivenBack d recovers OutOfMemory old new
given_back_behind d recovers plant old new is = record {
  made = refused_behind d.serves old new is.made;
  honest = is.honest;
  no_new_image = λ honest image left.
      let same : image ≡ (d.state new).bytes = ext_get_or 0 image (d.state new).bytes left.size (λ i _. left.stable i (is.settled honest i)) in
      subst (IsImage (d.state old)) (sym same) (is.image honest);
  failed = λ e. absurd (cc e);
  cause = λ _. tt;
}
