-- A device that was brought to a version, and what is printed of it.
use Rattle.std.specs.Prelude.{◌≡◌, ◌≢◌, ℕ, Bool, true, false, List, ◌∷◌, ◌++◌, Option, Some, None, Ok, codes, decimal}
use Rattle.alm_model.specs.Plant.{Condensed}
use Rattle.alm_codec.specs.declared.version.Version.{Version}
use Rattle.alm_codec.specs.declared.version.Version.TheVariants.{V01, V02, V03}
use Rattle.alm_checkpoint.specs.declared.layout.Layout.{Layout}
use Rattle.alm_checkpoint.specs.Layouts.{header_len}
use Rattle.alm_checkpoint.specs.Opening.{layout_in}
use Rattle.alm_disk.specs.declared.disk.Disk
use Rattle.alm_disk.specs.declared.call.Call.{Call}
use Rattle.alm_disk.specs.declared.call.Call.TheVariants.{Read, Sync}
use Rattle.alm_file.specs.Replay.{BeginsAs}
use Rattle.alm_keeper.specs.AsStore.{StandsFor}
use Rattle.alm_keeper.specs.Keeper.{KeeperView}
use Rattle.alm_store.specs.Calls.{AreDone, AreReads}
use Rattle.alm_program.specs.Formatted.{IsMadeFor}

-- whether it is new, its version, and the count of actions of its plant
abbrev pub version_text : Version → List ℕ
version_text V01 = codes "01"
version_text V02 = codes "02"
version_text V03 = codes "03"

abbrev pub done_text : (is_new : Bool) → List ℕ
done_text true = codes "upgraded "
done_text false = codes "unchanged "

abbrev pub upgraded_text : (is_new : Bool) → Version → (count : ℕ) → List ℕ
upgraded_text is_new version count = done_text is_new ++ (version_text version ++ (codes " " ++ (decimal count ++ codes "\n")))

-- a device of this size, whose file held the bytes `start`, was read and synced, and nothing else: it became `old`. If what it gave
-- was `start`, these bytes have that layout, and encode that plant
pub record IsReadFrom {D : Type 0} (d : Disk.Ghosts D) (start : List ℕ) (size : ℕ) (layout : Layout) (plant : Condensed) (old : D) : Type 0 where
  pub device : D
  pub begins : BeginsAs start (d.size device) (d.honest device) (d.state device)
  pub sized : d.size device ≡ size
  pub reads : List Call
  pub are_reads : AreReads reads
  pub calls : AreDone d.serves (Read 0 header_len ∷ Sync ∷ reads) device old
  pub laid : d.honest old → layout_in start ≡ Ok layout
  pub stands : d.honest old → StandsFor start plant

-- a new device was made for the plant in a version, unless that is the version of the old one
abbrev pub IsMadeUnless : {E : Type 0} (e : Disk.Ghosts E) (fresh : List ℕ) (size : ℕ) (found version : Version) (plant : Condensed) → Option E → Type 0
IsMadeUnless e fresh size found version plant None = found ≡ version
IsMadeUnless e fresh size found version plant (Some made) = (found ≢ version) × IsMadeFor e fresh size version plant made

-- the old device's file held the bytes `start`, the new one's the bytes `fresh`
pub record IsUpgraded {D E : Type 0} (d : Disk.Ghosts D) (e : Disk.Ghosts E) (start fresh : List ℕ) (version : Version) (old : KeeperView D) (new : Option E) : Type 0 where
  pub size : ℕ
  pub layout : Layout
  pub read : IsReadFrom d start size layout old.stored.plant old.disk
  pub made : IsMadeUnless e fresh size layout.version version old.stored.plant new
