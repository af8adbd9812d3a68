-- A device that was formatted, and what is printed of it.
use Rattle.std.specs.Prelude.{◌≡◌, ℕ, List, ◌++◌, Ok, codes, decimal}
use Rattle.alm_types.specs.Tables.{Listing}
use Rattle.alm_codec.specs.declared.version.Version.{Version}
use Rattle.alm_disk.specs.declared.disk.Disk
use Rattle.alm_file.specs.Replay.{BeginsAs}
use Rattle.alm_keeper.specs.Formatted.{IsFormatted}
use Rattle.alm_model.specs.New.{new_plant}
use Rattle.alm_model.specs.Plant.{Condensed}
use Rattle.alm_table.specs.Faults.{ReadsAs, device_table}

-- its rows, its areas, and the bytes of a segment
abbrev pub formatted_text : (rows areas segment : ℕ) → List ℕ
formatted_text rows areas segment =
    codes "formatted " ++ (decimal rows ++ (codes " " ++ (decimal areas ++ (codes " " ++ (decimal segment ++ codes "\n")))))

-- a device of this size, whose file held the bytes `start`, was formatted in a version for a plant
pub record IsMadeFor {D : Type 0} (d : Disk.Ghosts D) (start : List ℕ) (size : ℕ) (version : Version) (plant : Condensed) (made : D) : Type 0 where
  pub device : D
  pub begins : BeginsAs start (d.size device) (d.honest device) (d.state device)
  pub sized : d.size device ≡ size
  pub formatted : IsFormatted d.serves d.state d.honest d.size version plant device made

-- the same for the new plant of a text's table, at its size
pub record IsFormattedFor {D : Type 0} (d : Disk.Ghosts D) (start : List ℕ) (version : Version) (text : List ℕ) (made : D) : Type 0 where
  pub size : ℕ
  pub table : Listing
  pub reads : ReadsAs text (Ok (device_table size table))
  pub is : IsMadeFor d start size version (new_plant table) made
