-- A new plant.
use Rattle.std.proofs.Common.{◌≡◌, ℕ, Bool, false, length, Some, refl, sym, subst}
use Rattle.std.specs.Prelude.{slice_get}
use Rattle.alm_types.specs.Tables.{Listing}
use Rattle.alm_state.specs.Rows.{State}
use Rattle.alm_model.specs.New.{new_plant, at_rest}
use Rattle.alm_laws.specs.Moved.{IsOfNewPlant}
use Rattle.alm_laws.proofs.Chronic.{same-replicate}

at-rest : IsOfNewPlant at_rest
at-rest = record { inactive = refl; normal = refl; unshelved = refl; by_design = refl; in_service = refl; unstamped = refl }

pub begun-rows : (t : Listing) (i : ℕ) (s : State) → slice_get (new_plant t).panel.rows i ≡ Some s → IsOfNewPlant s
begun-rows t i s e = subst IsOfNewPlant (same-replicate (length t.alarms) i at_rest s e) at-rest

pub begun-floods : (t : Listing) (area : ℕ) (flag : Bool) → slice_get (new_plant t).floods area ≡ Some flag → flag ≡ false
begun-floods t area flag e = sym (same-replicate t.areas area false flag e)
