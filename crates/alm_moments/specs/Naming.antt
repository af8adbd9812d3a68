-- A run that is named after a store.
use Rattle.std.specs.Prelude.{◌≡◌, ◌↔◌, ℕ, List}
use Rattle.alm_disk.specs.declared.disk.Disk
use Rattle.alm_model.specs.Plant.{Condensed}
use Rattle.alm_store.specs.declared.store.Store
use Rattle.alm_moments.specs.declared.run_id.RunId

module _ {J K D : Type 0} (j : RunId.Ghosts J) (k : Store.Ghosts K D) (d : Disk.Ghosts D) where
  -- the run begins with what is stored, and with the store's device. It is honest exactly if that is, and bytes hold a plant for it
  -- exactly if they do for the store
  pub record IsNamedAfter (store : K) : Type 0 where
    pub base : j.base ≡ (k.state store).stored
    pub device : j.first ≡ d.state (k.disk store)
    pub honest : ∥ (j.honest ↔ d.honest (k.disk store)) ∥₁
    pub recovers : ∥ ((b : List ℕ) (p : Condensed) → (j.recovers b p ↔ k.recovers b p)) ∥₁
