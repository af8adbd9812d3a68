-- What a crash may leave: an image of the plant that a prefix of the accepted actions makes. The prefix contains all that was
-- reported.
use Rattle.std.specs.Prelude.{◌≡◌, ◌≤◌, ◌+◌, ◌-◌, IsPermutation, true, ℕ, List, length, take}
use Rattle.alm_types.specs.declared.action.Action.{Action}
use Rattle.alm_model.specs.Plant.{Condensed}
use Rattle.alm_model.specs.Lists.{alarms, stands_in, list_of}
use Rattle.alm_model.specs.Rising.{RisesByStamp, is_by_stamp}
use Rattle.alm_model.specs.declared.list.List.{List as Choice}
use Rattle.alm_model.specs.Step.{run}

-- this plant is made by a prefix of the accepted actions, and its count reaches the floor
pub record IsPrefixPlant (base : Condensed) (accepted : List Action) (floor : ℕ) (q : Condensed) : Type 0 where
  pub enough : floor ≤ q.panel.count
  pub no_more : q.panel.count ≤ base.panel.count + length accepted
  pub plant : q ≡ run base (take (q.panel.count - base.panel.count) accepted)

-- the list is the filter of its alarms, in the order of their stamps
pub record IsFilter (q : Condensed) (list : Choice) : Type 0 where
  pub filter : IsPermutation (alarms (stands_in list) q.panel.attrs q.panel.rows) (list_of list q)
  pub rises : RisesByStamp q.panel (list_of list q)

-- an image encodes a plant; this is such a plant, and each of its lists that is by stamp is the filter of its alarms
pub record IsSafe (recovers : List ℕ → Condensed → Type 0) (base : Condensed) (accepted : List Action) (floor : ℕ) (image : List ℕ) : Type 0 where
  pub some : ∥ ((plant : Condensed) × recovers image plant) ∥₁
  pub each : (plant : Condensed) → recovers image plant → IsPrefixPlant base accepted floor plant
  pub lists : (plant : Condensed) → recovers image plant → (list : Choice) → is_by_stamp list ≡ true → IsFilter plant list
