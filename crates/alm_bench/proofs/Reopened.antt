-- What an opening finds.
use Rattle.std.proofs.Common.{◌≡◌, ◌≤◌, ◌+◌, ◌-◌, ℕ, List, length, take, [], refl, zero, suc, sym, subst, ◌∙◌, ap, arith}
use Rattle.std.proofs.lemmas.List.{length-take-le}
use Rattle.std.proofs.Math.Logic.{∥∥₁_elim}
use Rattle.std.proofs.Props.{props}
use Rattle.alm_disk.specs.Device.{DeviceState, AreBytes, IsImage}
use Rattle.alm_model.specs.Plant.{Condensed}
use Rattle.alm_model.specs.Rules.{KeepsRules}
use Rattle.alm_model.specs.Step.{run}
use Rattle.alm_store.specs.Opening.{HasCause}
use Rattle.alm_store.specs.declared.open_fault.OpenFault.{OpenFault}
use Rattle.alm_store.specs.declared.open_fault.OpenFault.TheVariants.{Unformatted, Damaged, Disk, OutOfMemory}
use Rattle.alm_types.specs.declared.action.Action.{Action}
use Rattle.alm_pipeline.specs.World.{IsStorageFault}
use Rattle.alm_model.proofs.ByStamp.{by-stamp-permutation, by-stamp-rises}
use Rattle.alm_store.specs.Recovery.{IsPrefixPlant, IsSafe}

pub storage_fault : (recovers : List ℕ → Condensed → Type 0) (base : Condensed) (accepted : List Action) (floor : ℕ) (state : DeviceState) (fault : OpenFault) (n n' : ℕ) → ((image : List ℕ) → IsImage state image → IsSafe recovers base accepted floor image) → HasCause recovers state fault n n' → IsStorageFault fault
storage_fault recovers base accepted floor state Unformatted n n' headline cause = ∥∥₁_elim cause (hlevel props) (λ f. ∥∥₁_elim (headline f.image f.is_image).some (hlevel props) (λ s. f.faulty s.0 s.1))
storage_fault recovers base accepted floor state (Damaged half at) n n' headline cause = ∥∥₁_elim cause (hlevel props) (λ f. ∥∥₁_elim (headline f.image f.is_image).some (hlevel props) (λ s. f.faulty s.0 s.1))
storage_fault recovers base accepted floor state Disk n n' headline cause = tt
storage_fault recovers base accepted floor state OutOfMemory n n' headline cause = tt

-- the plant that was found, as a fold
pub found : (base : Condensed) (accepted : List Action) (floor : ℕ) (q : Condensed) (count : ℕ) → count ≡ q.panel.count → IsPrefixPlant base accepted floor q → q ≡ run base (take (count - base.panel.count) accepted)
found base accepted floor q count is prefix = prefix.plant ∙ ap (λ n. run base (take (n - base.panel.count) accepted)) (sym is)

pub reaches : (base : Condensed) (accepted : List Action) (floor : ℕ) (q : Condensed) (count : ℕ) → count ≡ q.panel.count → IsPrefixPlant base accepted floor q → floor ≤ base.panel.count + length (take (count - base.panel.count) accepted)
reaches base accepted floor q count is prefix =
    let size : length (take (count - base.panel.count) accepted) ≡ count - base.panel.count = length-take-le (count - base.panel.count) accepted (omega (arith, is, prefix.no_more)) in
    omega (arith, is, prefix.enough, size)

take_none : (n : ℕ) → take {A = Action} n [] ≡ []
take_none zero = refl
take_none (suc n) = refl

-- the world that begins with a plant has this plant
pub first_is : (recovers : List ℕ → Condensed → Type 0) → ((image : List ℕ) (p q : Condensed) → recovers image p → recovers image q → p ≡ q) → ((image : List ℕ) (p : Condensed) → AreBytes image → recovers image p → KeepsRules p)
    → (plant : Condensed) (image : List ℕ) → AreBytes image → recovers image plant → IsSafe recovers plant [] plant.panel.count image
first_is recovers one rules plant image are is = record {
  lists = λ q r list by. record { filter = by-stamp-permutation q list by; rises = by-stamp-rises q list (rules image q are r) by };
  some = ∣ (plant, is) ∣₁;
  each = λ q r. subst (IsPrefixPlant plant [] plant.panel.count) (one image plant q is r) (record {
    enough = omega arith;
    no_more = omega arith;
    plant = ap (run plant) (sym (take_none (plant.panel.count - plant.panel.count)));
  });
}
