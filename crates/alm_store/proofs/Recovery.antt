-- What a store's images encode is safe.
use Rattle.std.proofs.Common.{◌≡◌, ◌⊎◌, ⊎_elim, ◌+◌, ◌-◌, ◌≤◌, ℕ, List, ◌++◌, length, take, refl, sym, ◌∙◌, ap, subst, arith, length-append}
use Rattle.std.proofs.lemmas.List.{take_at, take-append-le}
use Rattle.std.proofs.Props.{props}
use Rattle.std.proofs.Math.Logic.{∥∥₁_elim}
use Rattle.alm_disk.specs.Device.{AreBytes}
use Rattle.alm_types.specs.declared.action.Action.{Action}
use Rattle.alm_model.specs.Plant.{Condensed}
use Rattle.alm_model.specs.Rules.{KeepsRules}
use Rattle.alm_model.specs.Step.{run}
use Rattle.alm_model.proofs.ByStamp.{by-stamp-permutation, by-stamp-rises}
use Rattle.alm_model.proofs.Runs.{run_count}
use Rattle.alm_store.specs.Recovery.{IsPrefixPlant, IsSafe}

pub prefix_prop : (base : Condensed) (accepted : List Action) (floor : ℕ) (q : Condensed) → IsProp (IsPrefixPlant base accepted floor q)
prefix_prop base accepted floor q = hlevel props

-- a plant of a prefix of the accepted list that reaches the floor
pub prefix_is : (base : Condensed) (accepted : List Action) (floor : ℕ) (list rest : List Action) → list ++ rest ≡ accepted → floor ≤ base.panel.count + length list → IsPrefixPlant base accepted floor (run base list)
prefix_is base accepted floor list rest prefix enough = record {
  enough = omega (arith, enough, count);
  no_more = omega (arith, ap length prefix, length-append list rest, count);
  plant = ap (run base) (sym same);
}
  where
    count : (run base list).panel.count ≡ base.panel.count + length list
    count = run_count base list

    size : (run base list).panel.count - base.panel.count ≡ length list
    size = omega (arith, count)

    same : take ((run base list).panel.count - base.panel.count) accepted ≡ list
    same = (λ i. take (size i) ((sym prefix) i)) ∙ take_at list rest (length list) refl

-- of a longer list of accepted actions it is a prefix as well
pub prefix_on : (base : Condensed) (accepted more : List Action) (floor : ℕ) (q : Condensed) → IsPrefixPlant base accepted floor q → IsPrefixPlant base (accepted ++ more) floor q
prefix_on base accepted more floor q f = record {
  enough = f.enough;
  no_more = omega (arith, f.no_more, length-append accepted more);
  plant = f.plant ∙ ap (run base) (sym (take-append-le (q.panel.count - base.panel.count) accepted more (omega (arith, f.no_more))));
}

module _ (recovers : List ℕ → Condensed → Type 0) (base : Condensed) (accepted : List Action) where
  -- an image that encodes one of two plants, each of which is that of a prefix
  pub safe_by : (floor : ℕ) (stored next : Condensed) (image : List ℕ) → AreBytes image
      → IsPrefixPlant base accepted floor stored → IsPrefixPlant base accepted floor next
      → ∥ recovers image stored ⊎ recovers image next ∥₁
      → ((b : List ℕ) (p q : Condensed) → recovers b p → recovers b q → p ≡ q)
      → ((b : List ℕ) (p : Condensed) → AreBytes b → recovers b p → KeepsRules p)
      → IsSafe recovers base accepted floor image
  safe_by floor stored next image bytes old new stands one rules = record {
    some = ∥∥₁_elim stands (hlevel props) (⊎_elim (λ (r : recovers image stored). ∣ (stored, r) ∣₁) (λ (r : recovers image next). ∣ (next, r) ∣₁));
    each = λ q r. ∥∥₁_elim stands (prefix_prop base accepted floor q) (⊎_elim
        (λ (s : recovers image stored). subst (IsPrefixPlant base accepted floor) (one image stored q s r) old)
        (λ (s : recovers image next). subst (IsPrefixPlant base accepted floor) (one image next q s r) new));
    lists = λ q r list by. record { filter = by-stamp-permutation q list by; rises = by-stamp-rises q list (rules image q bytes r) by };
  }

  pub safe_on : (more : List Action) (floor : ℕ) (image : List ℕ) → IsSafe recovers base accepted floor image → IsSafe recovers base (accepted ++ more) floor image
  safe_on more floor image s = record {
    some = s.some;
    each = λ q r. prefix_on base accepted more floor q (s.each q r);
    lists = s.lists;
  }
