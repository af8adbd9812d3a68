-- The measures count annunciations of the whole history.
use Rattle.std.proofs.Common.{◌≡◌, ℕ, ◌+◌, ◌<◌, List, length, Some, zero, suc, refl, sym, ap, ◌∙◌, arith}
use Rattle.std.specs.Prelude.{slice_get, map, sum}
use Rattle.std.specs.List.{range_with_len}
use Rattle.std.proofs.lemmas.List.FromFn.{length-map-range_with_len}
use Rattle.std.proofs.lemmas.Option.{same_Some, slice_get_within, slice_get-map}
use Rattle.std.specs.Prelude.{option_map}
use Rattle.alm_types.specs.declared.action.Action.{Action}
use Rattle.alm_types.specs.Tables.{Listing, IsTable}
use Rattle.alm_model.specs.Counted.{IsCounted, new_whole, run_whole}
use Rattle.alm_model.specs.Plant.{RecordedPlant, Condensed}
use Rattle.alm_model.specs.New.{new_plant}
use Rattle.alm_model.specs.Rules.{AreAdmitted}
use Rattle.alm_model.specs.Step.{run}
use Rattle.alm_model.proofs.Whole.{counted-new}
use Rattle.alm_laws.specs.Counts.{annunciated_within, last_three}

at-place : {A : Type 0} (f : ℕ → A) (a n i : ℕ) → i < n → slice_get (map f (range_with_len a n)) i ≡ Some (f (a + i))
at-place f a zero i l = absurd (omega arith)
at-place f a (suc n) zero l = let e : a + 0 ≡ a = omega arith in rw e refl
at-place f a (suc n) (suc i) l = let e : (a + 1) + i ≡ a + suc i = omega arith in rw (← e) (at-place f (a + 1) n i (omega arith))

-- what a made list has at a place
made-at : {A : Type 0} (f : ℕ → A) (n i : ℕ) (x : A) → slice_get (map f (range_with_len 0 n)) i ≡ Some x → x ≡ f i
made-at f n i x e =
    let within : i < n = (let l = slice_get_within (map f (range_with_len 0 n)) i x e in let size = length-map-range_with_len f 0 n in omega (arith, l, size)) in
    let same : 0 + i ≡ i = omega arith in
    same_Some _ _ (sym e ∙ at-place f 0 n i within) ∙ ap f same

window-counted-by : (p : RecordedPlant) (q : Condensed) (area : ℕ) (ages : List ℕ) → IsCounted p q → slice_get q.kept.ages area ≡ Some ages → sum ages ≡ annunciated_within 600 p area
window-counted-by p q area ages c e =
    made-at (annunciated_within 600 p) (length p.floods) area (sum ages) (ap (λ l. slice_get l area) (sym c.windows) ∙ slice_get-map sum q.kept.ages area ∙ ap (option_map sum) e)

pub window-counted : (t : Listing) (actions : List Action) (area : ℕ) (ages : List ℕ) → IsTable t → AreAdmitted (new_plant t) actions
    → slice_get (run (new_plant t) actions).kept.ages area ≡ Some ages → sum ages ≡ annunciated_within 600 (run_whole (new_whole t) actions) area
window-counted t actions area ages table all e = window-counted-by (run_whole (new_whole t) actions) (run (new_plant t) actions) area ages (counted-new t actions table all) e

pub moments-counted : (t : Listing) (actions : List Action) (i : ℕ) (moments : List ℕ) → IsTable t → AreAdmitted (new_plant t) actions
    → slice_get (run (new_plant t) actions).kept.moments i ≡ Some moments → moments ≡ last_three (run_whole (new_whole t) actions) i
moments-counted t actions i moments table all e =
    let p : RecordedPlant = run_whole (new_whole t) actions in
    made-at (last_three p) (length p.panel.attrs) i moments (ap (λ q. slice_get q.kept.moments i) (counted-new t actions table all).same ∙ e)
