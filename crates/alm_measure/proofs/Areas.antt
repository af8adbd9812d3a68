-- Areas of alarms, and the annunciations of areas.
use Rattle.std.proofs.Common.{◌≡◌, ℕ, ◌+◌, ◌<◌, ◌≤◌, List, [], ◌∷◌, map, sum, sum_by, suc, zero, refl, ap, sym, ◌∙◌, ◌^◌, length, slice_index_or, slice_set, All, arith}
use Rattle.std.specs.Prelude.{slice_get, slice_index}
use Rattle.std.proofs.lemmas.Grind.{get_or_default_zero}
use Rattle.std.proofs.lemmas.List.{get_or-map, set-get_or}
use Rattle.std.proofs.lemmas.Option.{slice_get-get_or}
use Rattle.std.proofs.lemmas.List.Sums.{get_or-le-sum_by}
use Rattle.alm_types.specs.declared.attr.Attr.{Attr}
use Rattle.alm_model.specs.Keeping.{area_in, change, with_change}
use Rattle.alm_measure.specs.Metrics.{Metrics, window_around}

-- no area has more annunciations than all together
pub below-all : (n : ℕ) (areas : List (List ℕ)) → sum_by sum areas < n → All (λ ages. sum ages < n) areas
below-all n areas l = λ k d h. let one = get_or-le-sum_by sum areas k d h in omega arith

-- the window of an alarm's area
pub window-at : (i : ℕ) (m : Metrics) (ages : List ℕ) → slice_index m.areas i < length m.ages → ages ≡ slice_index_or m.ages (slice_index m.areas i) ages → window_around i m ≡ sum ages
window-at i m ages h is = get_or-map sum m.ages (slice_index m.areas i) ages 0 h ∙ ap sum (sym is)

-- the counts of a full window are put back as they were
pub full-stays : (i area : ℕ) (m : Metrics) (ages after : List ℕ) → area ≡ slice_index_or m.areas i area → i < length m.areas → All (λ k. k < length m.ages) m.areas → ages ≡ slice_index_or m.ages area ages → (2 ^ 64 ≤ sum ages + 1 → after ≡ ages) → 2 ^ 64 ≤ window_around i m + 1 → slice_set m.ages area after ≡ m.ages
full-stays i area m ages after at h in_areas is stays full =
    let found : area ≡ slice_index m.areas i = at ∙ get_or_default_zero m.areas i area h in
    let within = in_areas i 0 h in
    let counts : ages ≡ slice_index_or m.ages (slice_index m.areas i) ages = is ∙ ap (λ k. slice_index_or m.ages k ages) found in
    let window = window-at i m ages within counts in
    ap (slice_set m.ages area) (stays (omega arith) ∙ is) ∙ set-get_or m.ages area ages

-- an element that is written back changed
pub written-back : {A : Type 0} (xs : List A) (i : ℕ) (f : A → A) (old after : A) → i < length xs → old ≡ slice_index_or xs i old → after ≡ f old → slice_set xs i after ≡ change xs i f
written-back xs i f old after h at is = ap (slice_set xs i) (is ∙ ap f at) ∙ sym (ap (with_change xs i f) (slice_get-get_or xs i old h))

-- the area of an alarm
pub area-at : (attrs : List Attr) (i : ℕ) → area_in (slice_get attrs i) ≡ slice_index (map (λ a. a.area) attrs) i
area-at [] i = refl
area-at (a ∷ attrs) zero = refl
area-at (a ∷ attrs) (suc i) = area-at attrs i
