-- Floods over whole runs.
use Rattle.std.proofs.Common.{◌≡◌, ℕ, ◌≤◌, ◌<◌, Bool, true, false, ◌&&◌, ◌||◌, List, [], ◌∷◌, ◌++◌, length, Some, unwrap_or, refl, sym, ap, ◌∙◌, arith, inl, inr, ◌⊎◌, subst, true≢false}
use Rattle.std.specs.Prelude.{◌↔◌, slice_get, sum, nat_lt, nat_le}
use Rattle.std.specs.List.{AllByRecursion}
use Rattle.std.proofs.lemmas.Bool.{ltb-true, lt-ltb, leb-true, le-leb}
use Rattle.std.proofs.lemmas.Option.{slice_get_within}
use Rattle.alm_types.specs.declared.action.Action.{Action}
use Rattle.alm_model.specs.Plant.{Condensed}
use Rattle.alm_model.specs.Rules.{KeepsRules, AreAdmitted}
use Rattle.alm_model.specs.Step.{step, run}
use Rattle.alm_model.proofs.Kept.{there, step-keeps}
use Rattle.alm_model.proofs.Runs.{run_sizes}
use Rattle.alm_laws.specs.Floods.{flag_of, window_in, windows_after, flagged_after, HoldsSinceAbove10}
use Rattle.alm_laws.specs.Listed.{is_flooded_by}
use Rattle.alm_laws.proofs.Measuring.{flood-so}

abbrev first-or : ℕ → List ℕ → ℕ
first-or n [] = n
first-or n (x ∷ xs) = x

abbrev rest-of : List ℕ → List ℕ
rest-of [] = []
rest-of (x ∷ xs) = xs

abbrev AtLeast5 : List ℕ → Type 0
AtLeast5 ws = AllByRecursion (λ w. 5 ≤ w) ws

no-parts : {A : Type 0} (before later : List ℕ) (w : ℕ) → [] ≡ before ++ w ∷ later → A
no-parts [] later w e = absurd (omega (arith, ap length e))
no-parts (x ∷ before) later w e = absurd (omega (arith, ap length e))

raised : (w : ℕ) (b : Bool) → 10 < w → is_flooded_by w b ≡ true
raised w b l = rw (lt-ltb 10 w l) refl

or-true : (x : Bool) → (x || true) ≡ true
or-true true = refl
or-true false = refl

held : (w : ℕ) (b : Bool) → b ≡ true → 5 ≤ w → is_flooded_by w b ≡ true
held w b e l = rw (e, le-leb 5 w l) (or-true (nat_lt 10 w))

either-way : (x b y : Bool) → (x || b && y) ≡ true → (x ≡ true) ⊎ ((b ≡ true) × (y ≡ true))
either-way true b y e = inl refl
either-way false true true e = inr (refl, refl)
either-way false true false e = absurd (true≢false (sym e))
either-way false false y e = absurd (true≢false (sym e))

-- a flag that was set holds while no window is below 5; one is set by a window above 10
since-so : (ws : List ℕ) (b : Bool) → flagged_after b ws ≡ true → ((b ≡ true) × AtLeast5 ws) ⊎ HoldsSinceAbove10 ws
since-so [] b e = inl (e, tt)
since-so (w ∷ ws) b e = elim (since-so ws (is_flooded_by w b) e) [
  | inl h ↦ elim (either-way (nat_lt 10 w) b (nat_le 5 w) h.0) [
    | inl above ↦ inr ([], w, ws, refl, ltb-true 10 w above, h.1)
    | inr kept ↦ inl (kept.0, (leb-true 5 w kept.1, h.1))
  ]
  | inr (before, v, later, parts, above, all) ↦ inr (w ∷ before, v, later, ap (λ l. w ∷ l) parts, above, all)
]

since-held : (ws : List ℕ) (b : Bool) → b ≡ true → AtLeast5 ws → flagged_after b ws ≡ true
since-held [] b e all = e
since-held (w ∷ ws) b e all = since-held ws (is_flooded_by w b) (held w b e all.0) all.1

since-above : (ws : List ℕ) (b : Bool) (before later : List ℕ) (v : ℕ) → ws ≡ before ++ v ∷ later → 10 < v → AtLeast5 later → flagged_after b ws ≡ true
since-above [] b before later v e above all = no-parts before later v e
since-above (w ∷ ws) b [] later v e above all =
    let same : w ≡ v = ap (first-or 0) e in
    let rest : ws ≡ later = ap rest-of e in
    since-held ws (is_flooded_by w b) (raised w b (omega (arith, same, above))) (subst AtLeast5 (sym rest) all)
since-above (w ∷ ws) b (x ∷ before) later v e above all = since-above ws (is_flooded_by w b) before later v (ap rest-of e) above all

-- ---- the windows of a run

run-flag : (q : Condensed) (actions : List Action) (area : ℕ) (b : Bool) → KeepsRules q → AreAdmitted q actions → slice_get q.floods area ≡ Some b
    → flag_of (run q actions) area ≡ flagged_after b (windows_after q actions area)
run-flag q [] area b h all e = ap (λ o. unwrap_or o false) e
run-flag q (a ∷ actions) area b h all e =
    let keeps : KeepsRules (step q a) = step-keeps q a h all.0 all.1 in
    let within : area < length q.floods = slice_get_within q.floods area b e in
    let ages = there (step q a).kept.ages area (let sizes = (run_sizes q (a ∷ []) h.measured).1 in let same = keeps.measured in omega (arith, sizes, same, within)) in
    let flag = flood-so q a area ages.0 b ages.1 e in
    let window : window_in (step q a) area ≡ sum ages.0 = ap (λ o. sum (unwrap_or o [])) ages.1 in
    run-flag (step q a) actions area (is_flooded_by (sum ages.0) b) keeps all.2 flag
    ∙ ap (λ w. flagged_after (is_flooded_by w b) (windows_after (step q a) actions area)) (sym window)

pub flood-since : (q : Condensed) (actions : List Action) (area : ℕ) → KeepsRules q → AreAdmitted q actions → slice_get q.floods area ≡ Some false
    → (flag_of (run q actions) area ≡ true) ↔ HoldsSinceAbove10 (windows_after q actions area)
flood-since q actions area h all e = (
  λ f. elim (since-so (windows_after q actions area) false (sym (run-flag q actions area false h all e) ∙ f)) [
    | inl was ↦ absurd (true≢false (sym was.0))
    | inr holds ↦ holds
  ],
  λ (before, v, later, parts, above, more). run-flag q actions area false h all e ∙ since-above (windows_after q actions area) false before later v parts above more,
)
