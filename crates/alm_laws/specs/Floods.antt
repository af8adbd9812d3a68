-- Floods over whole runs.
use Rattle.std.specs.Prelude.{◌≡◌, ◌<◌, ◌≤◌, ℕ, List, [], ◌∷◌, ◌++◌, Bool, false, unwrap_or, slice_get, sum}
use Rattle.std.specs.List.{AllByRecursion}
use Rattle.alm_types.specs.declared.action.Action.{Action}
use Rattle.alm_model.specs.Plant.{Condensed}
use Rattle.alm_model.specs.Step.{step}
use Rattle.alm_laws.specs.Listed.{is_flooded_by}

-- the flag and the window of an area
abbrev pub flag_of : Condensed → ℕ → Bool
flag_of q area = unwrap_or (slice_get q.floods area) false

abbrev pub window_in : Condensed → ℕ → ℕ
window_in q area = sum (unwrap_or (slice_get q.kept.ages area) [])

-- an area's windows after each of these actions
abbrev pub windows_after : Condensed → List Action → ℕ → List ℕ
windows_after q [] area = []
windows_after q (a ∷ actions) area = window_in (step q a) area ∷ windows_after (step q a) actions area

-- a flag after these windows
abbrev pub flagged_after : Bool → List ℕ → Bool
flagged_after flag [] = flag
flagged_after flag (w ∷ windows) = flagged_after (is_flooded_by w flag) windows

-- one of the windows was above 10, and none after it was below 5
abbrev pub HoldsSinceAbove10 : List ℕ → Type 0
HoldsSinceAbove10 windows =
    (before : List ℕ) × (w : ℕ) × (later : List ℕ) × (windows ≡ before ++ w ∷ later) × (10 < w) × AllByRecursion (λ v. 5 ≤ v) later
