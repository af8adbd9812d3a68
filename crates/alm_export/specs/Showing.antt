-- What is shown of a plant.
use Rattle.std.specs.Prelude.{◌≡◌, ℕ, List, [], ◌++◌, length, codes, decimal, slice_get, Option, Some, None, Result, Ok, Err, ⊤}
use Rattle.std.specs.List.{flat_map, range_with_len}
use Rattle.alm_types.specs.declared.attr.Attr.{Attr}
use Rattle.alm_types.specs.declared.refusal.Refusal.{Refusal}
use Rattle.alm_types.specs.declared.query.Query.TheVariants.{State, Priority, Area, Flood}
use Rattle.alm_types.specs.Reports.{Report}
use Rattle.alm_types.specs.Counts.{one_more}
use Rattle.alm_model.specs.Plant.{Condensed}
use Rattle.alm_model.specs.Look.{look}
use Rattle.alm_lines.specs.Reply.{report_text}
use Rattle.alm_export.specs.declared.show_fault.ShowFault.{ShowFault}
use Rattle.alm_export.specs.declared.show_fault.ShowFault.TheVariants.{Write, OutOfMemory}

-- what a plant answers, between words
abbrev pub told_between : List ℕ → List ℕ → Result Report Refusal → List ℕ
told_between front end (Ok told) = front ++ report_text told ++ end
told_between front end (Err refusal) = []

-- the line of an alarm
abbrev pub alarm_line_of : ℕ → Result Report Refusal → Option Attr → List ℕ
alarm_line_of i said None = []
alarm_line_of i said (Some a) = told_between (codes "ALARM " ++ decimal i ++ codes " " ++ a.tag) (codes "\n") said

abbrev pub alarm_line : Condensed → ℕ → List ℕ
alarm_line q i = alarm_line_of i (look q (State (record { 0 = i }))) (slice_get q.panel.attrs i)

-- the line of a priority
abbrev pub priority_line : Condensed → ℕ → List ℕ
priority_line q p = told_between (codes "P " ++ decimal p) (codes "\n") (look q (Priority p))

-- the line of an area
abbrev pub area_line : Condensed → ℕ → List ℕ
area_line q a = told_between (codes "A " ++ decimal a) (codes " FLOOD") (look q (Area a)) ++ told_between [] (codes "\n") (look q (Flood a))

abbrev pub head_line : Condensed → ℕ → List ℕ
head_line q epoch = codes "NOW " ++ (decimal q.panel.now ++ (codes " COUNT " ++ (decimal q.panel.count ++ (codes " EPOCH " ++ (decimal epoch ++ codes "\n")))))

-- the plant
abbrev pub plant_text : Condensed → ℕ → List ℕ
plant_text q epoch =
    head_line q epoch
    ++ flat_map (alarm_line q) (range_with_len 0 (length q.panel.rows))
    ++ flat_map (priority_line q) (range_with_len 1 4)
    ++ flat_map (area_line q) (range_with_len 0 (length q.floods))

-- a fault is counted exactly if it came
abbrev pub CountsShow : Result ⊤ ShowFault → (failed failed_now refused refused_now : ℕ) → Type 0
CountsShow (Ok _) f g r s = (g ≡ f) × (s ≡ r)
CountsShow (Err Write) f g r s = (g ≡ one_more f) × (s ≡ r)
CountsShow (Err OutOfMemory) f g r s = (g ≡ f) × (s ≡ one_more r)
