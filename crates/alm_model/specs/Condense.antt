-- What is condensed of a plant.
use Rattle.std.specs.Prelude.{ℕ, ◌+◌, ◌≤◌, List, [], ◌∷◌, ◌&&◌, take, map, filter, length, count_by, ◌==◌}
use Rattle.std.specs.List.{range_with_len, AllByRecursion}
use Rattle.alm_model.specs.Plant.{Panel, RecordedPlant, Condensed, History}
use Rattle.alm_model.specs.Keeping.{area_of}

-- how many annunciations of an area are of an age
abbrev pub of_age : Panel → History → ℕ → ℕ → ℕ
of_age p history area age = count_by (λ a. (area_of p a.alarm == area) && (a.moment + age == p.now)) history

-- an alarm's moments, the newest first
abbrev pub moments_of : History → ℕ → List ℕ
moments_of history i = map (λ a. a.moment) (filter (λ a. a.alarm == i) history)

-- the whole plant, condensed
abbrev pub condense : RecordedPlant → Condensed
condense q = record {
  panel = q.panel;
  kept = record {
    ages = map (λ area. map (of_age q.panel q.kept area) (range_with_len 0 600)) (range_with_len 0 (length q.floods));
    moments = map (λ i. take 3 (moments_of q.kept i)) (range_with_len 0 (length q.panel.attrs));
  };
  floods = q.floods;
}

-- the annunciations as a plant has them, the newest first: none is later than now, and each is no later than the one
-- before it in the list
abbrev pub IsRecorded : ℕ → History → Type 0
IsRecorded now [] = Unit {0}
IsRecorded now (a ∷ history) = (a.moment ≤ now) × IsRecorded a.moment history

-- no annunciation is later than now
abbrev pub IsPast : ℕ → History → Type 0
IsPast now history = AllByRecursion (λ a. a.moment ≤ now) history
