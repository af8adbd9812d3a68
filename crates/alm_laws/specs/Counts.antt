-- What the measures count: annunciations of the whole history.
use Rattle.std.specs.Prelude.{ℕ, ◌+◌, List, ◌&&◌, ◌==◌, nat_lt, count_by, filter, map, take}
use Rattle.alm_model.specs.Plant.{RecordedPlant}
use Rattle.alm_model.specs.Keeping.{area_of}

-- how many annunciations an area's alarms had within the last seconds
abbrev pub annunciated_within : ℕ → RecordedPlant → ℕ → ℕ
annunciated_within seconds p area = count_by (λ x. (area_of p.panel x.alarm == area) && nat_lt p.panel.now (x.moment + seconds)) p.kept

-- the last three moments at which an alarm was annunciated, the newest first
abbrev pub last_three : RecordedPlant → ℕ → List ℕ
last_three p i = take 3 (map (λ x. x.moment) (filter (λ x. x.alarm == i) p.kept))
