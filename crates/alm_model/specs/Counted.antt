-- What is counted from all annunciations.
use Rattle.std.specs.Prelude.{◌≡◌, ℕ, ◌+◌, List, [], ◌&&◌, filter, length, map, sum, count_by, fold, nat_le, nat_lt, ◌==◌}
use Rattle.std.specs.List.{range_with_len}
use Rattle.alm_types.specs.Tables.{Listing}
use Rattle.alm_types.specs.declared.action.Action.{Action}
use Rattle.alm_model.specs.Plant.{Panel, RecordedPlant, Condensed, History}
use Rattle.alm_model.specs.Lists.{alarms, stands_in, is_old, list_of}
use Rattle.alm_model.specs.declared.list.List.TheVariants.{Stale, Chatter}
use Rattle.alm_model.specs.Condense.{condense, moments_of}
use Rattle.alm_model.specs.Keeping.{window_of}
use Rattle.alm_model.specs.New.{new_plant}
use Rattle.alm_model.specs.Step.{after}

-- a new plant, whole
abbrev pub new_whole : Listing → RecordedPlant
new_whole t = record { panel = (new_plant t).panel; kept = []; floods = (new_plant t).floods }

-- the whole plant after actions
abbrev pub run_whole : RecordedPlant → List Action → RecordedPlant
run_whole p actions = fold after p actions

-- the annunciations of an alarm within the last minute
abbrev pub last_minute : Panel → History → ℕ → ℕ
last_minute p history i = count_by (λ a. (a.alarm == i) && nat_lt p.now (a.moment + 60)) history

-- the alarms with three of them or more, by number
abbrev pub chattering : RecordedPlant → List ℕ
chattering p = filter (λ i. nat_le 3 (last_minute p.panel p.kept i)) (range_with_len 0 (length p.panel.rows))

-- the annunciated alarms of which the last annunciation was a day ago or earlier, by number
abbrev pub stale : RecordedPlant → List ℕ
stale p = filter (λ i. is_old p.panel.now (moments_of p.kept i)) (alarms (stands_in Stale) p.panel.attrs p.panel.rows)

-- a condensed plant is that of a whole one, and measures what is counted
pub record IsCounted (p : RecordedPlant) (q : Condensed) : Type 0 where
  pub same : condense p ≡ q
  pub windows : map sum q.kept.ages ≡ map (window_of p.panel p.kept) (range_with_len 0 (length p.floods))
  pub floods : q.floods ≡ p.floods
  pub chatter : list_of Chatter q ≡ chattering p
  pub stale : list_of Stale q ≡ stale p
