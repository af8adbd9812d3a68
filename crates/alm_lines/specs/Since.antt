-- The reply to SINCE: what happened after a number.
use Rattle.std.specs.Prelude.{ℕ, ◌<◌, ◌^◌, List, ◌∷◌, ◌++◌, codes, decimal, length}
use Rattle.std.specs.List.{flat_map}
use Rattle.alm_types.specs.Actions.{IsAction, alarm_of}
use Rattle.alm_types.specs.Sizes.{most_alarms, slot_count}
use Rattle.alm_types.specs.declared.event.Event.{Event}
use Rattle.alm_lines.specs.Texts.{action_words}

-- an accepted action: the moment, the slot, and the request as its line had it, without an id
abbrev pub event_text : Event → List ℕ
event_text e = 32 ∷ (decimal e.moment ++ 32 ∷ (decimal e.slot ++ 32 ∷ action_words e.action))

-- under an id the count of the plant, the number of the first one that is reported, and how many they are
abbrev pub since_head : ℕ → ℕ → ℕ → ℕ → List ℕ
since_head id n first len = decimal id ++ codes " SINCE " ++ decimal n ++ codes " " ++ decimal first ++ codes " " ++ decimal len

-- and then these, whose numbers follow one another
abbrev pub recalled_text : ℕ → ℕ → ℕ → List Event → List ℕ
recalled_text id n first events = since_head id n first (length events) ++ flat_map event_text events ++ codes "\n"

-- the numbers of an event are within their types
pub record IsEvent (e : Event) : Type 0 where
  pub moment : e.moment < 2 ^ 40
  pub slot : e.slot < slot_count
  pub action : IsAction e.action

-- and its alarm, if it names one, may be in a plant
pub record IsOfPlant (e : Event) : Type 0 where
  pub event : IsEvent e
  pub alarm : alarm_of e.action < most_alarms
