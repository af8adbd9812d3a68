-- What is reported of the accepted actions of a plant.
use Rattle.std.specs.Prelude.{ℕ, ◌+◌, ◌-◌, List, [], ◌∷◌, Bool, Option, unwrap_or, nat_le, length, take, drop}
use Rattle.alm_types.specs.declared.event.Event.{Event}
use Rattle.alm_types.specs.declared.logged_action.LoggedAction.{LoggedAction}
use Rattle.alm_model.specs.Plant.{Condensed}
use Rattle.alm_model.specs.Step.{step}

-- how many accepted actions are remembered, and how many of them one reply reports
abbrev pub most_kept : ℕ
most_kept = 65536

abbrev pub most_told : ℕ
most_told = 256

-- an accepted action, with the moment of the plant after it
abbrev pub told_event : Condensed → LoggedAction → Event
told_event q l = record { moment = q.panel.now; slot = l.slot; action = l.action }

-- accepted actions from a plant on
abbrev pub events_from : Condensed → List LoggedAction → List Event
events_from q [] = []
events_from q (l ∷ logged) = told_event (step q l.action) l ∷ events_from (step q l.action) logged

-- the last of a list
abbrev pub last : {A : Type 0} → ℕ → List A → List A
last k xs = drop (length xs - k) xs

-- the smallest number after which each accepted action is remembered: it came after the opening, and is among the last that came
abbrev pub oldest : Condensed → List LoggedAction → ℕ
oldest base logged = base.panel.count + (length logged - most_kept)

-- the number after which is reported, if one was asked
abbrev pub asked_after : Condensed → List LoggedAction → Option ℕ → ℕ
asked_after base logged after = unwrap_or after (oldest base logged)

-- what is reported of those after number n: the next ones, at most 256
abbrev pub told_after : Condensed → List LoggedAction → ℕ → List Event
told_after base logged n = take most_told (drop (n - base.panel.count) (events_from base logged))

-- whether each accepted action after number n is remembered
abbrev pub is_remembered : Condensed → List LoggedAction → ℕ → Bool
is_remembered base logged n = nat_le (oldest base logged) n
