-- What a reader has seen by a look.
use Rattle.std.specs.Prelude.{◌≡◌, ◌⊎◌, ◌+◌, ◌<◌, ℕ, List, Option, Some, false, length}
use Rattle.alm_types.specs.declared.logged_action.LoggedAction.{LoggedAction}
use Rattle.alm_types.specs.Counts.{one_more}
use Rattle.alm_model.specs.Plant.{Condensed}
use Rattle.alm_events.specs.Events.{asked_after, is_remembered}
use Rattle.alm_shared.specs.declared.reader_sight.ReaderSight.{ReaderSight}

-- it looked once, and this list was published then
abbrev pub HasLooked : Option ReaderSight → Option ReaderSight → List LoggedAction → Type 0
HasLooked (Some old) (Some new) list = (new.looks ≡ old.looks + 1) × (new.seen ≡ list)
HasLooked old new list = ⊥

-- from a base plant, it looked once, and the list that was published then doesn't remember what came after a number
abbrev pub HasForgotten : Condensed → Option ℕ → Option ReaderSight → Option ReaderSight → Type 0
HasForgotten base after (Some old) (Some new) = (new.looks ≡ old.looks + 1) × (is_remembered base new.seen (asked_after base new.seen after) ≡ false)
HasForgotten base after old new = ⊥

-- it was turned back: the board's owner was gone, and that was counted; or a list was published that is shorter than the known one,
-- which no run has
abbrev pub WasTurnedBack : (gone later known : ℕ) → Option ReaderSight → Option ReaderSight → Type 0
WasTurnedBack gone later known old new = (later ≡ one_more gone) ⊎ ((list : List LoggedAction) × HasLooked old new list × (length list < known))
