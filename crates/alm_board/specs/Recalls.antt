-- For the proofs.
-- What a look at what happened returns.
use Rattle.std.specs.Prelude.{◌≡◌, ◌+◌, ℕ, List, Option, Result, Ok, Err, true, false, length}
use Rattle.alm_types.specs.declared.event.Event.{Event}
use Rattle.alm_types.specs.declared.logged_action.LoggedAction.{LoggedAction}
use Rattle.alm_types.specs.declared.refusal.Refusal.{Refusal}
use Rattle.alm_types.specs.Counts.{one_more}
use Rattle.alm_types.specs.declared.refusal.Refusal.TheVariants.{Forgotten, Stopped}
use Rattle.alm_model.specs.Plant.{Condensed}
use Rattle.alm_events.specs.Events.{told_after, is_remembered, asked_after}
use Rattle.alm_events.specs.declared.recalled.Recalled.{Recalled}
use Rattle.alm_board.specs.PrefixesOf.{IsPrefixOf}

-- of a list, the events after a number are reported, with the number of the first and the count of the plant
pub record TellsAfter (base : Condensed) (list : List LoggedAction) (n : ℕ) (events : List Event) (told : Recalled) : Type 0 where
  pub remembered : is_remembered base list n ≡ true
  pub events_are : events ≡ told_after base list n
  pub first : told.first ≡ one_more n
  pub count : told.count ≡ base.panel.count + length list

-- from a base plant, by the lists known before and after. Reported is what comes after a number in the list known after. It is forgotten
-- by a later list, and the known list stays. If the board's owner has ended nothing changes
abbrev pub RecallAnswers : Condensed → (old new : List LoggedAction) → Option ℕ → (before after : List Event) → Result Recalled Refusal → Type 0
RecallAnswers base old new n before after (Ok told) = TellsAfter base new (asked_after base new n) after told
RecallAnswers base old new n before after (Err Forgotten) = (new ≡ old) × (after ≡ before) × ((list : List LoggedAction) × (IsPrefixOf old list × (is_remembered base list (asked_after base list n) ≡ false)))
RecallAnswers base old new n before after (Err Stopped) = (new ≡ old) × (after ≡ before)
RecallAnswers base old new n before after (Err refusal) = ⊥
