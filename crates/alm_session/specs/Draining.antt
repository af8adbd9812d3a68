-- Receipts that are dropped.
use Rattle.std.specs.Prelude.{◌≡◌, ◌≤◌, ◌+◌, ◌⊎◌, List, ◌++◌, length, map}
use Rattle.alm_types.specs.declared.action.Action.{Action}
use Rattle.alm_types.specs.Sizes.{most_out}
use Rattle.alm_model.specs.Plant.{Condensed}
use Rattle.alm_rings.specs.declared.console.Console.{Console}
use Rattle.alm_rings.specs.declared.told.Told.{Ghosts}
use Rattle.alm_rings.specs.Ends.{received_of, sent_of}
use Rattle.alm_session.specs.Sides.{IsQuiet, heard_by}
use Rattle.alm_session.specs.Turns.{unasked, LearnsAll, no_looks}
use Rattle.alm_session.specs.Unanswered.{Heard}

-- receipts are received, and all that they report is learnt
pub record IsDrained (base : Condensed) (known : List Action) (heard : List Heard) (knows : List Action) (heards : List Heard) : Type 0 where
  pub got : List Heard
  pub all : heards ≡ heard ++ got
  pub learnt : LearnsAll no_looks base known (map unasked got) knows

module _ {T : Type 0} {g : Ghosts T} where
  -- all receipts that could wait were received: none is known to wait any more, or as many came as a slot may have out
  abbrev pub HasReceivedAll : (before after : Console T g) → Type 0
  HasReceivedAll before after = IsQuiet after ⊎ (length (received_of before) + most_out ≤ length (received_of after))

  -- all receipts that could wait are received and dropped, and nothing is sent
  abbrev pub DropsReceipts : Condensed → (knew knows : List Action) → (before after : Console T g) → Type 0
  DropsReceipts base knew knows before after =
      (sent_of after ≡ sent_of before) × IsDrained base knew (heard_by before) knows (heard_by after) × HasReceivedAll before after
