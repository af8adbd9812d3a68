-- What a shared board shows, and what was handed to it.
use Rattle.std.specs.Prelude.{List, drop, length}
use Rattle.left_right.specs.declared.Absorb as A
use Rattle.alm_types.specs.declared.logged_action.LoggedAction.{LoggedAction}
use Rattle.alm_model.specs.declared.alarms.Alarms as M
use Rattle.alm_moments.specs.declared.run_id.RunId.{Ghosts}
use Rattle.alm_shared.specs.declared.shown_plant.ShownPlant.{ShownPlant}
use Rattle.alm_shared.specs.declared.append_step.AppendStep.{AppendStep}
use Rattle.alm_shared.specs.declared.next_shown.NextShown as G
use Rattle.alm_shared.specs.declared.publisher.Publisher.{Publisher}
use Rattle.alm_shared.specs.Publishers.{published}

module _ {J P : Type 0} {g : Ghosts J} {m : M.Ghosts P} {a : A.Ghosts (ShownPlant J P g m) (AppendStep J g) (List LoggedAction)} {x : G.Ghosts (List LoggedAction)} where
  abbrev pub board_shown : Publisher (ShownPlant J P g m) (AppendStep J g) (List LoggedAction) (List LoggedAction) a x → List LoggedAction
  board_shown b = (published b).told.prefix

  -- all later actions that the history holds, handed over or not
  abbrev pub board_pending : Publisher (ShownPlant J P g m) (AppendStep J g) (List LoggedAction) (List LoggedAction) a x → List LoggedAction
  board_pending b = drop (length (board_shown b)) b.extra
