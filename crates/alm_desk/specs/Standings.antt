-- The state of a desk, by its parts.
use Rattle.std.specs.Prelude.{[]}
use Rattle.alm_desk.specs.Answers.{DeskState, standing_of}
use Rattle.alm_desk.specs.declared.backend.Backend
use Rattle.alm_desk.specs.declared.notebook.Notebook.{Notebook}

module _ {B : Type 0} (b : Backend.Ghosts B) where
  -- the state of a desk over this backend, with this notebook
  abbrev pub standing_with : B → Notebook → DeskState
  standing_with backend notebook = standing_of (b.stands backend) (b.kept backend) (b.failures backend) notebook.answer.refused notebook.recent

  -- the state of a desk over this backend at which nothing has happened
  abbrev pub first_standing : B → DeskState
  first_standing backend = standing_of (b.stands backend) (b.kept backend) (b.failures backend) 0 []
