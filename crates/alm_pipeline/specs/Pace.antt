-- How often the device calls of a held batch's commit return More.
use Rattle.std.specs.Prelude.{◌≡◌, ◌<◌, ◌≤◌, ℕ, List, [], ◌∷◌, length, All}
use Rattle.alm_types.specs.declared.entry.Entry.{Entry}
use Rattle.alm_types.specs.Sizes.{most_entries}
use Rattle.alm_pipeline.specs.declared.step.Step.{Step}
use Rattle.alm_pipeline.specs.declared.step.Step.TheVariants.{Fetch, Call}
use Rattle.alm_pipeline.specs.declared.step_event.StepEvent.{StepEvent}
use Rattle.alm_pipeline.specs.declared.step_event.StepEvent.TheVariants.{Fetched, More}
use Rattle.alm_pipeline.specs.World.{World, IsHeld, after_step, entries_at}

-- How often at most. A commit is at most 647 device calls, the last of which doesn't return More: a checkpoint may be open, and
-- another one may have to make the room
abbrev pub most_more : ℕ
most_more = 646

-- how often a step of a batch's commit returns More before the call that ends it, at most
module _ (calls : ℕ) where
  -- How many more steps of the fetched batch's commit return More, at most: at first as many as for any batch, and one less after
  -- each. The world doesn't know this.
  abbrev pub Paces : World → Step → StepEvent → (more more' : ℕ) → Type 0
  Paces w Fetch Fetched more more' = more' ≤ calls
  Paces w Call More more more' = IsHeld w.stage → more' < more
  Paces w step event more more' = more' ≤ more

  -- so of each step of a run
  abbrev pub PacesAll : World → (more : ℕ) → List Step → List StepEvent → (last : ℕ) → Type 0
  PacesAll w more [] [] last = last ≡ more
  PacesAll w more (step ∷ steps) (event ∷ trace) last = (next : ℕ) × Paces w step event more next × PacesAll (after_step w step event) next steps trace last
  PacesAll w more [] (event ∷ trace) last = ⊥
  PacesAll w more (step ∷ steps) [] last = ⊥

-- no batch has more entries than fit
abbrev pub FitsBatch : List Entry → Type 0
FitsBatch entries = length entries ≤ most_entries

abbrev pub FitsBatches : World → Type 0
FitsBatches w = FitsBatch w.taking × All FitsBatch w.sealed × FitsBatch (entries_at w.stage)
