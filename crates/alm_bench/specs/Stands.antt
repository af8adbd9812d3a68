-- A bench that has the state of a world.
use Rattle.std.specs.Prelude.{◌≡◌, ◌≤◌, ℕ, List, length, true, false, []}
use Rattle.alm_disk.specs.declared.disk.Disk
use Rattle.alm_keeper.specs.declared.keeper.Keeper.{Keeper}
use Rattle.alm_store.specs.declared.store.Store.{Ghosts}
use Rattle.alm_keeper.specs.AsStore.{StandsFor, IsLastEpoch}
use Rattle.alm_bench.specs.declared.setup.Setup as T
use Rattle.alm_bench.specs.declared.setup.Setup.TheVariants.{Open, Shut, Gone}
use Rattle.alm_bench.specs.declared.bench.Bench.{Bench}
use Rattle.alm_store.specs.Calls.{OpensBy, IsRefusedBy}
use Rattle.alm_pipeline.specs.declared.step_event.StepEvent.{StepEvent}
use Rattle.alm_pipeline.specs.declared.step_event.StepEvent.TheVariants.{Opened, Unopened}
use Rattle.alm_pipeline.specs.declared.step.Step.{Step}
use Rattle.alm_pipeline.specs.World.{World, Answers, after_step}
use Rattle.alm_pipeline.specs.Pace.{FitsBatches, Paces, PacesAll, most_more}
use Rattle.alm_pipeline.specs.Headline.{Headline, IsRun, Moves, Sight, after_steps, device_alone}
use Rattle.alm_progress.specs.Progress.{AreReceived, AreRounds, LosesNothing, NoneFails, left_to_do, steps_of}
use Rattle.alm_pipeline.specs.Matches.{CallsSurely, EndsAfter, MatchesOpenWorld, sight_in}

module _ {D : Type 0} {g : Ghosts (Keeper D) D} {d : Disk.Ghosts D} where
  -- its device is honest: an open bench has the world's pipeline; of a closed one each image encodes what the world has
  abbrev pub IsSetup : World → T.Setup D D g d → Type 0
  IsSetup w (Open pipeline) = MatchesOpenWorld w pipeline × d.honest (g.disk pipeline.flusher.store)
  IsSetup w (Shut disk) = (w.closed ≡ true) × d.honest disk × Headline StandsFor IsLastEpoch w (d.state disk)
  IsSetup w Gone = ⊥

  abbrev pub MatchesBench : World → Bench D D g d → Type 0
  MatchesBench w bench = IsSetup w bench.setup

  -- its device
  abbrev pub sight : (refused : ℕ) → T.Setup D D g d → Sight
  sight refused (Open pipeline) = sight_in refused pipeline
  sight refused (Shut disk) = device_alone (d.state disk) (d.failures disk) refused
  sight refused Gone = device_alone (record { bytes = []; pending = λ _. false; faulted = false }) 0 refused

  abbrev pub bench_sight : Bench D D g d → Sight
  bench_sight bench = sight bench.answer.refused bench.setup

  -- it has its device: it isn't in the middle of a step
  abbrev pub IsThere : T.Setup D D g d → Type 0
  IsThere (Open pipeline) = Unit {0}
  IsThere (Shut disk) = Unit {0}
  IsThere Gone = ⊥

  abbrev pub HasDevice : Bench D D g d → Type 0
  HasDevice bench = IsThere bench.setup

  -- that device does what its trait says
  abbrev pub serves_well : T.Setup D D g d → Type 0
  serves_well (Open pipeline) = d.honest (g.disk pipeline.flusher.store)
  serves_well (Shut disk) = d.honest disk
  serves_well Gone = ⊥

  abbrev pub IsHonest : Bench D D g d → Type 0
  IsHonest bench = serves_well bench.setup

  -- its next device call begins no checkpoint: work is under way, or the held batch is taken
  abbrev pub is_sure : T.Setup D D g d → Type 0
  is_sure (Open pipeline) = CallsSurely pipeline
  is_sure (Shut disk) = ⊥
  is_sure Gone = ⊥

  abbrev pub NextIsSure : Bench D D g d → Type 0
  NextIsSure bench = is_sure bench.setup

  -- The commit of the batch that it holds, if it holds one, ends after at most this number of calls that return More. No batch has
  -- more entries than fit
  abbrev pub ends_after : (more : ℕ) → World → T.Setup D D g d → Type 0
  ends_after more w (Open pipeline) = EndsAfter more w pipeline
  ends_after more w (Shut disk) = FitsBatches w
  ends_after more w Gone = ⊥

  abbrev pub IsPaced : (more : ℕ) → World → Bench D D g d → Type 0
  IsPaced more w bench = ends_after more w bench.setup

  -- this step with this answer meets the pace, and leaves a bench that is paced
  abbrev pub steps_paced : World → Step → StepEvent → (more : ℕ) → T.Setup D D g d → Type 0
  steps_paced w step event more setup = (next : ℕ) × Paces most_more w step event more next × ends_after next (after_step w step event) setup

  abbrev pub StepsPaced : World → Step → StepEvent → (more : ℕ) → Bench D D g d → Type 0
  StepsPaced w step event more bench = steps_paced w step event more bench.setup

  -- it was opened over this device by a sync and reads, and no other calls were made on it
  abbrev pub OpensFrom : D → T.Setup D D g d → Type 0
  OpensFrom from (Open pipeline) = OpensBy d.serves from (g.disk pipeline.flusher.store)
  OpensFrom from (Shut disk) = ⊥
  OpensFrom from Gone = ⊥

  abbrev pub IsOpenedFrom : D → Bench D D g d → Type 0
  IsOpenedFrom from bench = OpensFrom from bench.setup

  -- a reopening: so too, or its sync and reads end in the fault that is returned; a bench that isn't closed stays as it
  -- is
  abbrev pub Reopens : T.Setup D D g d → StepEvent → T.Setup D D g d → Type 0
  Reopens (Shut disk) (Opened count) new = OpensFrom disk new
  Reopens (Shut disk) (Unopened fault) (Shut back) = IsRefusedBy fault d.serves disk back
  Reopens (Shut disk) event new = ⊥
  Reopens (Open pipeline) event new = new ≡ Open pipeline
  Reopens Gone event new = Unit {0}

  abbrev pub IsReopened : Bench D D g d → StepEvent → Bench D D g d → Type 0
  IsReopened old event new = Reopens old.setup event new.setup

  -- one step of the bench is a step of the world, with this answer, also for its device. The bench then has the world after it, and
  -- so does whatever a crash leaves
  pub record IsWorldStep (w : World) (step : Step) (event : StepEvent) (old new : Bench D D g d) : Type 0 where
    pub answer : Answers w step event
    pub moves : Moves StandsFor IsLastEpoch w step event (bench_sight old) (bench_sight new)
    pub stands : MatchesBench (after_step w step event) new
    pub headline : Headline StandsFor IsLastEpoch (after_step w step event) (bench_sight new).state
    -- the commit of a held batch ends: at most `most_more` of its calls return More, and each leaves one less
    pub paces : (more : ℕ) → IsPaced more w old → StepsPaced w step event more new

  -- these steps are a run of the world, with this trace
  pub record IsWorldRun (w : World) (steps : List Step) (trace : List StepEvent) (old new : Bench D D g d) : Type 0 where
    pub run : IsRun StandsFor IsLastEpoch w (bench_sight old) steps trace (bench_sight new)
    pub stands : MatchesBench (after_steps w steps trace) new
    -- each commit in it ends: at most `most_more` of a batch's calls return More
    pub paces : (more : ℕ) → IsPaced more w old → (last : ℕ) × PacesAll most_more w more steps trace last × IsPaced last (after_steps w steps trace) new
    -- so every fair schedule answers all. If the steps are as many rounds as steps were left, and no call fails, each request that was
    -- sent before them is received
    pub answered : (slots more : ℕ) (rounds : List (List Step)) → IsPaced more w old → LosesNothing w → AreRounds slots most_more rounds
        → left_to_do slots most_more w more ≤ length rounds → steps ≡ steps_of rounds → NoneFails trace → AreReceived slots most_more w (after_steps w steps trace)
