-- A stack, and which plants its device encodes.
use Rattle.std.specs.Prelude.{◌≡◌, ℕ, List, [], ◌∷◌, length, Option, Some, None, Result, Ok, Err, slice_get}
use Rattle.alm_types.specs.declared.request.Request.{Request}
use Rattle.alm_model.specs.Accept.{accept}
use Rattle.alm_model.specs.Plant.{Condensed}
use Rattle.alm_disk.specs.declared.disk.Disk
use Rattle.alm_rings.specs.declared.told.Told.{Ghosts as ToldGhosts}
use Rattle.alm_rings.specs.declared.console.Console.{Console}
use Rattle.alm_rings.specs.Ends.{sent_of}
use Rattle.alm_store.specs.declared.store.Store.{Ghosts}
use Rattle.alm_seq.specs.Sequences.{live_of}
use Rattle.alm_desk.specs.Backends.{if_accepted}
use Rattle.alm_desk.specs.declared.judged_request.JudgedRequest.{JudgedRequest}
use Rattle.alm_desk.specs.declared.stopped.Stopped.{Stopped}
use Rattle.alm_types.specs.declared.query.Query.{Query}
use Rattle.alm_types.specs.declared.refusal.Refusal.{Refusal}
use Rattle.alm_pipeline.specs.declared.step.Step.TheVariants.{Look}
use Rattle.alm_pipeline.specs.declared.step_event.StepEvent.TheVariants.{Looked}
use Rattle.alm_pipeline.specs.World.{World, Answers, after_step}
use Rattle.alm_stack.specs.Exchanges.{IsExchange, Rests}
use Rattle.alm_stack.specs.declared.stack.StackOver.{StackOver}

-- none from the request on at which the storage stopped
abbrev pub if_running : Option Request → Condensed → Option Condensed
if_running None live = Some live
if_running (Some r) live = None

-- the plant alone; after the storage has stopped, what was stored before, without the request's own action or with it
abbrev pub kept_at : Option Request → (live stored : Condensed) → List Condensed
kept_at None live stored = live ∷ []
kept_at (Some r) live stored = stored ∷ if_accepted stored (accept stored.panel r) ∷ []

module _ {T : Type 0} {t : ToldGhosts T} where
  abbrev pub sent_to : Option (Console T t) → ℕ
  sent_to None = 0
  sent_to (Some c) = length (sent_of c)

module _ {K D : Type 0} {g : Ghosts K D} {d : Disk.Ghosts D} where
  abbrev pub stands_of : StackOver K D g d → Option Condensed
  stands_of s = if_running s.halted (live_of s.pipeline.sequencer)

  abbrev pub kept_of : StackOver K D g d → List Condensed
  kept_of s = kept_at s.halted (live_of s.pipeline.sequencer) (g.state s.pipeline.flusher.store).stored

  -- its store
  abbrev pub store_of : StackOver K D g d → K
  store_of s = s.pipeline.flusher.store

  -- how many requests of a slot were sent
  abbrev pub serial_of : ℕ → StackOver K D g d → ℕ
  serial_of slot s = sent_to (slice_get s.pipeline.consoles.items slot)

  -- a stack that runs has a world's pipeline, with no request under way
  abbrev pub RunsIn : World → StackOver K D g d → Type 0
  RunsIn w s = (s.halted ≡ None) × Rests w s.pipeline

  -- a request is a run of that world's steps, of which the answer is the reply
  abbrev pub RunsThrough : World → Request → (old new : StackOver K D g d) → Result JudgedRequest Stopped → Type 0
  RunsThrough w r old new result = IsExchange w r.slot r.want old.pipeline new.pipeline result

  -- a query is a look of that world, under the count that it shows; a refused one changes nothing
  abbrev pub LooksThrough : World → Query → StackOver K D g d → Result ℕ Refusal → Type 0
  LooksThrough w query s (Ok count) = (slot : ℕ) → Answers w (Look slot query) (Looked count) × RunsIn (after_step w (Look slot query) (Looked count)) s
  LooksThrough w query s (Err why) = RunsIn w s
