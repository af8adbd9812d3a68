-- A trace says of the world of its run: the accepted actions, and a part of the floor.
use Rattle.std.proofs.Common.{◌+◌, ◌≡◌, ◌≤◌, ◌==◌, if◌then◌else◌, ℕ, zero, suc, Bool, true, false, List, [], ◌∷◌, ◌++◌, length, Option, Some, None, slice_get, refl, sym, ◌∙◌, ap, subst, arith, length-append, ◌-◌}
use Rattle.std.proofs.lemmas.Bool.{true≢false}
use Rattle.std.proofs.lemmas.List.{append-nil, length-take-le}
use Rattle.alm_types.specs.declared.action.Action.{Action}
use Rattle.alm_types.specs.declared.want.Want.{Want}
use Rattle.alm_types.specs.declared.entry.Entry.{Entry}
use Rattle.alm_types.specs.declared.verdict.Verdict.{Verdict}
use Rattle.alm_types.specs.declared.query.Query.{Query}
use Rattle.alm_disk.specs.Device.{DeviceState, IsImage}
use Rattle.alm_model.specs.Plant.{Condensed}
use Rattle.alm_model.specs.Judging.{accepted_of, when_accepted}
use Rattle.alm_model.specs.Step.{run}
use Rattle.alm_pipeline.specs.declared.step.Step.{Step}
use Rattle.alm_pipeline.specs.declared.step.Step.TheVariants.{Send, Take, Seal, Fetch, Call, Publish, Release, GiveBack, Receive, Look, Crash, Reopen}
use Rattle.alm_pipeline.specs.declared.step_event.StepEvent.{StepEvent}
use Rattle.alm_pipeline.specs.declared.step_event.StepEvent.TheVariants.{Sent, Busy, Took, Sealed, Fetched, More, Committed, Failed, Published, Released, GaveBack, Received, Looked, Crashed, Opened, Unopened, Skipped}
use Rattle.alm_pipeline.specs.World.{World, Note, BatchStage, Nothing, Held, Stored, Shown, Answers, after_step, entry_for, fetches, judges, next_notes, note_of, raise, says, after_publish, stores, tells}
use Rattle.alm_store.specs.Recovery.{IsPrefixPlant, IsSafe}
use Rattle.alm_pipeline.specs.Headline.{Sight, IsRun, after_steps}
use Rattle.alm_pipeline.proofs.Runs.{at_end}
use Rattle.alm_bench.specs.Traced.{accepted_from, told_by, told_in, with_event}
use Rattle.alm_bench.proofs.Told.{after_base, run_base, raised_more, split_run}

-- ---- the accepted actions

fetched_all : (w : World) (sealed : List (List Entry)) → (fetches w sealed).accepted ≡ w.accepted
fetched_all w [] = refl
fetched_all w (entries ∷ sealed) = refl

stored_all : (w : World) (stage : BatchStage) → (stores w stage).accepted ≡ w.accepted
stored_all w Nothing = refl
stored_all w (Held entries) = refl
stored_all w (Stored entries) = refl
stored_all w (Shown entries n) = refl

shown_all : (w : World) (stage : BatchStage) → (after_publish w stage).accepted ≡ w.accepted
shown_all w Nothing = refl
shown_all w (Held entries) = refl
shown_all w (Stored entries) = refl
shown_all w (Shown entries n) = refl

entry_accepts : (w : World) (slot : ℕ) (asked : Option Want) (v : Verdict) → judges w slot asked v → accepted_of (entry_for w slot asked v) ≡ when_accepted v
entry_accepts w slot None v judged = absurd judged
entry_accepts w slot (Some a) v judged = append-nil (when_accepted v)

accepted_after : (w : World) (step : Step) (event : StepEvent) → Answers w step event → (after_step w step event).accepted ≡ with_event w.base.panel.count w.accepted event
accepted_after w (Send slot a) (Sent serial) answers = refl
accepted_after w (Send slot a) Busy answers = refl
accepted_after w (Take slot) (Took v) answers = ap (λ l. w.accepted ++ l) (entry_accepts w slot (slice_get (w.sent slot) (w.taken slot)) v answers.1)
accepted_after w Seal Sealed answers = refl
accepted_after w Fetch Fetched answers = fetched_all w w.sealed
accepted_after w Call More answers = refl
accepted_after w Call Committed answers = stored_all w w.stage
accepted_after w Call Failed answers = refl
accepted_after w Publish Published answers = shown_all w w.stage
accepted_after w Release (Released slot) answers = refl
accepted_after w GiveBack GaveBack answers = refl
accepted_after w (Receive slot) (Received serial verdict number) answers = refl
accepted_after w (Look slot query) (Looked count) answers = refl
accepted_after w (Crash bytes) Crashed answers = refl
accepted_after w Reopen (Opened n) answers = refl
accepted_after w Reopen (Unopened fault) answers = refl
accepted_after w step Skipped answers = refl
accepted_after w step event answers = absurd answers

-- ---- the floor

fetched_floor : (w : World) (sealed : List (List Entry)) → w.floor ≤ (fetches w sealed).floor
fetched_floor w [] = omega arith
fetched_floor w (entries ∷ sealed) = omega arith

stored_floor : (w : World) (stage : BatchStage) → w.floor ≤ (stores w stage).floor
stored_floor w Nothing = omega arith
stored_floor w (Held entries) = omega arith
stored_floor w (Stored entries) = omega arith
stored_floor w (Shown entries n) = omega arith

shown_floor : (w : World) (stage : BatchStage) → w.floor ≤ (after_publish w stage).floor
shown_floor w Nothing = omega arith
shown_floor w (Held entries) = omega arith
shown_floor w (Stored entries) = omega arith
shown_floor w (Shown entries n) = omega arith

floor_after : (w : World) (step : Step) (event : StepEvent) → w.floor ≤ (after_step w step event).floor
floor_after w (Send slot a) (Sent serial) = omega arith
floor_after w (Take slot) (Took v) = omega arith
floor_after w Seal Sealed = omega arith
floor_after w Fetch Fetched = fetched_floor w w.sealed
floor_after w Call Committed = stored_floor w w.stage
floor_after w Call Failed = omega arith
floor_after w Publish Published = shown_floor w w.stage
floor_after w Release (Released slot) = raised_more w.floor (next_notes w w.stage)
floor_after w GiveBack GaveBack = omega arith
floor_after w (Receive slot) (Received serial verdict number) = omega arith
floor_after w (Look slot query) (Looked count) = omega arith
floor_after w (Crash bytes) Crashed = omega arith
floor_after w Reopen (Opened n) = omega arith
floor_after w step event = omega arith

-- ---- the numbers of the receipts that were released

abbrev AreWithin : ℕ → List Note → Type 0
AreWithin floor [] = Unit {0}
AreWithin floor (note ∷ notes) = (note.number ≤ floor) × AreWithin floor notes

within_more : (floor more : ℕ) (notes : List Note) → floor ≤ more → AreWithin floor notes → AreWithin more notes
within_more floor more [] higher within = tt
within_more floor more (note ∷ notes) higher within = (omega (arith, higher, within.0), within_more floor more notes higher within.1)

within_append : (floor : ℕ) (notes more : List Note) → AreWithin floor notes → AreWithin floor more → AreWithin floor (notes ++ more)
within_append floor [] more within then' = then'
within_append floor (note ∷ notes) more within then' = (within.0, within_append floor notes more within.1 then')

-- a receipt that is reported
within_said : (floor k serial number : ℕ) (verdict : Verdict) (notes : List Note) → AreWithin floor notes → says (slice_get notes k) serial verdict number → number ≤ floor
within_said floor k serial number verdict [] within said = absurd said
within_said floor zero serial number verdict (note ∷ notes) within said = omega (arith, said.2, within.0)
within_said floor (suc k) serial number verdict (note ∷ notes) within said = within_said floor k serial number verdict notes within.1 said

within_choice : (floor : ℕ) (b : Bool) (notes others : List Note) → AreWithin floor notes → AreWithin floor others → AreWithin floor (if b then notes else others)
within_choice floor true notes others within then' = within
within_choice floor false notes others within then' = then'

abbrev TellsWithin : World → Type 0
TellsWithin w = (slot : ℕ) → AreWithin w.floor (w.released slot)

next_within : (least : ℕ) (notes : List Note) → length notes ≤ 1 → AreWithin (raise least notes) notes
next_within least [] one = tt
next_within least (note ∷ []) one = (omega arith, tt)
next_within least (note ∷ (more ∷ notes)) one = absurd (omega (arith, one))

one_note : (w : World) (entries : List Entry) (n : ℕ) (o : Option Entry) → length (note_of w entries n o) ≤ 1
one_note w entries n None = omega arith
one_note w entries n (Some e) = omega arith

one_next : (w : World) (stage : BatchStage) → length (next_notes w stage) ≤ 1
one_next w Nothing = omega arith
one_next w (Held entries) = omega arith
one_next w (Stored entries) = omega arith
one_next w (Shown entries n) = one_note w entries n (slice_get entries n)

fetched_tells : (w : World) (sealed : List (List Entry)) → TellsWithin w → TellsWithin (fetches w sealed)
fetched_tells w [] t = t
fetched_tells w (entries ∷ sealed) t = t

stored_tells : (w : World) (stage : BatchStage) → TellsWithin w → TellsWithin (stores w stage)
stored_tells w Nothing t = t
stored_tells w (Held entries) t = t
stored_tells w (Stored entries) t = t
stored_tells w (Shown entries n) t = t

shown_tells : (w : World) (stage : BatchStage) → TellsWithin w → TellsWithin (after_publish w stage)
shown_tells w Nothing t = t
shown_tells w (Held entries) t = t
shown_tells w (Stored entries) t = t
shown_tells w (Shown entries n) t = t

released_tells : (w : World) (slot : ℕ) (notes : List Note) → length notes ≤ 1 → TellsWithin w → TellsWithin (tells w slot notes)
released_tells w slot notes one t s =
    let floor = raise w.floor notes in
    let before = λ (k : ℕ). within_more w.floor floor (w.released k) (raised_more w.floor notes) (t k) in
    within_choice floor (s == slot) (w.released slot ++ notes) (w.released s) (within_append floor (w.released slot) notes (before slot) (next_within w.floor notes one)) (before s)

tells_after : (w : World) (step : Step) (event : StepEvent) → TellsWithin w → TellsWithin (after_step w step event)
tells_after w (Send slot a) (Sent serial) t = t
tells_after w (Take slot) (Took v) t = t
tells_after w Seal Sealed t = t
tells_after w Fetch Fetched t = fetched_tells w w.sealed t
tells_after w Call Committed t = stored_tells w w.stage t
tells_after w Call Failed t = λ s. tt
tells_after w Publish Published t = shown_tells w w.stage t
tells_after w Release (Released slot) t = released_tells w slot (next_notes w w.stage) (one_next w w.stage) t
tells_after w GiveBack GaveBack t = t
tells_after w (Receive slot) (Received serial verdict number) t = t
tells_after w (Look slot query) (Looked count) t = λ s. within_more w.floor (after_step w (Look slot query) (Looked count)).floor (w.released s) (omega arith) (t s)
tells_after w (Crash bytes) Crashed t = λ s. tt
tells_after w Reopen (Opened n) t = λ s. tt
tells_after w step event t = t

-- what an event reports is within the floor after it
told_after : (w : World) (step : Step) (event : StepEvent) → Answers w step event → TellsWithin w → told_by event ≤ (after_step w step event).floor
told_after w (Receive slot) (Received serial verdict number) answers t = within_said w.floor (w.received slot) serial number verdict (w.released slot) (t slot) answers.1
told_after w (Look slot query) (Looked count) answers t = omega arith
told_after w (Send slot a) (Sent serial) answers t = omega arith
told_after w (Send slot a) Busy answers t = omega arith
told_after w (Take slot) (Took v) answers t = omega arith
told_after w Seal Sealed answers t = omega arith
told_after w Fetch Fetched answers t = omega arith
told_after w Call More answers t = omega arith
told_after w Call Committed answers t = omega arith
told_after w Call Failed answers t = omega arith
told_after w Publish Published answers t = omega arith
told_after w Release (Released slot) answers t = omega arith
told_after w GiveBack GaveBack answers t = omega arith
told_after w (Crash bytes) Crashed answers t = omega arith
told_after w Reopen (Opened n) answers t = omega arith
told_after w Reopen (Unopened fault) answers t = omega arith
told_after w step Skipped answers t = omega arith
told_after w step event answers t = absurd answers

-- ---- runs

-- a trace and the world at its end
record Follows (w end : World) (trace : List StepEvent) : Type 0 where
  accepted : end.accepted ≡ accepted_from w.base.panel.count w.accepted trace
  told : told_in trace ≤ end.floor
  floor : w.floor ≤ end.floor

module _ (recovers : List ℕ → Condensed → Type 0) (spent : DeviceState → Type 0) where
  follows : (w : World) (d last : Sight) (steps : List Step) (trace : List StepEvent) → IsRun recovers spent w d steps trace last → TellsWithin w → Follows w (after_steps w steps trace) trace
  follows w d last [] [] run t = record { accepted = refl; told = omega arith; floor = omega arith }
  follows w d last (x ∷ steps) (y ∷ trace) run t =
      let answers = run.1.1 in
      let next = after_step w x y in
      let rest = follows next run.1.0 last steps trace run.1.3 (tells_after w x y t) in
      record {
        accepted = rest.accepted ∙ (ap (λ (b : Condensed). accepted_from b.panel.count next.accepted trace) (after_base w x y) ∙ ap (λ l. accepted_from w.base.panel.count l trace) (accepted_after w x y answers));
        told = omega (arith, told_after w x y answers t, rest.told, rest.floor);
        floor = omega (arith, floor_after w x y, rest.floor);
      }
  follows w d last [] (y ∷ trace) run t = absurd run
  follows w d last (x ∷ steps) [] run t = absurd run

  lower : (base : Condensed) (accepted : List Action) (floor told : ℕ) (q : Condensed) → told ≤ floor → IsPrefixPlant base accepted floor q → IsPrefixPlant base accepted told q
  lower base accepted floor told q less prefix = record { enough = omega (arith, less, prefix.enough); no_more = prefix.no_more; plant = prefix.plant }

  safe_at : (base : Condensed) (accepted : List Action) (floor told : ℕ) (image : List ℕ) → told ≤ floor → IsSafe recovers base accepted floor image → IsSafe recovers base accepted told image
  safe_at base accepted floor told image less safe = record { some = safe.some; each = λ q r. lower base accepted floor told q less (safe.each q r); lists = safe.lists }

  -- the headline at the end of a run, by its trace alone
  pub safe_by_trace : (w : World) (d last : Sight) (steps : List Step) (trace : List StepEvent) → IsRun recovers spent w d steps trace last → ((slot : ℕ) → w.released slot ≡ [])
      → (image : List ℕ) → IsImage last.state image → IsSafe recovers w.base (accepted_from w.base.panel.count w.accepted trace) (told_in trace) image
  safe_by_trace w d last steps trace run none image is =
      let end = after_steps w steps trace in
      let f = follows w d last steps trace run (λ s. subst (AreWithin w.floor) (sym (none s)) tt) in
      let safe = safe_at end.base end.accepted end.floor (told_in trace) image f.told (at_end recovers spent w d last steps trace run image is) in
      subst (λ (b : Condensed). IsSafe recovers b (accepted_from w.base.panel.count w.accepted trace) (told_in trace) image) (run_base w steps trace)
      (subst (λ (l : List Action). IsSafe recovers end.base l (told_in trace) image) f.accepted safe)

-- ---- a look shows all that was reported before it

-- what is shown reaches the floor
abbrev ShowsFloor : World → Type 0
ShowsFloor w = w.closed ≡ false → w.floor ≤ w.base.panel.count + length w.published

fetched_shows : (w : World) (sealed : List (List Entry)) → ShowsFloor w → ShowsFloor (fetches w sealed)
fetched_shows w [] h = h
fetched_shows w (entries ∷ sealed) h = h

stored_shows : (w : World) (stage : BatchStage) → ShowsFloor w → ShowsFloor (stores w stage)
stored_shows w Nothing h = h
stored_shows w (Held entries) h = h
stored_shows w (Stored entries) h = h
stored_shows w (Shown entries n) h = h

shown_shows : (w : World) (stage : BatchStage) → ShowsFloor w → ShowsFloor (after_publish w stage)
shown_shows w Nothing h = h
shown_shows w (Held entries) h = h
shown_shows w (Stored entries) h = λ open'. omega (arith, h open', length-append w.published (accepted_of entries))
shown_shows w (Shown entries n) h = h

raised_within : (top least : ℕ) (notes : List Note) → least ≤ top → AreWithin top notes → raise least notes ≤ top
raised_within top least [] low within = low
raised_within top least (note ∷ notes) low within = omega (arith, low, within.0)

note_within : (w : World) (entries : List Entry) (n : ℕ) (o : Option Entry) → AreWithin (w.base.panel.count + length w.published) (note_of w entries n o)
note_within w entries n None = tt
note_within w entries n (Some e) = (omega arith, tt)

notes_within : (w : World) (stage : BatchStage) → AreWithin (w.base.panel.count + length w.published) (next_notes w stage)
notes_within w Nothing = tt
notes_within w (Held entries) = tt
notes_within w (Stored entries) = tt
notes_within w (Shown entries n) = note_within w entries n (slice_get entries n)

shows_after : (w : World) (step : Step) (event : StepEvent) → Answers w step event → ShowsFloor w → ShowsFloor (after_step w step event)
shows_after w (Send slot a) (Sent serial) answers h = h
shows_after w (Take slot) (Took v) answers h = h
shows_after w Seal Sealed answers h = h
shows_after w Fetch Fetched answers h = fetched_shows w w.sealed h
shows_after w Call Committed answers h = stored_shows w w.stage h
shows_after w Call Failed answers h = λ open'. absurd (true≢false open')
shows_after w Publish Published answers h = shown_shows w w.stage h
shows_after w Release (Released slot) answers h = λ open'. raised_within (w.base.panel.count + length w.published) w.floor (next_notes w w.stage) (h open') (notes_within w w.stage)
shows_after w GiveBack GaveBack answers h = h
shows_after w (Receive slot) (Received serial verdict number) answers h = h
shows_after w (Look slot query) (Looked count) answers h = λ open'. omega (arith, h open', answers.1)
shows_after w (Crash bytes) Crashed answers h = λ open'. absurd (true≢false open')
shows_after w Reopen (Opened n) answers h = λ _. let size = length-take-le (n - w.base.panel.count) w.accepted (omega (arith, answers.2)) in omega (arith, answers.1, size)
shows_after w step event answers h = h

module _ (recovers : List ℕ → Condensed → Type 0) (spent : DeviceState → Type 0) where
  run_shows : (w : World) (d last : Sight) (steps : List Step) (trace : List StepEvent) → IsRun recovers spent w d steps trace last → ShowsFloor w → ShowsFloor (after_steps w steps trace)
  run_shows w d last [] [] run h = h
  run_shows w d last (x ∷ steps) (y ∷ trace) run h = run_shows (after_step w x y) run.1.0 last steps trace run.1.3 (shows_after w x y run.1.1 h)
  run_shows w d last [] (y ∷ trace) run h = absurd run
  run_shows w d last (x ∷ steps) [] run h = absurd run

  pub look_reaches : (w : World) (d last : Sight) (steps behind : List Step) (trace rest : List StepEvent) (slot : ℕ) (query : Query) (count : ℕ) → length steps ≡ length trace
      → IsRun recovers spent w d (steps ++ Look slot query ∷ behind) (trace ++ Looked count ∷ rest) last → w.closed ≡ true → ((slot : ℕ) → w.released slot ≡ []) → told_in trace ≤ count
  look_reaches w d last steps behind trace rest slot query count same run shut none =
      let s = split_run recovers spent w d last steps behind trace rest (Look slot query) (Looked count) same run in
      let answers = s.2.1.1 in
      let f = follows recovers spent w d s.0 steps trace s.1 (λ k. subst (AreWithin w.floor) (sym (none k)) tt) in
      let shows' = run_shows w d s.0 steps trace s.1 (λ open'. absurd (true≢false (sym shut ∙ open'))) answers.0.0 in
      omega (arith, f.told, shows', answers.1)
