-- What was reported or shown stays, and is recovered.
use Rattle.std.proofs.Common.{◌≡◌, ◌≤◌, ◌+◌, ◌-◌, ℕ, suc, List, [], ◌∷◌, ◌++◌, length, take, drop, Option, Some, None, slice_get, refl, sym, ◌∙◌, ap, subst, arith, append_assoc, length-append}
use Rattle.std.proofs.lemmas.List.{take-append-drop, length-take-le}
use Rattle.alm_types.specs.declared.action.Action.{Action}
use Rattle.alm_types.specs.declared.entry.Entry.{Entry}
use Rattle.alm_types.specs.declared.verdict.Verdict.{Verdict}
use Rattle.alm_types.specs.declared.verdict.Verdict.TheVariants.{Accepted, Refused}
use Rattle.alm_disk.specs.Device.{DeviceState, IsImage}
use Rattle.alm_model.specs.Plant.{Condensed}
use Rattle.alm_model.specs.Step.{run}
use Rattle.alm_model.specs.Judging.{accepted_of, when_accepted}
use Rattle.alm_board.specs.PrefixesOf.{IsPrefixOf}
use Rattle.alm_board.proofs.PrefixOfLaws.{prefix_of_more, prefix_of_joined, prefix_of_self, prefix_of_shorter, prefix_of_trans}
use Rattle.alm_flush.specs.declared.held.Held.TheVariants as V
use Rattle.alm_flush.proofs.HeldLaws.{published_split}
use Rattle.alm_pipeline.specs.declared.step.Step.{Step}
use Rattle.alm_pipeline.specs.declared.step.Step.TheVariants.{Send, Take, Seal, Fetch, Call, Publish, Release, GiveBack, Receive, Look, Crash, Reopen}
use Rattle.alm_pipeline.specs.declared.step_event.StepEvent.{StepEvent}
use Rattle.alm_pipeline.specs.declared.step_event.StepEvent.TheVariants.{Sent, Took, Sealed, Fetched, Committed, Failed, Published, Released, GaveBack, Received, Looked, Crashed, Opened}
use Rattle.alm_pipeline.specs.World.{World, Note, BatchStage, Nothing, Held, Stored, Shown, Answers, after_step, entry_for, fetches, goes_to, next_entry, next_notes, note_of, raise, after_publish, stores}
use Rattle.alm_pipeline.specs.Headline.{Sight, Headline, IsRun, after_steps}
use Rattle.alm_bench.specs.Told.{EndsWith, Tells, TellsUpTo}
use Rattle.alm_bench.proofs.Order.{InOrder, in_order, shown_at, ready_at, waiting_at, flat_of}
use Rattle.alm_pipeline.proofs.Runs.{at_end}

-- a list of actions that every later plant begins with
pub record Holds (w : World) (list : List Action) : Type 0 where
  pub reaches : w.base.panel.count + length list ≤ w.floor
  pub prefix : IsPrefixOf list w.accepted

-- ---- no step changes the base

fetched_base : (w : World) (sealed : List (List Entry)) → (fetches w sealed).base ≡ w.base
fetched_base w [] = refl
fetched_base w (entries ∷ sealed) = refl

stored_base : (w : World) (stage : BatchStage) → (stores w stage).base ≡ w.base
stored_base w Nothing = refl
stored_base w (Held entries) = refl
stored_base w (Stored entries) = refl
stored_base w (Shown entries n) = refl

shown_base : (w : World) (stage : BatchStage) → (after_publish w stage).base ≡ w.base
shown_base w Nothing = refl
shown_base w (Held entries) = refl
shown_base w (Stored entries) = refl
shown_base w (Shown entries n) = refl

pub after_base : (w : World) (step : Step) (event : StepEvent) → (after_step w step event).base ≡ w.base
after_base w (Send slot a) (Sent serial) = refl
after_base w (Take slot) (Took v) = refl
after_base w Seal Sealed = refl
after_base w Fetch Fetched = fetched_base w w.sealed
after_base w Call Committed = stored_base w w.stage
after_base w Call Failed = refl
after_base w Publish Published = shown_base w w.stage
after_base w Release (Released slot) = refl
after_base w GiveBack GaveBack = refl
after_base w (Receive slot) (Received serial verdict number) = refl
after_base w (Look slot query) (Looked count) = refl
after_base w (Crash bytes) Crashed = refl
after_base w Reopen (Opened n) = refl
after_base w step event = refl

pub run_base : (w : World) (steps : List Step) (trace : List StepEvent) → (after_steps w steps trace).base ≡ w.base
run_base w [] trace = refl
run_base w (x ∷ steps) [] = refl
run_base w (x ∷ steps) (y ∷ trace) = run_base (after_step w x y) steps trace ∙ after_base w x y

-- ---- what is held stays

prefix_taken : (list accepted : List Action) (m : ℕ) → length list ≤ m → m ≤ length accepted → IsPrefixOf list accepted → IsPrefixOf list (take m accepted)
prefix_taken list accepted m long within prefix =
    prefix_of_shorter list (take m accepted) accepted prefix (prefix_of_joined (take m accepted) (drop m accepted) accepted (take-append-drop m accepted)) (omega (arith, long, length-take-le m accepted within))

pub raised_more : (floor : ℕ) (notes : List Note) → floor ≤ raise floor notes
raised_more floor [] = omega arith
raised_more floor (note ∷ notes) = omega arith

fetched_holds : (w : World) (sealed : List (List Entry)) (list : List Action) → Holds w list → Holds (fetches w sealed) list
fetched_holds w [] list h = h
fetched_holds w (entries ∷ sealed) list h = record { reaches = h.reaches; prefix = h.prefix }

stored_holds : (w : World) (stage : BatchStage) (list : List Action) → Holds w list → Holds (stores w stage) list
stored_holds w Nothing list h = h
stored_holds w (Held entries) list h = record { reaches = h.reaches; prefix = h.prefix }
stored_holds w (Stored entries) list h = h
stored_holds w (Shown entries n) list h = h

shown_holds : (w : World) (stage : BatchStage) (list : List Action) → Holds w list → Holds (after_publish w stage) list
shown_holds w Nothing list h = h
shown_holds w (Held entries) list h = h
shown_holds w (Stored entries) list h = record { reaches = h.reaches; prefix = h.prefix }
shown_holds w (Shown entries n) list h = h

-- whatever a step answers
pub holds_on : (w : World) (step : Step) (event : StepEvent) (list : List Action) → Answers w step event → Holds w list → Holds (after_step w step event) list
holds_on w (Send slot a) (Sent serial) list answers h = record { reaches = h.reaches; prefix = h.prefix }
holds_on w (Take slot) (Took v) list answers h =
    record { reaches = h.reaches; prefix = prefix_of_more list w.accepted (accepted_of (entry_for w slot (slice_get (w.sent slot) (w.taken slot)) v)) h.prefix }
holds_on w Seal Sealed list answers h = record { reaches = h.reaches; prefix = h.prefix }
holds_on w Fetch Fetched list answers h = fetched_holds w w.sealed list h
holds_on w Call Committed list answers h = stored_holds w w.stage list h
holds_on w Call Failed list answers h = record { reaches = h.reaches; prefix = h.prefix }
holds_on w Publish Published list answers h = shown_holds w w.stage list h
holds_on w Release (Released slot) list answers h = record { reaches = omega (arith, h.reaches, raised_more w.floor (next_notes w w.stage)); prefix = h.prefix }
holds_on w GiveBack GaveBack list answers h = record { reaches = h.reaches; prefix = h.prefix }
holds_on w (Receive slot) (Received serial verdict number) list answers h = record { reaches = h.reaches; prefix = h.prefix }
holds_on w (Look slot query) (Looked count) list answers h = record { reaches = omega (arith, h.reaches); prefix = h.prefix }
holds_on w (Crash bytes) Crashed list answers h = record { reaches = h.reaches; prefix = h.prefix }
holds_on w Reopen (Opened n) list answers h =
    record { reaches = h.reaches; prefix = prefix_taken list w.accepted (n - w.base.panel.count) (omega (arith, h.reaches, answers.1)) (omega (arith, answers.2)) h.prefix }
holds_on w step event list answers h = h

-- ---- what is reported is held

published_prefix : (w : World) (list : List Action) → InOrder w → IsPrefixOf list w.published → IsPrefixOf list w.accepted
published_prefix w list i prefix =
    prefix_of_trans list w.published w.accepted prefix
    (prefix_of_trans w.published w.stored w.accepted
    (prefix_of_joined w.published (accepted_of (ready_at w.stage)) w.stored (sym i.ready))
    (prefix_of_joined w.stored (accepted_of (waiting_at w.stage) ++ (accepted_of (flat_of w.sealed) ++ accepted_of w.taking)) w.accepted (sym i.all)))

ends_with : (v : Verdict) (before taken : List Action) → EndsWith v (before ++ (taken ++ when_accepted v))
ends_with (Accepted a) before taken = (before ++ taken, sym (append_assoc before taken (a ∷ [])))
ends_with (Refused r k) before taken = tt

-- a list that is reported up to an entry of the batch that is shown
told_at : (w : World) (entries : List Entry) (n : ℕ) (e : Entry) → w.stage ≡ Shown entries n → slice_get entries n ≡ Some e → InOrder w
    → (list : List Action) × TellsUpTo w (note_of w entries n (Some e)) list
told_at w entries n e stage next i =
    let taken = accepted_of (take n entries) in
    let left = accepted_of (drop (suc n) entries) in
    let list = i.before ++ (taken ++ when_accepted e.verdict) in
    let split : accepted_of entries ≡ taken ++ (when_accepted e.verdict ++ left) = published_split [] (V.Published (record { first = 1; entries = entries }) n) e next in
    let shown : w.published ≡ list ++ left =
    i.shown ∙ (ap (λ s. i.before ++ accepted_of (shown_at s)) stage ∙ (ap (λ l. i.before ++ l) (split ∙ sym (append_assoc taken (when_accepted e.verdict) left)) ∙ sym (append_assoc i.before (taken ++ when_accepted e.verdict) left))) in
    (list, (omega (arith, ap length shown, length-append list left), published_prefix w list i (prefix_of_joined list left w.published (sym shown)), ends_with e.verdict i.before taken))

entry_tells : (w : World) (slot : ℕ) (entries : List Entry) (n : ℕ) (o : Option Entry) → w.stage ≡ Shown entries n → slice_get entries n ≡ o → goes_to o slot → InOrder w
    → (list : List Action) × TellsUpTo w (note_of w entries n o) list
entry_tells w slot entries n None stage next goes i = absurd goes
entry_tells w slot entries n (Some e) stage next goes i = told_at w entries n e stage next i

release_tells_at : (w : World) (slot : ℕ) (stage : BatchStage) → w.stage ≡ stage → goes_to (next_entry stage) slot → InOrder w → (list : List Action) × TellsUpTo w (next_notes w stage) list
release_tells_at w slot Nothing is goes i = absurd goes
release_tells_at w slot (Held entries) is goes i = absurd goes
release_tells_at w slot (Stored entries) is goes i = absurd goes
release_tells_at w slot (Shown entries n) is goes i = entry_tells w slot entries n (slice_get entries n) is refl goes i

pub release_tells : (w : World) (slot : ℕ) → Answers w Release (Released slot) → InOrder w → (list : List Action) × Tells w Release (Released slot) list
release_tells w slot answers i = release_tells_at w slot w.stage refl answers.1 i

reaches_up_to : (w : World) (notes : List Note) (list : List Action) → TellsUpTo w notes list → w.base.panel.count + length list ≤ raise w.floor notes
reaches_up_to w [] list tells = absurd tells
reaches_up_to w (note ∷ notes) list tells = omega (arith, tells.0)

prefix_up_to : (w : World) (notes : List Note) (list : List Action) → TellsUpTo w notes list → IsPrefixOf list w.accepted
prefix_up_to w [] list tells = absurd tells
prefix_up_to w (note ∷ notes) list tells = tells.1

pub tells_holds : (w : World) (step : Step) (event : StepEvent) (list : List Action) → Answers w step event → InOrder w → Tells w step event list → Holds (after_step w step event) list
tells_holds w Release (Released slot) list answers i tells = record { reaches = reaches_up_to w (next_notes w w.stage) list tells; prefix = prefix_up_to w (next_notes w w.stage) list tells }
tells_holds w (Look slot query) (Looked count) list answers i tells = record {
  reaches = omega (arith, answers.1, ap length tells);
  prefix = published_prefix w list i (subst (λ (l : List Action). IsPrefixOf l w.published) (sym tells) (prefix_of_self w.published));
}
tells_holds w step event list answers i tells = absurd tells

-- ---- runs

module _ (recovers : List ℕ → Condensed → Type 0) (spent : DeviceState → Type 0) where
  run_holds : (w : World) (d last : Sight) (steps : List Step) (trace : List StepEvent) (list : List Action) → IsRun recovers spent w d steps trace last → Holds w list → Holds (after_steps w steps trace) list
  run_holds w d last [] [] list run h = h
  run_holds w d last (x ∷ steps) (y ∷ trace) list run h = run_holds (after_step w x y) run.1.0 last steps trace list run.1.3 (holds_on w x y list run.1.1 h)
  run_holds w d last [] (y ∷ trace) list run h = absurd run
  run_holds w d last (x ∷ steps) [] list run h = absurd run

  pub run_order : (w : World) (d last : Sight) (steps : List Step) (trace : List StepEvent) → IsRun recovers spent w d steps trace last → InOrder w → InOrder (after_steps w steps trace)
  run_order w d last [] [] run i = i
  run_order w d last (x ∷ steps) (y ∷ trace) run i = run_order (after_step w x y) run.1.0 last steps trace run.1.3 (in_order w x y run.1.1 i)
  run_order w d last [] (y ∷ trace) run i = absurd run
  run_order w d last (x ∷ steps) [] run i = absurd run

  -- a run up to a step, and from it on
  pub split_run : (w : World) (d last : Sight) (steps behind : List Step) (trace rest : List StepEvent) (step : Step) (event : StepEvent) → length steps ≡ length trace → IsRun recovers spent w d (steps ++ step ∷ behind) (trace ++ event ∷ rest) last
      → (m : Sight) × IsRun recovers spent w d steps trace m × IsRun recovers spent (after_steps w steps trace) m (step ∷ behind) (event ∷ rest) last
  split_run w d last [] behind [] rest step event same run = (d, (run.0, refl), run)
  split_run w d last (x ∷ steps) behind (y ∷ trace) rest step event same run =
      let s = split_run (after_step w x y) run.1.0 last steps behind trace rest step event (omega (arith, same)) run.1.3 in
      (s.0, (run.0, (run.1.0, run.1.1, run.1.2, s.1)), s.2)
  split_run w d last [] behind (y ∷ trace) rest step event same run = absurd (omega (arith, same))
  split_run w d last (x ∷ steps) behind [] rest step event same run = absurd (omega (arith, same))

  recovered : (w : World) (last : Sight) (list : List Action) → Headline recovers spent w last.state → Holds w list → (image : List ℕ) (q : Condensed) → IsImage last.state image → recovers image q
      → (prefix : List Action) × (q ≡ run w.base prefix) × IsPrefixOf list prefix
  recovered w last list headline h image q is r =
      let f = (headline image is).each q r in
      let m = q.panel.count - w.base.panel.count in
      (take m w.accepted, f.plant, prefix_taken list w.accepted m (omega (arith, h.reaches, f.enough)) (omega (arith, f.no_more)) h.prefix)

  pub told_is_recovered : (w : World) (d last : Sight) (steps behind : List Step) (trace rest : List StepEvent) (step : Step) (event : StepEvent) (list : List Action) → InOrder w → length steps ≡ length trace
      → IsRun recovers spent w d (steps ++ step ∷ behind) (trace ++ event ∷ rest) last → Tells (after_steps w steps trace) step event list
      → (image : List ℕ) (q : Condensed) → IsImage last.state image → recovers image q → (prefix : List Action) × (q ≡ run w.base prefix) × IsPrefixOf list prefix
  told_is_recovered w d last steps behind trace rest step event list i same ran tells image q is r =
      let s = split_run w d last steps behind trace rest step event same ran in
      let at = after_steps w steps trace in
      let next = after_step at step event in
      let more = s.2.1 in
      let held = tells_holds at step event list more.1 (run_order w d s.0 steps trace s.1 i) tells in
      let end = recovered (after_steps next behind rest) last list (at_end recovers spent next more.0 last behind rest more.3) (run_holds next more.0 last behind rest list more.3 held) image q is r in
      let base = run_base next behind rest ∙ (after_base at step event ∙ run_base w steps trace) in
      (end.0, end.1 ∙ ap (λ (b : Condensed). run b end.0) base, end.2)

  pub each_release_tells : (w : World) (d last : Sight) (steps behind : List Step) (trace rest : List StepEvent) (slot : ℕ) → InOrder w → length steps ≡ length trace
      → IsRun recovers spent w d (steps ++ Release ∷ behind) (trace ++ Released slot ∷ rest) last → (list : List Action) × Tells (after_steps w steps trace) Release (Released slot) list
  each_release_tells w d last steps behind trace rest slot i same run =
      let s = split_run w d last steps behind trace rest Release (Released slot) same run in
      release_tells (after_steps w steps trace) slot s.2.1.1 (run_order w d s.0 steps trace s.1 i)
