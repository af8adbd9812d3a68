-- How often a commit returns More: what a flusher says of its calls gives the pace of a run.
use Rattle.std.proofs.Common.{◌≡◌, ◌≢◌, ◌<◌, ◌≤◌, ◌+◌, ◌⊎◌, ◌∙◌, ◌++◌, ◌∷◌, [], inl, inr, ℕ, zero, suc, List, length, All, Option, Some, None, slice_get, refl, sym, ap, subst, arith, length-append}
use Rattle.std.proofs.lemmas.List.Elements.{All-head, All-nil, All-push, All-tail}
use Rattle.alm_types.specs.declared.action.Action.{Action}
use Rattle.alm_types.specs.declared.want.Want.{Want}
use Rattle.alm_types.specs.declared.entry.Entry.{Entry}
use Rattle.alm_types.specs.declared.verdict.Verdict.{Verdict}
use Rattle.alm_types.specs.Sizes.{most_entries}
use Rattle.alm_model.specs.Judging.{accepted_of}
use Rattle.alm_store.specs.Pace.{most_calls}
use Rattle.alm_store.specs.declared.phase.Phase.{Phase}
use Rattle.alm_store.specs.declared.phase.Phase.TheVariants.{Idle, Committing, Copying, Paused, Stopped}
use Rattle.alm_disk.specs.declared.disk.Disk
use Rattle.alm_store.specs.declared.store.Store.{Ghosts}
use Rattle.alm_flush.specs.Advances.{Within}
use Rattle.alm_flush.specs.Flushes.{AdvanceAnswers, IsGivenUp}
use Rattle.alm_flush.specs.HeldBatch.{to_commit}
use Rattle.alm_flush.specs.Steps.{EndsWithin}
use Rattle.alm_flush.specs.declared.advance.Advance.TheVariants as A
use Rattle.alm_flush.specs.declared.held.Held as H
use Rattle.alm_flush.specs.declared.held.Held.TheVariants as V
use Rattle.alm_flush.proofs.Pacing.{accepted_few}
use Rattle.alm_pipeline.specs.declared.pipeline.Pipeline.{Pipeline}
use Rattle.alm_pipeline.specs.declared.step.Step.{Step}
use Rattle.alm_pipeline.specs.declared.step.Step.TheVariants.{Send, Take, Seal, Fetch, Call, Publish, Release, GiveBack, Receive, Look, Crash, Reopen}
use Rattle.alm_pipeline.specs.declared.step_event.StepEvent.{StepEvent}
use Rattle.alm_pipeline.specs.declared.step_event.StepEvent.TheVariants.{Sent, Took, Sealed, Fetched, More, Committed, Failed, Published, Released, GaveBack, Received, Looked, Crashed, Opened, Skipped}
use Rattle.alm_pipeline.specs.World.{World, BatchStage, Nothing, Held, Stored, Shown, Answers, IsHeld, after_publish, after_step, closed_world, entries_at, entry_for, fetches, stores, told_more}
use Rattle.alm_pipeline.specs.Pace.{FitsBatch, FitsBatches, Paces, PacesAll, most_more}
use Rattle.alm_pipeline.specs.Headline.{after_steps}
use Rattle.alm_pipeline.specs.Matches.{CommitsIn, EndsAfter, MatchesOpenWorld, StepsInPace, stage_of}

-- ---- how many calls are left

-- at most 647 calls, the last one included: it returns More at most 646 times
pub at_first : (p : Phase) (left : ℕ) (takes will_take : Type 0) (actions : ℕ) → p ≢ Stopped → left ≤ most_calls → actions ≤ most_entries → Within 647 p left takes will_take actions
at_first Idle left takes will_take actions going few size = inr (size, omega arith)
at_first Committing left takes will_take actions going few size = omega (arith, few)
at_first Copying left takes will_take actions going few size = inr (size, omega (arith, few))
at_first Paused left takes will_take actions going few size = inr (size, omega (arith, few))
at_first Stopped left takes will_take actions going few size = absurd (going refl)

-- none ends in no call: so one that ends in the next call doesn't return More
pub never_in_none : (p : Phase) (left : ℕ) (takes will_take : Type 0) (actions : ℕ) → ¬ (Within 0 p left takes will_take actions)
never_in_none Idle left takes will_take actions (inl is) = omega (arith, is.1)
never_in_none Idle left takes will_take actions (inr is) = omega (arith, is.1)
never_in_none Committing left takes will_take actions is = omega (arith, is)
never_in_none Copying left takes will_take actions (inl is) = omega (arith, is.1)
never_in_none Copying left takes will_take actions (inr is) = omega (arith, is.1)
never_in_none Paused left takes will_take actions (inl is) = omega (arith, is.1)
never_in_none Paused left takes will_take actions (inr is) = omega (arith, is.1)
never_in_none Stopped left takes will_take actions is = is

-- ---- no batch has more entries than fit

entry_one : (w : World) (slot : ℕ) (asked : Option Want) (v : Verdict) → length (entry_for w slot asked v) ≤ 1
entry_one w slot None v = omega arith
entry_one w slot (Some a) v = omega arith

fetched_few : (w : World) (sealed : List (List Entry)) → All FitsBatch sealed → FitsBatches w → FitsBatches (fetches w sealed)
fetched_few w [] all few = few
fetched_few w (entries ∷ sealed) all few = (few.0, All-tail FitsBatch entries sealed all, All-head FitsBatch entries sealed all)

pub stored_few : (w : World) (stage : BatchStage) → FitsBatch (entries_at stage) → FitsBatches w → FitsBatches (stores w stage)
stored_few w Nothing short few = few
stored_few w (Held entries) short few = (few.0, few.1, short)
stored_few w (Stored entries) short few = few
stored_few w (Shown entries n) short few = few

shown_few : (w : World) (stage : BatchStage) → FitsBatch (entries_at stage) → FitsBatches w → FitsBatches (after_publish w stage)
shown_few w Nothing short few = few
shown_few w (Held entries) short few = few
shown_few w (Stored entries) short few = (few.0, few.1, short)
shown_few w (Shown entries n) short few = few

told_few : (stage : BatchStage) → FitsBatch (entries_at stage) → FitsBatch (entries_at (told_more stage))
told_few Nothing short = short
told_few (Held entries) short = short
told_few (Stored entries) short = short
told_few (Shown entries n) short = short

-- after a crash or a reopening no batch is there
pub none_few : (w : World) → FitsBatches (closed_world w)
none_few w = (omega arith, All-nil FitsBatch, omega arith)

pub few_after : (w : World) (step : Step) (event : StepEvent) → Answers w step event → FitsBatches w → FitsBatches (after_step w step event)
few_after w (Send slot a) (Sent serial) answers few = few
few_after w (Take slot) (Took v) answers few =
    let es = entry_for w slot (slice_get (w.sent slot) (w.taken slot)) v in
    (omega (arith, length-append w.taking es, entry_one w slot (slice_get (w.sent slot) (w.taken slot)) v, answers.0.2), few.1, few.2)
few_after w Seal Sealed answers few = (omega arith, All-push FitsBatch w.sealed w.taking few.1 few.0, few.2)
few_after w Fetch Fetched answers few = fetched_few w w.sealed few.1 few
few_after w Call Committed answers few = stored_few w w.stage few.2 few
few_after w Call Failed answers few = none_few w
few_after w Publish Published answers few = shown_few w w.stage few.2 few
few_after w Release (Released slot) answers few = (few.0, few.1, told_few w.stage few.2)
few_after w GiveBack GaveBack answers few = (few.0, few.1, omega arith)
few_after w (Receive slot) (Received serial verdict number) answers few = few
few_after w (Look slot query) (Looked count) answers few = few
few_after w (Crash bytes) Crashed answers few = none_few w
few_after w Reopen (Opened n) answers few = none_few w
few_after w step event answers few = few

-- ---- steps that leave the store alone

-- the step fetches no batch and calls no device
abbrev pub IsStill : Step → Type 0
IsStill Fetch = ⊥
IsStill Call = ⊥
IsStill (Crash bytes) = ⊥
IsStill Reopen = ⊥
IsStill step = Unit {0}

shown_stage : (w : World) (s : BatchStage) → w.stage ≡ s → IsHeld (after_publish w s).stage → (after_publish w s).stage ≡ w.stage
shown_stage w Nothing is held = refl
shown_stage w (Held entries) is held = refl
shown_stage w (Stored entries) is held = absurd held
shown_stage w (Shown entries n) is held = refl

told_stage : (s : BatchStage) → IsHeld (told_more s) → told_more s ≡ s
told_stage Nothing held = refl
told_stage (Held entries) held = refl
told_stage (Stored entries) held = refl
told_stage (Shown entries n) held = absurd held

-- a batch that is held then was held before
pub still_stage : (w : World) (step : Step) (event : StepEvent) → IsStill step → IsHeld (after_step w step event).stage → (after_step w step event).stage ≡ w.stage
still_stage w (Send slot a) (Sent serial) still held = refl
still_stage w (Take slot) (Took v) still held = refl
still_stage w Seal Sealed still held = refl
still_stage w Fetch event still held = absurd still
still_stage w Call event still held = absurd still
still_stage w (Crash bytes) event still held = absurd still
still_stage w Reopen event still held = absurd still
still_stage w Publish Published still held = shown_stage w w.stage refl held
still_stage w Release (Released slot) still held = told_stage w.stage held
still_stage w GiveBack GaveBack still held = absurd held
still_stage w (Receive slot) (Received serial verdict number) still held = refl
still_stage w (Look slot query) (Looked count) still held = refl
still_stage w step event still held = refl

still_paces : (calls : ℕ) (w : World) (step : Step) (event : StepEvent) (more : ℕ) → IsStill step → Paces calls w step event more more
still_paces calls w Fetch event more still = absurd still
still_paces calls w Call event more still = absurd still
still_paces calls w step event more still = omega arith

pub skipped_paces : (calls : ℕ) (w : World) (step : Step) (more : ℕ) → Paces calls w step Skipped more more
skipped_paces calls w Fetch more = omega arith
skipped_paces calls w Call more = omega arith
skipped_paces calls w step more = omega arith

-- a batch that was committed isn't held
pub stored_free : (w : World) (s : BatchStage) → w.stage ≡ s → ¬ (IsHeld (stores w s).stage)
stored_free w Nothing is held = subst IsHeld is held
stored_free w (Held entries) is held = held
stored_free w (Stored entries) is held = subst IsHeld is held
stored_free w (Shown entries n) is held = subst IsHeld is held

held_or_not : (s : BatchStage) → IsHeld s ⊎ (¬ (IsHeld s))
held_or_not Nothing = inr (λ is. is)
held_or_not (Held entries) = inl tt
held_or_not (Stored entries) = inr (λ is. is)
held_or_not (Shown entries n) = inr (λ is. is)

-- the actions of a held batch are what is committed
held_commits : (h : H.Held) → ¬ (IsGivenUp h) → IsHeld (stage_of h) → to_commit h ≡ accepted_of (entries_at (stage_of h))
held_commits V.Nothing trying held = absurd held
held_commits (V.Fetched b) trying held = refl
held_commits (V.Failed b) trying held = absurd (trying tt)
held_commits (V.Committed b) trying held = absurd held
held_commits (V.Published b n) trying held = absurd held

-- a call of a held batch returned More: it has actions
pub held_some : (p : Phase) (h h' : H.Held) → ¬ (IsGivenUp h) → IsHeld (stage_of h) → AdvanceAnswers A.More p h h' → 0 < length (to_commit h)
held_some p V.Nothing h' trying held is = absurd held
held_some p (V.Fetched b) h' trying held is = is.2
held_some p (V.Failed b) h' trying held is = absurd (trying tt)
held_some p (V.Committed b) h' trying held is = absurd held
held_some p (V.Published b n) h' trying held is = absurd held

module _ {K D : Type 0} {g : Ghosts K D} {d : Disk.Ghosts D} where
  commits_as : (m : ℕ) (p q : Pipeline K D g d) → q.flusher.store ≡ p.flusher.store → to_commit q.flusher.held ≡ to_commit p.flusher.held → CommitsIn m p → CommitsIn m q
  commits_as m p q store actions commits =
      subst (λ (a : List Action). EndsWithin g m a q.flusher.store) (sym actions) (subst (λ (s : K). EndsWithin g m (to_commit p.flusher.held) s) (sym store) commits)

  -- the world is as before, and so are store and batch
  pub same_in_pace : (w : World) (more : ℕ) (p q : Pipeline K D g d) → q.flusher.store ≡ p.flusher.store → q.flusher.held ≡ p.flusher.held → EndsAfter more w p → EndsAfter more w q
  same_in_pace w more p q store held e = record { few = e.few; ends = λ is. commits_as (more + 1) p q store (ap to_commit held) (e.ends is) }

  -- a step that leaves the store alone
  pub still_in_pace : (w : World) (step : Step) (event : StepEvent) (more : ℕ) (p q : Pipeline K D g d) → IsStill step → Answers w step event → MatchesOpenWorld w p → MatchesOpenWorld (after_step w step event) q
      → q.flusher.store ≡ p.flusher.store → EndsAfter more w p → StepsInPace w step event more q
  still_in_pace w step event more p q still answers old new store e = (
    more,
    still_paces most_more w step event more still,
    record {
      few = few_after w step event answers e.few;
      ends = λ held.
          let same = still_stage w step event still held in
          let was : IsHeld w.stage = subst IsHeld same held in
          let before = old.fits.batches.held in
          let after = new.fits.batches.held in
          let actions = λ (s : BatchStage). accepted_of (entries_at s) in
          commits_as (more + 1) p q store
          (held_commits q.flusher.held new.trying (subst IsHeld (sym after) held) ∙ (ap actions (after ∙ (same ∙ sym before)) ∙ sym (held_commits p.flusher.held old.trying (subst IsHeld (sym before) was))))
          (e.ends was);
    },
  )

  -- a batch is fetched
  pub fetched_in_pace : (w : World) (more : ℕ) (q : Pipeline K D g d) → FitsBatches w → MatchesOpenWorld (after_step w Fetch Fetched) q → (g.state q.flusher.store).left ≤ most_calls → StepsInPace w Fetch Fetched more q
  fetched_in_pace w more q few new left =
      let few' = fetched_few w w.sealed few.1 few in (
        most_more,
        omega arith,
        record {
          few = few';
          ends = λ held.
              let after = new.fits.batches.held in
              let s = q.flusher.store in
              let actions = to_commit q.flusher.held in
              let is = held_commits q.flusher.held new.trying (subst IsHeld (sym after) held) in
              let entries = entries_at (stage_of q.flusher.held) in
              at_first (g.state s).phase (g.state s).left (g.takes s actions) (g.will_take s actions) (length actions) new.going left (omega (arith, ap length is, accepted_few entries, ap (λ x. length (entries_at x)) after, few'.2));
        },
      )

  -- a call returned More: what it says of the calls that are left lowers their number
  goes_on_less : (old new : Pipeline K D g d) (more : ℕ) → ((m : ℕ) → CommitsIn (m + 1) old → CommitsIn m new) → CommitsIn (more + 1) old → (next : ℕ) × (next < more) × CommitsIn (next + 1) new
  goes_on_less old new zero ends in_time = absurd (never_in_none _ _ _ _ _ (ends 0 in_time))
  goes_on_less old new (suc n) ends in_time =
      let same : suc n ≡ n + 1 = omega arith in
      (n, omega arith, subst (λ m. CommitsIn m new) same (ends (suc n) in_time))

  pub more_in_pace : (w : World) (more : ℕ) (p q : Pipeline K D g d) → (IsHeld w.stage → (m : ℕ) → CommitsIn (m + 1) p → CommitsIn m q) → EndsAfter more w p → StepsInPace w Call More more q
  more_in_pace w more p q ends e = elim (held_or_not w.stage) [
    | inl held ↦ let less = goes_on_less p q more (ends held) (e.ends held) in (less.0, (λ _. less.1), record { few = e.few; ends = λ _. less.2 })
    | inr idle ↦ (more, (λ held. absurd (idle held)), record { few = e.few; ends = λ held. absurd (idle held) })
  ]

  pub committed_in_pace : (w : World) (more : ℕ) (p q : Pipeline K D g d) → EndsAfter more w p → StepsInPace w Call Committed more q
  committed_in_pace w more p q e = (more, omega arith, record { few = stored_few w w.stage e.few.2 e.few; ends = λ held. absurd (stored_free w w.stage refl held) })

  pub failed_in_pace : (w : World) (more : ℕ) (q : Pipeline K D g d) → StepsInPace w Call Failed more q
  failed_in_pace w more q = (more, omega arith, record { few = none_few w; ends = λ held. absurd held })

-- ---- runs

-- a run in pace continues by one step
pub paces_more : (calls : ℕ) (w : World) (more last next : ℕ) (steps : List Step) (trace : List StepEvent) (s : Step) (e : StepEvent) → PacesAll calls w more steps trace last → Paces calls (after_steps w steps trace) s e last next
    → PacesAll calls w more (steps ++ s ∷ []) (trace ++ e ∷ []) next
paces_more calls w more last next [] [] s e paces step = (next, subst (λ (n : ℕ). Paces calls w s e n next) paces step, refl)
paces_more calls w more last next (x ∷ steps) (y ∷ trace) s e paces step = (paces.0, paces.1, paces_more calls (after_step w x y) paces.0 last next steps trace s e paces.2 step)
paces_more calls w more last next [] (y ∷ trace) s e paces step = absurd paces
paces_more calls w more last next (x ∷ steps) [] s e paces step = absurd paces
