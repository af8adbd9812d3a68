-- Steps that leave the device alone, and what is true of a bench, carried over.
use Rattle.std.proofs.Common.{◌≡◌, true, false, ℕ, List, refl, sym, ap, ◌∙◌, subst, inl, arith}
use Rattle.std.proofs.lemmas.Bool.{true≢false}
use Rattle.alm_disk.specs.Device.{DeviceState}
use Rattle.alm_disk.specs.declared.disk.Disk
use Rattle.alm_keeper.specs.declared.keeper.Keeper.{Keeper}
use Rattle.alm_store.specs.declared.store.Store.{Ghosts}
use Rattle.alm_store.specs.Advancing.{IsCalls}
use Rattle.alm_disk.specs.Failures.{HasFailed}
use Rattle.alm_keeper.specs.AsStore.{StandsFor, IsLastEpoch}
use Rattle.alm_model.specs.Plant.{Condensed}
use Rattle.alm_types.specs.declared.answer.Answer.{Answer}
use Rattle.alm_bench.specs.declared.setup.Setup as T
use Rattle.alm_bench.specs.declared.setup.Setup.TheVariants.{Open, Shut, Gone}
use Rattle.alm_pipeline.specs.declared.step.Step.{Step}
use Rattle.alm_pipeline.specs.declared.step.Step.TheVariants.{Send, Take, Seal, Fetch, Call, Publish, Release, GiveBack, Receive, Look, Crash, Reopen}
use Rattle.alm_pipeline.specs.declared.step_event.StepEvent.{StepEvent}
use Rattle.alm_pipeline.specs.declared.step_event.StepEvent.TheVariants.{Failed, Crashed, Opened, Skipped}
use Rattle.alm_pipeline.specs.World.{World, Answers, after_step}
use Rattle.alm_pipeline.specs.Headline.{Sight, Moves}
use Rattle.alm_pipeline.specs.Matches.{IsInner}
use Rattle.alm_pipeline.specs.Pace.{most_more}
use Rattle.alm_pipeline.proofs.Paced.{none_few, skipped_paces}
use Rattle.alm_pipeline.specs.declared.pipeline.Pipeline.{Pipeline}
use Rattle.alm_bench.specs.Stands.{IsSetup, sight, IsThere, serves_well, Reopens, ends_after, steps_paced}

pub after_skipped : (w : World) (step : Step) → after_step w step Skipped ≡ w
after_skipped w (Send slot a) = refl
after_skipped w (Take slot) = refl
after_skipped w Seal = refl
after_skipped w Fetch = refl
after_skipped w Call = refl
after_skipped w Publish = refl
after_skipped w Release = refl
after_skipped w GiveBack = refl
after_skipped w (Receive slot) = refl
after_skipped w (Look slot query) = refl
after_skipped w (Crash bytes) = refl
after_skipped w Reopen = refl

module _ {D : Type 0} {g : Ghosts (Keeper D) D} {d : Disk.Ghosts D} where
  pub carried : (w : World) (step : Step) (event : StepEvent) (n n' k k' : ℕ) (s s' t t' : T.Setup D D g d) → n ≡ n' → k ≡ k' → s ≡ s' → t ≡ t'
      → Moves StandsFor IsLastEpoch w step event (sight n s) (sight k t) → Moves StandsFor IsLastEpoch w step event (sight n' s') (sight k' t')
  carried w step event n n' k k' s s' t t' before then' from to moves =
      subst (λ (x : T.Setup D D g d). Moves StandsFor IsLastEpoch w step event (sight n' x) (sight k' t')) from
      (subst (λ (y : T.Setup D D g d). Moves StandsFor IsLastEpoch w step event (sight n' s) (sight k' y)) to
      (subst (λ (i : ℕ). Moves StandsFor IsLastEpoch w step event (sight i s) (sight k' t)) before
      (subst (λ (i : ℕ). Moves StandsFor IsLastEpoch w step event (sight n s) (sight i t)) then' moves)))

  pub still : (w : World) (s t : T.Setup D D g d) → s ≡ t → IsSetup w s → IsSetup w t
  still w s t same stands = subst (λ (x : T.Setup D D g d). IsSetup w x) same stands

  pub paced_as : (more : ℕ) (w : World) (s t : T.Setup D D g d) → s ≡ t → ends_after more w s → ends_after more w t
  paced_as more w s t same paced = subst (λ (x : T.Setup D D g d). ends_after more w x) same paced

  pub steps_as : (w : World) (step : Step) (event : StepEvent) (more : ℕ) (s t : T.Setup D D g d) → s ≡ t → steps_paced w step event more s → steps_paced w step event more t
  steps_as w step event more s t same paced = subst (λ (x : T.Setup D D g d). steps_paced w step event more x) same paced

  -- a step that is skipped leaves it in the same pace
  pub skips_paced : (w : World) (step : Step) (more : ℕ) (s t : T.Setup D D g d) → s ≡ t → ends_after more w s → steps_paced w step Skipped more t
  skips_paced w step more s t same paced = (more, skipped_paces most_more w step more, subst (λ (v : World). ends_after more v t) (sym (after_skipped w step)) (paced_as more w s t same paced))

  -- after a crash no batch is held
  pub crash_paced : (w : World) (bytes : _) (more : ℕ) (disk : D) (t : T.Setup D D g d) → Shut disk ≡ t → steps_paced w (Crash bytes) Crashed more t
  crash_paced w bytes more disk t same = steps_as w (Crash bytes) Crashed more (Shut disk) t same (more, omega arith, none_few w)

  -- nor after a reopening
  pub open_paced : (w : World) (n more : ℕ) (pipeline : Pipeline (Keeper D) D g d) → steps_paced w Reopen (Opened n) more (Open pipeline)
  open_paced w n more pipeline = (more, omega arith, record { few = none_few w; ends = λ held. absurd held })

  pub failed_between : (n k : ℕ) (s s' t t' : T.Setup D D g d) → s ≡ s' → t ≡ t' → HasFailed (sight n s).failures (sight k t).failures → HasFailed (sight n s').failures (sight k t').failures
  failed_between n k s s' t t' from to failed =
      subst (λ (x : T.Setup D D g d). HasFailed (sight n x).failures (sight k t').failures) from
      (subst (λ (y : T.Setup D D g d). HasFailed (sight n s).failures (sight k y).failures) to failed)

  pub there : (s t : T.Setup D D g d) → s ≡ t → IsThere s → IsThere t
  there s t same is = subst (λ (x : T.Setup D D g d). IsThere x) same is

  pub reopened_between : (event : StepEvent) (s s' t t' : T.Setup D D g d) → s ≡ s' → t ≡ t' → Reopens s event t → Reopens s' event t'
  reopened_between event s s' t t' from to reopens =
      subst (λ (x : T.Setup D D g d). Reopens x event t') from (subst (λ (y : T.Setup D D g d). Reopens s event y) to reopens)

  pub honest_as : (s t : T.Setup D D g d) → s ≡ t → serves_well s → serves_well t
  honest_as s t same is = subst (λ (x : T.Setup D D g d). serves_well x) same is

  -- a bench that has the state of a world has an honest device
  pub stands_honest : (w : World) (s : T.Setup D D g d) → IsSetup w s → serves_well s
  stands_honest w (Open pipeline) is = is.1
  stands_honest w (Shut disk) is = is.1
  stands_honest w Gone is = is

pub same_count : (a b c : Answer) → c ≡ b → b ≡ a → a.refused ≡ c.refused
same_count a b c put took = ap (λ (x : Answer). x.refused) (sym (put ∙ took))

-- what a call that failed did to the device is said only of its state and its failures
pub failed_alike : (w : World) (d m e : Sight) → m.state ≡ e.state → m.failures ≡ e.failures → m.refused ≡ e.refused → Moves StandsFor IsLastEpoch w Call Failed d m → Moves StandsFor IsLastEpoch w Call Failed d e
failed_alike w d m e state failures refused moves = (
  moves.0,
  subst (IsCalls d.state) state moves.1,
  (λ working. subst (HasFailed d.failures) failures (moves.2 working)),
  (λ left. subst (HasFailed d.failures) failures (moves.3 left)),
  sym refused ∙ moves.4,
)

pub shut_not_open : (closed : _) → closed ≡ true → closed ≡ false → ⊥
shut_not_open closed shut opened = true≢false (sym shut ∙ opened)

-- a step that leaves the device alone is skipped if the bench is closed
pub inner_skips : (w : World) (step : Step) → IsInner step → w.closed ≡ true → Answers w step Skipped
inner_skips w (Send slot a) inner shut = λ possible. shut_not_open w.closed shut possible
inner_skips w (Take slot) inner shut = λ possible. shut_not_open w.closed shut possible.0
inner_skips w Seal inner shut = λ possible. shut_not_open w.closed shut possible.0
inner_skips w Fetch inner shut = λ possible. shut_not_open w.closed shut possible.0
inner_skips w Publish inner shut = λ possible. shut_not_open w.closed shut possible.0
inner_skips w Release inner shut = λ possible. shut_not_open w.closed shut possible.0
inner_skips w GiveBack inner shut = λ possible. shut_not_open w.closed shut possible.0
inner_skips w (Receive slot) inner shut = λ possible. shut_not_open w.closed shut possible.0
inner_skips w (Look slot query) inner shut = inl (λ possible. shut_not_open w.closed shut possible.0)
inner_skips w Call inner shut = absurd inner
inner_skips w (Crash bytes) inner shut = absurd inner
inner_skips w Reopen inner shut = absurd inner

-- .. and leaves all as it was
pub inner_stays : (recovers : List ℕ → Condensed → Type 0) (spent : DeviceState → Type 0) (w : World) (step : Step) (d : Sight) → IsInner step → w.closed ≡ true → Moves recovers spent w step Skipped d d
inner_stays recovers spent w (Send slot a) d inner shut = refl
inner_stays recovers spent w (Take slot) d inner shut = refl
inner_stays recovers spent w Seal d inner shut = refl
inner_stays recovers spent w Fetch d inner shut = refl
inner_stays recovers spent w Publish d inner shut = refl
inner_stays recovers spent w Release d inner shut = refl
inner_stays recovers spent w GiveBack d inner shut = refl
inner_stays recovers spent w (Receive slot) d inner shut = refl
inner_stays recovers spent w (Look slot query) d inner shut = inl ((λ possible. shut_not_open w.closed shut possible.0), refl)
inner_stays recovers spent w Call d inner shut = absurd inner
inner_stays recovers spent w (Crash bytes) d inner shut = absurd inner
inner_stays recovers spent w Reopen d inner shut = absurd inner
