-- What the calls of a keeper make of an open checkpoint and of the use of its segment.
use Rattle.std.proofs.Common.{◌≡◌, ◌≢◌, ◌≤◌, ◌+◌, ◌-◌, ◌*◌, ◌/◌, ◌==◌, ℕ, Bool, true, false, List, length, Some, Result, Ok, Err, OnOk, IfOk, if◌then◌else◌, refl, sym, ◌∙◌, ap, subst, arith}
use Rattle.std.proofs.lemmas.Bool.{eqb-true, eqb-false, ne_eqb}
use Rattle.alm_codec.specs.declared.asked.Asked.{Asked}
use Rattle.alm_codec.proofs.Full.{newer_full}
use Rattle.alm_store.specs.declared.progress.Progress.{Progress}
use Rattle.alm_store.specs.declared.progress.Progress.TheVariants.{More, Done, Failed}
use Rattle.alm_store.specs.declared.refused.Refused.{Refused}
use Rattle.alm_store.specs.declared.refused.Refused.TheVariants as no
use Rattle.alm_keeper.specs.declared.stage.Stage.{Stage}
use Rattle.alm_keeper.specs.declared.stage.Stage.TheVariants.{Idle, Close, CloseSync, Body, BodySync, Gate, TurnSync, Retire, GateSync, Stopped}
use Rattle.alm_keeper.specs.declared.stage.Work.{Work}
use Rattle.alm_keeper.specs.declared.stage.Work.TheVariants.{Commit, Checkpoint}
use Rattle.alm_keeper.specs.Stages.{IsWorking, first_stage, sent_stage, turn_stage, rest_stage, rest_work, phase_of}
use Rattle.alm_store.specs.Advancing.{IsResting}
use Rattle.alm_checkpoint.specs.Layouts.{image_size}
use Rattle.alm_checkpoint.specs.Headers.{is_summed}
use Rattle.alm_keeper.specs.Keeper.{KeeperView, used_room, first_run, piece, after_frame, sends, after_by, BeginsCommit, BeginsCheckpoint, Progresses}
use Rattle.alm_store.specs.Pace.{most}
use Rattle.alm_store.specs.Pace.{Going, IsInPace}
use Rattle.alm_keeper.specs.AsStore.{IsNewest, pieces_out, run_of, is_checkpoint_open, going_if, going_of, store_state_of}
use Rattle.alm_keeper.proofs.CallsLeft.{alone_shut, alone_after, written_more, unwritten, counted}
use Rattle.alm_store.specs.Pacing.{KeepsPace, SamePace, IsJustOpened, Grows, SendsOnePiece, PaceAfter, Goes}

-- ---- pieces

more_by : (out run : ℕ) (a b : Bool) → (out == run) ≡ a → (out + piece (run - out) == run) ≡ b → out + 1 ≤ run
    → (if a then out / most + 1 else out / most) + 1 ≤ (if b then (out + piece (run - out)) / most + 1 else (out + piece (run - out)) / most)
more_by out run true b is to some = let e : out ≡ run = eqb-true out run is in absurd (omega (arith, e, some))
more_by out run false true is to some = omega (arith, some)
more_by out run false false is to some = let other : out + piece (run - out) ≢ run = eqb-false (out + piece (run - out)) run to in omega (arith, other, some)

more_pieces : (out run : ℕ) → out + 1 ≤ run → pieces_out out run + 1 ≤ pieces_out (out + piece (run - out)) run
more_pieces out run some = more_by out run (out == run) (out + piece (run - out) == run) refl refl some

-- before the last one all are whole
whole_pieces : (out run : ℕ) → out + 1 ≤ run → pieces_out out run ≡ out / most
whole_pieces out run some = ap (λ (b : Bool). if b then out / most + 1 else out / most) (ne_eqb out run (λ e. absurd (omega (arith, e, some))))

-- ---- calls

module _ {D : Type 0} (k : KeeperView D) where
  abbrev g : Going
  g = run_of k

  -- the state after a call that isn't the last
  abbrev To : Stage → Work → KeeperView D → Type 0
  To s w h = PaceAfter More (phase_of s w) (used_room k) (used_room h) h.written (going_if (is_checkpoint_open s w k.copying) g) (going_of h)

  sent_open : (b : Bool) → is_checkpoint_open (if b then BodySync else Body) Checkpoint k.copying ≡ true
  sent_open true = refl
  sent_open false = refl

  sends_piece : k.out + 1 ≤ k.run → k.work ≡ Checkpoint → SendsOnePiece (Some g) (going_of (sends (piece (k.run - k.out)) k))
  sends_piece some is =
      let n = piece (k.run - k.out) in
      let h : Going = record { since = k.run - first_run k; pieces = pieces_out (k.out + n) k.run } in
      let goes : is_checkpoint_open (sent_stage (k.out + n) k.run) k.work k.copying ≡ true = ap (λ (w : Work). is_checkpoint_open (sent_stage (k.out + n) k.run) w k.copying) is ∙ sent_open (k.out + n == k.run) in
      subst (λ (b : Bool). SendsOnePiece (Some g) (going_if b h)) (sym goes) (refl, more_pieces k.out k.run some)

  stays : (s t : Stage) (w : Work) → k.work ≡ w → going_if (is_checkpoint_open t w k.copying) g ≡ going_if (is_checkpoint_open s w k.copying) g → going_if (is_checkpoint_open t k.work k.copying) g ≡ going_if (is_checkpoint_open s w k.copying) g
  stays s t w is same = ap (λ (v : Work). going_if (is_checkpoint_open t v k.copying) g) is ∙ same

  turn_open : (b : Bool) → is_checkpoint_open (turn_stage b) Checkpoint k.copying ≡ true
  turn_open true = refl
  turn_open false = refl

  goes_by : (s : Stage) (w : Work) → k.work ≡ w → s ≢ GateSync → IsWorking s → (s ≡ Body → w ≡ Checkpoint → k.out + 1 ≤ k.run) → To s w (after_by s w k)
  goes_by Idle w is not works some = absurd works
  goes_by Stopped w is not works some = absurd works
  goes_by Close Commit is not works some = (refl, stays Close CloseSync Commit is refl)
  goes_by Close Checkpoint is not works some = (refl, stays Close CloseSync Checkpoint is refl)
  goes_by CloseSync Commit is not works some = (refl, stays CloseSync Body Commit is refl)
  goes_by CloseSync Checkpoint is not works some = (refl, stays CloseSync Body Checkpoint is refl)
  goes_by Body Commit is not works some = (refl, stays Body BodySync Commit is refl)
  goes_by Body Checkpoint is not works some = (refl, sends_piece (some refl refl) is)
  goes_by BodySync Commit is not works some = (refl, stays BodySync Gate Commit is refl)
  goes_by BodySync Checkpoint is not works some = (refl, stays BodySync Gate Checkpoint is refl)
  goes_by Gate Commit is not works some = (refl, stays Gate GateSync Commit is refl)
  goes_by Gate Checkpoint is not works some = (refl, stays Gate (turn_stage (is_summed k.stored.version)) Checkpoint is (ap (λ (b : Bool). going_if b g) (turn_open (is_summed k.stored.version))))
  goes_by TurnSync Commit is not works some = (refl, stays TurnSync Retire Commit is refl)
  goes_by TurnSync Checkpoint is not works some = (refl, stays TurnSync Retire Checkpoint is refl)
  goes_by Retire Commit is not works some = (refl, stays Retire GateSync Commit is refl)
  goes_by Retire Checkpoint is not works some = (refl, stays Retire GateSync Checkpoint is refl)
  goes_by GateSync w is not works some = absurd (not refl)

  -- a frame goes out with the checkpoint that is open
  grows : (c : Bool) → (c ≡ true → k.out + 1 ≤ k.run) → image_size k.layout ≤ 3289168 → length k.asked ≤ 256
      → Grows (going_if c g) (going_if (is_checkpoint_open (rest_stage c) (rest_work c) c) (record { since = after_frame c k.run (length k.asked) - first_run k; pieces = pieces_out k.out (after_frame c k.run (length k.asked)) }))
  grows false to_come small few = refl
  grows true to_come small few =
      let some = to_come refl in
      let now = whole_pieces k.out k.run some in
      let later = whole_pieces k.out (after_frame true k.run (length k.asked)) (omega (arith, some)) in
      (omega arith, omega (arith, few), later ∙ sym now, omega (arith, now, some, small))

  ends_by : (w : Work) → (w ≡ Commit → (length k.asked ≤ 256) × (k.copying ≡ true → k.out + 1 ≤ k.run)) → image_size k.layout ≤ 3289168
      → PaceAfter Done (phase_of GateSync w) (used_room k) (used_room (after_by GateSync w k)) (after_by GateSync w k).written (going_if (is_checkpoint_open GateSync w k.copying) g) (going_of (after_by GateSync w k))
  ends_by Commit frame small = let f = frame refl in (omega (arith, f.0), refl, grows k.copying f.1 small f.0)
  ends_by Checkpoint frame small = (omega arith, refl)

  version_by : (s : Stage) (w : Work) → IsNewest k → IsNewest (after_by s w k)
  version_by Idle w is = is
  version_by Stopped w is = is
  version_by Close w is = is
  version_by CloseSync w is = (is.0, alone_shut k.stored.version)
  version_by Body Commit is = is
  version_by Body Checkpoint is = is
  version_by BodySync w is = is
  version_by Gate Commit is = is
  version_by Gate Checkpoint is = is
  version_by TurnSync w is = is
  version_by Retire w is = is
  version_by GateSync Commit is = is
  version_by GateSync Checkpoint is = (newer_full k.stored.version, alone_after k.stored.version)

  segment_by : (s : Stage) (w : Work) → (after_by s w k).layout.segment ≡ k.layout.segment
  segment_by Idle w = refl
  segment_by Stopped w = refl
  segment_by Close w = refl
  segment_by CloseSync w = refl
  segment_by Body Commit = refl
  segment_by Body Checkpoint = refl
  segment_by BodySync w = refl
  segment_by Gate Commit = refl
  segment_by Gate Checkpoint = refl
  segment_by TurnSync w = refl
  segment_by Retire w = refl
  segment_by GateSync Commit = refl
  segment_by GateSync Checkpoint = refl

module _ {D : Type 0} (old new : KeeperView D) where
  segment_stays : (result : Progress) → Progresses result old new → new.layout.segment ≡ old.layout.segment
  segment_stays More goes = ap (λ (k : KeeperView D). k.layout.segment) goes.1 ∙ segment_by old old.stage old.work
  segment_stays Done goes = ap (λ (k : KeeperView D). k.layout.segment) goes.1 ∙ segment_by old old.stage old.work
  segment_stays Failed goes = ap (λ (k : KeeperView D). k.layout.segment) goes

  pub newest_stays : (result : Progress) → Progresses result old new → IsNewest old → IsNewest new
  newest_stays More goes is = subst IsNewest (sym goes.1) (version_by old old.stage old.work is)
  newest_stays Done goes is = subst IsNewest (sym goes.1) (version_by old old.stage old.work is)
  newest_stays Failed goes is = subst IsNewest (sym goes) is

  pub newest_begun : (result : Result Unit Refused) (asked : List Asked) → BeginsCommit result asked old new → IsNewest old → IsNewest new
  newest_begun (Ok u) asked begins is = subst IsNewest (sym begins) is
  newest_begun (Err (no.NotAccepted place)) asked begins is = subst IsNewest (sym begins) is
  newest_begun (Err no.Stopped) asked begins is = subst IsNewest (sym begins) is
  newest_begun (Err no.Working) asked begins is = subst IsNewest (sym begins) is
  newest_begun (Err no.Gap) asked begins is = subst IsNewest (sym begins) is
  newest_begun (Err no.Exhausted) asked begins is = subst IsNewest (sym begins) is

  pub newest_copied : (result : Result Unit Refused) → BeginsCheckpoint result old new → IsNewest old → IsNewest new
  newest_copied (Ok u) begins is = subst IsNewest (sym begins) is
  newest_copied (Err why) begins is = subst IsNewest (sym begins) is

  pace_after : (result : Progress) → IsWorking old.stage → image_size old.layout ≤ 3289168 → (IsWorking old.stage → old.work ≡ Commit → (length old.asked ≤ 256) × (old.copying ≡ true → old.out + 1 ≤ old.run))
      → (old.stage ≡ Body → old.work ≡ Checkpoint → old.out + 1 ≤ old.run) → Progresses result old new → PaceAfter result (phase_of old.stage old.work) (used_room old) (used_room new) new.written (going_of old) (going_of new)
  pace_after More works small frame some goes =
      subst (λ (h : KeeperView D). PaceAfter More (phase_of old.stage old.work) (used_room old) (used_room h) h.written (going_of old) (going_of h)) (sym goes.1)
      (goes_by old old.stage old.work refl goes.0 works some)
  pace_after Done works small frame some goes =
      subst (λ (h : KeeperView D). PaceAfter Done (phase_of old.stage old.work) (used_room old) (used_room h) h.written (going_of old) (going_of h)) (sym goes.1)
      (subst (λ (s : Stage). PaceAfter Done (phase_of s old.work) (used_room old) (used_room (after_by s old.work old)) (after_by s old.work old).written (going_if (is_checkpoint_open s old.work old.copying) (run_of old)) (going_of (after_by s old.work old))) (sym goes.0)
      (ends_by old old.work (λ is. frame works is) small))
  pace_after Failed works small frame some goes = tt

  pub goes_on : (result : Progress) → IsWorking old.stage → image_size old.layout ≤ 3289168 → (IsWorking old.stage → old.work ≡ Commit → (length old.asked ≤ 256) × (old.copying ≡ true → old.out + 1 ≤ old.run))
      → (old.stage ≡ Body → old.work ≡ Checkpoint → old.out + 1 ≤ old.run) → Progresses result old new → Goes result (store_state_of old) (store_state_of new)
  goes_on result works small frame some goes = record {
    segment = segment_stays result goes;
    written = written_more result old new goes;
    unwritten = unwritten result old new goes;
    counted = counted result old new goes;
    pace = pace_after result works small frame some goes;
  }

  -- ---- beginnings

  rest_open : (s : Stage) (w : Work) (c : Bool) → IsResting (phase_of s w) → (s ≡ Idle → c ≡ false) → (IsWorking s → w ≡ Checkpoint → c ≡ true) → c ≡ is_checkpoint_open s w c
  rest_open Idle w c rest off on = off refl
  rest_open Stopped w c rest off on = absurd rest
  rest_open Close Commit c rest off on = absurd rest
  rest_open Close Checkpoint c rest off on = absurd rest
  rest_open CloseSync Commit c rest off on = absurd rest
  rest_open CloseSync Checkpoint c rest off on = absurd rest
  rest_open Body Commit c rest off on = absurd rest
  rest_open Body Checkpoint c rest off on = on tt refl
  rest_open BodySync Commit c rest off on = absurd rest
  rest_open BodySync Checkpoint c rest off on = absurd rest
  rest_open Gate Commit c rest off on = absurd rest
  rest_open Gate Checkpoint c rest off on = absurd rest
  rest_open TurnSync Commit c rest off on = absurd rest
  rest_open TurnSync Checkpoint c rest off on = absurd rest
  rest_open Retire Commit c rest off on = absurd rest
  rest_open Retire Checkpoint c rest off on = absurd rest
  rest_open GateSync Commit c rest off on = absurd rest
  rest_open GateSync Checkpoint c rest off on = absurd rest

  abbrev Stays : KeeperView D → Type 0
  Stays h = SamePace (store_state_of old) (store_state_of h)

  pub begun_pace : (result : Result Unit Refused) (asked : List Asked) → (old.stage ≡ Idle → old.copying ≡ false) → (IsWorking old.stage → old.work ≡ Checkpoint → old.copying ≡ true)
      → BeginsCommit result asked old new → IsResting (phase_of old.stage old.work) → Stays new
  begun_pace result asked off on begins rest = by_result result begins
    where
      same : going_if old.copying (run_of old) ≡ going_of old
      same = ap (λ (b : Bool). going_if b (run_of old)) (rest_open old.stage old.work old.copying rest off on)

      by_result : (result : Result Unit Refused) → BeginsCommit result asked old new → Stays new
      by_result (Ok u) begins = subst Stays (sym begins) (refl, refl, same)
      by_result (Err (no.NotAccepted place)) begins = subst Stays (sym begins) (refl, refl, same)
      by_result (Err no.Stopped) begins = subst Stays (sym begins) (refl, refl, refl)
      by_result (Err no.Working) begins = subst Stays (sym begins) (refl, refl, refl)
      by_result (Err no.Gap) begins = subst Stays (sym begins) (refl, refl, refl)
      by_result (Err no.Exhausted) begins = subst Stays (sym begins) (refl, refl, refl)

  first_open : (b : Bool) → is_checkpoint_open (first_stage b) Checkpoint true ≡ true
  first_open true = refl
  first_open false = refl

  pub fresh : (result : Result Unit Refused) → BeginsCheckpoint result old new → OnOk result (IsJustOpened (going_of new))
  fresh (Ok u) begins =
      let n : Going = record { since = first_run old - first_run old; pieces = pieces_out 0 (first_run old) } in
      subst (λ (h : KeeperView D). IsJustOpened (going_of h)) (sym begins) (subst (λ (b : Bool). IsJustOpened (going_if b n)) (sym (first_open old.other_open)) (omega arith))
  fresh (Err why) begins = tt

-- a keeper that is opened has no checkpoint open
pub opened_pace : {D : Type 0} (k : KeeperView D) → k.stage ≡ Idle → 2 * used_room k ≤ k.layout.segment → KeepsPace (store_state_of k)
opened_pace k idle half =
    subst (IsInPace k.layout.segment (phase_of k.stage k.work) (used_room k) k.written)
    (ap (λ (s : Stage). going_if (is_checkpoint_open s k.work k.copying) (run_of k)) (sym idle)) half

pub if_ok : {A : Type 0} {E : Type 0} {P Q : A → Type 0} (result : Result A E) → IfOk result P → ((a : A) → P a → Q a) → IfOk result Q
if_ok (Ok a) p f = f a p
if_ok (Err e) p f = tt

-- two facts of a result make a third
pub if_ok_both : {A : Type 0} {E : Type 0} {P Q R : A → Type 0} (result : Result A E) → IfOk result P → IfOk result Q → ((a : A) → P a → Q a → R a) → IfOk result R
if_ok_both (Ok a) p q f = f a p q
if_ok_both (Err e) p q f = tt
