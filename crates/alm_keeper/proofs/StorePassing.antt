-- What the calls of a keeper make of its phase and its plants.
use Rattle.std.proofs.Common.{◌≡◌, ◌≢◌, ◌↔◌, ◌≤◌, ◌+◌, ◌-◌, ◌==◌, Bool, true, false, List, if◌then◌else◌, Result, Ok, Err, OnOk, OnErr, refl, sym, ◌∙◌, ap, subst}
use Rattle.alm_types.specs.declared.action.Action.{Action}
use Rattle.alm_codec.specs.declared.asked.Asked.{Asked}
use Rattle.alm_codec.specs.Frames.{asked_actions}
use Rattle.alm_types.specs.Batches.{Judged}
use Rattle.alm_model.specs.Plant.{Condensed}
use Rattle.alm_store.specs.declared.phase.Phase.{Phase}
use Rattle.alm_store.specs.declared.phase.Phase.TheVariants as at
use Rattle.alm_store.specs.declared.progress.Progress.{Progress}
use Rattle.alm_store.specs.declared.progress.Progress.TheVariants.{More, Done, Failed}
use Rattle.alm_store.specs.declared.refused.Refused as R
use Rattle.alm_store.specs.declared.refused.Refused.TheVariants as no
use Rattle.alm_keeper.specs.declared.stage.Stage.{Stage}
use Rattle.alm_keeper.specs.declared.stage.Stage.TheVariants.{Idle, Close, CloseSync, Body, BodySync, Gate, TurnSync, Retire, GateSync, Stopped}
use Rattle.alm_keeper.specs.declared.stage.Work.{Work}
use Rattle.alm_keeper.specs.declared.stage.Work.TheVariants.{Commit, Checkpoint}
use Rattle.alm_keeper.specs.Stages.{IsWorking, first_stage, sent_stage, turn_stage, rest_stage, rest_work, phase_of}
use Rattle.alm_keeper.specs.Keeper.{KeeperView, Standing, next, next_by, begun_by, piece, commits, after_call, after_by, begin_answer, checkpoint_answer, BeginsCommit, BeginsCheckpoint, Progresses}
use Rattle.alm_model.specs.Rules.{admits_all}
use Rattle.alm_checkpoint.specs.Headers.{is_summed}
use Rattle.alm_model.specs.Step.{run}
use Rattle.alm_store.specs.Advancing.{Advanced, CheckpointIsNotOpened, CheckpointIsOpened, CommitIsBegun, CommitIsNotBegun, IsCheckpointing, IsResting}
use Rattle.alm_store.specs.Pacing.{IsJustOpened}
use Rattle.alm_keeper.specs.StoreLaws.{rests}
use Rattle.alm_keeper.specs.AsStore.{store_state_of, going_of}
use Rattle.alm_keeper.proofs.CallsLeft.{Left, fewer, idle_then, next_kept, same_next, stored_kept, first_next}

-- after a call that isn't the last a commit is still under way, and so is any other work
abbrev Moves : (p p' : Phase) → Type 0
Moves p p' = ((p' ≡ at.Committing) ↔ (p ≡ at.Committing)) × (p' ≢ at.Stopped) × (p' ≢ at.Idle)

commit_moves : Moves at.Committing at.Committing
commit_moves = ((λ e. refl, λ e. refl), λ e. absurd cc, λ e. absurd cc)

copy_moves : Moves at.Copying at.Copying
copy_moves = ((λ e. absurd cc, λ e. absurd cc), λ e. absurd cc, λ e. absurd cc)

pause_copies : Moves at.Paused at.Copying
pause_copies = ((λ e. absurd cc, λ e. absurd cc), λ e. absurd cc, λ e. absurd cc)

pause_moves : Moves at.Paused at.Paused
pause_moves = ((λ e. absurd cc, λ e. absurd cc), λ e. absurd cc, λ e. absurd cc)

copy_pauses : Moves at.Copying at.Paused
copy_pauses = ((λ e. absurd cc, λ e. absurd cc), λ e. absurd cc, λ e. absurd cc)

turn_moves : (b : Bool) → Moves at.Copying (phase_of (turn_stage b) Checkpoint)
turn_moves true = copy_moves
turn_moves false = copy_moves

sent_moves : (b : Bool) → Moves at.Paused (phase_of (if b then BodySync else Body) Checkpoint)
sent_moves true = pause_copies
sent_moves false = pause_moves

module _ {D : Type 0} (k : KeeperView D) where
  abbrev To : Stage → Work → Phase → Type 0
  To s w p = Moves p (phase_of s w)

  moves_by : (s : Stage) (w : Work) → k.work ≡ w → s ≢ GateSync → IsWorking s → To (after_by s w k).stage (after_by s w k).work (phase_of s w)
  moves_by Idle w is not works = absurd works
  moves_by Stopped w is not works = absurd works
  moves_by Close Commit is not works = subst (λ (v : Work). To CloseSync v at.Committing) (sym is) commit_moves
  moves_by Close Checkpoint is not works = subst (λ (v : Work). To CloseSync v at.Copying) (sym is) copy_moves
  moves_by CloseSync Commit is not works = subst (λ (v : Work). To Body v at.Committing) (sym is) commit_moves
  moves_by CloseSync Checkpoint is not works = subst (λ (v : Work). To Body v at.Copying) (sym is) copy_pauses
  moves_by Body Commit is not works = subst (λ (v : Work). To BodySync v at.Committing) (sym is) commit_moves
  moves_by Body Checkpoint is not works =
      subst (λ (v : Work). To (sent_stage (k.out + piece (k.run - k.out)) k.run) v at.Paused) (sym is) (sent_moves (k.out + piece (k.run - k.out) == k.run))
  moves_by BodySync Commit is not works = subst (λ (v : Work). To Gate v at.Committing) (sym is) commit_moves
  moves_by BodySync Checkpoint is not works = subst (λ (v : Work). To Gate v at.Copying) (sym is) copy_moves
  moves_by Gate Commit is not works = subst (λ (v : Work). To GateSync v at.Committing) (sym is) commit_moves
  moves_by Gate Checkpoint is not works = subst (λ (v : Work). To (turn_stage (is_summed k.stored.version)) v at.Copying) (sym is) (turn_moves (is_summed k.stored.version))
  moves_by TurnSync Commit is not works = subst (λ (v : Work). To Retire v at.Committing) (sym is) commit_moves
  moves_by TurnSync Checkpoint is not works = subst (λ (v : Work). To Retire v at.Copying) (sym is) copy_moves
  moves_by Retire Commit is not works = subst (λ (v : Work). To GateSync v at.Committing) (sym is) commit_moves
  moves_by Retire Checkpoint is not works = subst (λ (v : Work). To GateSync v at.Copying) (sym is) copy_moves
  moves_by GateSync w is not works = absurd (not refl)

  -- a work is done
  abbrev Ends : KeeperView D → Condensed → Type 0
  Ends new q = (phase_of new.stage new.work ≢ at.Committing) × (phase_of new.stage new.work ≢ at.Stopped) × (new.stored.plant ≡ q) × ((next new).plant ≡ q)

  commit_ends : (b : Bool) → k.copying ≡ b → Ends (commits k) (begun_by Commit k).plant
  commit_ends true is = (
    (λ e. absurd (subst (λ (b : Bool). phase_of (rest_stage b) (rest_work b) ≡ at.Committing → ⊥) (sym is) (λ x. absurd cc) e)),
    (λ e. absurd (subst (λ (b : Bool). phase_of (rest_stage b) (rest_work b) ≡ at.Stopped → ⊥) (sym is) (λ x. absurd cc) e)),
    refl,
    ap (λ (b : Bool). (next_by (rest_stage b) (commits k).stored (begun_by (rest_work b) (commits k))).plant) is,
  )
  commit_ends false is = (
    (λ e. absurd (subst (λ (b : Bool). phase_of (rest_stage b) (rest_work b) ≡ at.Committing → ⊥) (sym is) (λ x. absurd cc) e)),
    (λ e. absurd (subst (λ (b : Bool). phase_of (rest_stage b) (rest_work b) ≡ at.Stopped → ⊥) (sym is) (λ x. absurd cc) e)),
    refl,
    ap (λ (b : Bool). (next_by (rest_stage b) (commits k).stored (begun_by (rest_work b) (commits k))).plant) is,
  )

  ends_by : (w : Work) → Ends (after_by GateSync w k) (begun_by w k).plant
  ends_by Commit = commit_ends k.copying refl
  ends_by Checkpoint = ((λ e. absurd cc), (λ e. absurd cc), refl, refl)

next_working : (s : Stage) (stored begun : Standing) → IsWorking s → next_by s stored begun ≡ begun
next_working Idle stored begun is = absurd is
next_working Stopped stored begun is = absurd is
next_working Close stored begun is = refl
next_working CloseSync stored begun is = refl
next_working Body stored begun is = refl
next_working BodySync stored begun is = refl
next_working Gate stored begun is = refl
next_working TurnSync stored begun is = refl
next_working Retire stored begun is = refl
next_working GateSync stored begun is = refl

begun_stays : {D : Type 0} (k : KeeperView D) (disk : D) (s : Stage) (w : Work) → begun_by w (record k { disk = disk; stage = s }) ≡ begun_by w k
begun_stays k disk s Commit = refl
begun_stays k disk s Checkpoint = refl

module _ {D : Type 0} (old new : KeeperView D) (works : IsWorking old.stage) where
  pub advanced : (result : Progress) → (old.work ≡ Checkpoint → old.out ≤ old.run) → Progresses result old new → Advanced result (store_state_of old) (store_state_of new)
  advanced More runs goes =
      let m = moves_by old old.stage old.work refl goes.0 works in
      let moves : Moves (phase_of old.stage old.work) (phase_of new.stage new.work) = subst (λ (k : KeeperView D). Moves (phase_of old.stage old.work) (phase_of k.stage k.work)) (sym goes.1) m in (
        moves.0,
        moves.1,
        moves.2,
        ap (λ (k : KeeperView D). k.stored.plant) goes.1 ∙ ap (λ (s : Standing). s.plant) (stored_kept old old.stage old.work goes.0),
        ap (λ (k : KeeperView D). (next k).plant) goes.1 ∙ ap (λ (s : Standing). s.plant) (same_next (after_call old) new.disk ∙ next_kept old old.stage old.work refl goes.0 works),
        fewer old new works runs goes,
      )
  advanced Done runs goes =
      let is : after_call old ≡ after_by GateSync old.work old = ap (λ (s : Stage). after_by s old.work old) goes.0 in
      let e = ends_by old old.work in
      let n : (next old).plant ≡ (begun_by old.work old).plant = ap (λ (s : Standing). s.plant) (next_working old.stage old.stored (begun_by old.work old) works) in
      let here : Ends old new (begun_by old.work old).plant =
      subst (λ (k : KeeperView D). Ends old k (begun_by old.work old).plant) (sym goes.1)
      (subst (λ (k : KeeperView D). Ends old (record k { disk = new.disk }) (begun_by old.work old).plant) (sym is) (e.0, e.1, e.2, ap (λ (s : Standing). s.plant) (same_next (after_by GateSync old.work old) new.disk) ∙ e.3)) in
      (here.0, here.1, here.2 ∙ sym n, here.3 ∙ sym n, idle_then old new goes)
  advanced Failed runs goes = (
    ap (λ (k : KeeperView D). phase_of k.stage k.work) goes,
    ap (λ (k : KeeperView D). k.stored.plant) goes,
    ap (λ (k : KeeperView D). (next k).plant) goes ∙ ap (λ (s : Standing). s.plant) (begun_stays old new.disk Stopped old.work ∙ sym (next_working old.stage old.stored (begun_by old.work old) works)),
  )

-- ---- beginnings

resting_other : (p : Phase) → IsResting p → (p ≢ at.Committing) × (p ≢ at.Stopped)
resting_other at.Idle is = (λ e. absurd cc, λ e. absurd cc)
resting_other at.Paused is = (λ e. absurd cc, λ e. absurd cc)
resting_other at.Committing is = absurd is
resting_other at.Copying is = absurd is
resting_other at.Stopped is = absurd is

began : (p : Phase) (plant : Condensed) (batch : Judged) (x : Unit) → begin_answer p plant batch ≡ Ok x → IsResting p
began at.Idle plant batch x is = tt
began at.Paused plant batch x is = tt
began at.Committing plant batch x is = absurd cc
began at.Copying plant batch x is = absurd cc
began at.Stopped plant batch x is = absurd cc

opened : (s : Stage) (w : Work) (epoch : _) (x : Unit) → checkpoint_answer (phase_of s w) epoch ≡ Ok x → phase_of s w ≡ at.Idle
opened s w epoch x is = by_phase (phase_of s w) is
  where
    by_phase : (p : Phase) → checkpoint_answer p epoch ≡ Ok x → p ≡ at.Idle
    by_phase at.Idle is = refl
    by_phase at.Paused is = absurd cc
    by_phase at.Committing is = absurd cc
    by_phase at.Copying is = absurd cc
    by_phase at.Stopped is = absurd cc

first_open : (b : Bool) → IsCheckpointing (phase_of (first_stage b) Checkpoint)
first_open true = tt
first_open false = tt

module _ {D : Type 0} (old new : KeeperView D) where
  pub begun_commit : (result : Result Unit R.Refused) (asked : List Asked) (actions : List Action) (batch : Judged) → asked_actions asked ≡ actions → result ≡ begin_answer (phase_of old.stage old.work) old.stored.plant batch → BeginsCommit result asked old new
      → OnOk result (admits_all old.stored.plant actions ≡ true) → OnOk result (Left new ≤ 4) → OnOk result (CommitIsBegun actions (store_state_of old) (store_state_of new))
  begun_commit (Ok x) asked actions batch same is goes admitted calls = record {
    resting = began (phase_of old.stage old.work) old.stored.plant batch x (sym is);
    committing = ap (λ (k : KeeperView D). phase_of k.stage k.work) goes;
    next = ap (λ (k : KeeperView D). (next k).plant) goes ∙ ap (run old.stored.plant) same;
    admitted = admitted;
    calls = calls;
  }
  begun_commit (Err why) asked actions batch same is goes admitted calls = tt

  pub refused_phase : (result : Result Unit R.Refused) (asked : List Asked) → BeginsCommit result asked old new → IsResting (phase_of old.stage old.work)
      → OnErr result (CommitIsNotBegun (store_state_of old) (store_state_of new))
  refused_phase (Ok x) asked goes rest = tt
  refused_phase (Err (no.NotAccepted place)) asked goes rest =
      let o = resting_other (phase_of old.stage old.work) rest in
      let p : phase_of new.stage new.work ≡ at.Stopped = ap (λ (k : KeeperView D). phase_of k.stage k.work) goes in (
        λ e. absurd (stopped (sym p ∙ e)),
        ap (λ (k : KeeperView D). (next k).plant) goes ∙ sym (rests old o.0 o.1),
      )
    where
      stopped : at.Stopped ≡ at.Committing → ⊥
      stopped e = absurd cc
  refused_phase (Err no.Stopped) asked goes rest = (λ e. (resting_other (phase_of old.stage old.work) rest).0 (sym (ap (λ (k : KeeperView D). phase_of k.stage k.work) goes) ∙ e), ap (λ (k : KeeperView D). (next k).plant) goes)
  refused_phase (Err no.Working) asked goes rest = (λ e. (resting_other (phase_of old.stage old.work) rest).0 (sym (ap (λ (k : KeeperView D). phase_of k.stage k.work) goes) ∙ e), ap (λ (k : KeeperView D). (next k).plant) goes)
  refused_phase (Err no.Gap) asked goes rest = (λ e. (resting_other (phase_of old.stage old.work) rest).0 (sym (ap (λ (k : KeeperView D). phase_of k.stage k.work) goes) ∙ e), ap (λ (k : KeeperView D). (next k).plant) goes)
  refused_phase (Err no.Exhausted) asked goes rest = (λ e. (resting_other (phase_of old.stage old.work) rest).0 (sym (ap (λ (k : KeeperView D). phase_of k.stage k.work) goes) ∙ e), ap (λ (k : KeeperView D). (next k).plant) goes)

  pub opened_checkpoint : (result : Result Unit R.Refused) → result ≡ checkpoint_answer (phase_of old.stage old.work) old.stored.epoch → BeginsCheckpoint result old new → OnOk result (Left new ≤ 320)
      → OnOk result (IsJustOpened (going_of new)) → OnOk result (CheckpointIsOpened (store_state_of old) (store_state_of new))
  opened_checkpoint (Ok x) is goes calls fresh = record {
    idle = opened old.stage old.work old.stored.epoch x (sym is);
    is_open = subst IsCheckpointing (sym (ap (λ (k : KeeperView D). phase_of k.stage k.work) goes)) (first_open old.other_open);
    next = ap (λ (k : KeeperView D). (next k).plant) goes ∙ ap (λ (s : Standing). s.plant) (first_next old.other_open old.stored _);
    calls = calls;
    fresh = fresh;
  }
  opened_checkpoint (Err why) is goes calls fresh = tt

  pub not_opened : (result : Result Unit R.Refused) → BeginsCheckpoint result old new → OnErr result (CheckpointIsNotOpened (store_state_of old) (store_state_of new))
  not_opened (Ok x) goes = tt
  not_opened (Err why) goes = (ap (λ (k : KeeperView D). phase_of k.stage k.work) goes, ap (λ (k : KeeperView D). (next k).plant) goes, ap going_of goes)
