-- How many calls of a keeper's work are left, and what it takes when they are done.
use Rattle.std.proofs.Common.{◌≡◌, ◌≢◌, ◌<◌, ◌≤◌, ◌+◌, ◌-◌, ◌==◌, ◌⊎◌, inl, inr, ℕ, Bool, true, false, List, length, Result, Ok, Err, OnOk, if◌then◌else◌, refl, sym, ◌∙◌, ap, subst, arith}
use Rattle.std.proofs.lemmas.Bool.{eqb-false}
use Rattle.alm_types.specs.declared.action.Action.{Action}
use Rattle.alm_codec.specs.declared.asked.Asked.{Asked}
use Rattle.alm_store.specs.declared.phase.Phase.TheVariants as at
use Rattle.alm_store.specs.declared.progress.Progress.{Progress}
use Rattle.alm_store.specs.declared.progress.Progress.TheVariants.{More, Done, Failed}
use Rattle.alm_store.specs.declared.refused.Refused.{Refused}
use Rattle.alm_keeper.specs.declared.stage.Stage.{Stage}
use Rattle.alm_keeper.specs.declared.stage.Stage.TheVariants.{Idle, Close, CloseSync, Body, BodySync, Gate, TurnSync, Retire, GateSync, Stopped}
use Rattle.alm_keeper.specs.declared.stage.Work.{Work}
use Rattle.alm_keeper.specs.declared.stage.Work.TheVariants.{Commit, Checkpoint}
use Rattle.alm_keeper.specs.Stages.{IsWorking, first_stage, sent_stage, turn_stage, phase_of}
use Rattle.alm_checkpoint.specs.Headers.{is_summed}
use Rattle.alm_keeper.specs.Stand.{IsAlone, left_open}
use Rattle.alm_codec.specs.declared.version.Version.{Version}
use Rattle.alm_codec.specs.declared.version.Version.TheVariants.{V01, V02, V03}
use Rattle.alm_codec.specs.Versions.{AreBorne, newer}
use Rattle.alm_codec.proofs.Full.{newer_bears}
use Rattle.alm_checkpoint.specs.Layouts.{half_len, image_size}
use Rattle.alm_keeper.specs.Keeper.{KeeperView, Standing, HasRoomFor, HasRoomIn, next, next_by, begun_by, first_run, piece, sends, after_call, after_by, BeginsCommit, BeginsCheckpoint, Progresses}
use Rattle.alm_store.specs.Advancing.{IsCheckpointing, TakesOn}
use Rattle.alm_keeper.specs.AsStore.{pieces, gate_calls, body_calls, calls_left}

-- a half takes frames if the other's gate is closed, and after a checkpoint
pub alone_shut : (version : Version) → IsAlone version false
alone_shut V01 = refl
alone_shut V02 = refl
alone_shut V03 = refl

pub alone_after : (version : Version) → IsAlone (newer version) (left_open version)
alone_after V01 = refl
alone_after V02 = refl
alone_after V03 = refl

-- a call is next of a work that is under way
pub works : (s : Stage) (w : Work) → (phase_of s w ≡ at.Committing) ⊎ IsCheckpointing (phase_of s w) → IsWorking s
works Idle w (inl e) = absurd cc
works Idle w (inr e) = absurd e
works Stopped w (inl e) = absurd cc
works Stopped w (inr e) = absurd e
works Close w e = tt
works CloseSync w e = tt
works Body w e = tt
works BodySync w e = tt
works Gate w e = tt
works TurnSync w e = tt
works Retire w e = tt
works GateSync w e = tt

-- ---- how many

few_pieces : (left : ℕ) → left ≤ 20066409 → pieces left ≤ 307
few_pieces left most = omega (arith, most)

few_bodies : (w : Work) (left : ℕ) → (w ≡ Checkpoint → left ≤ 20066409) → body_calls w left ≤ 312
few_bodies Commit left most = omega arith
few_bodies Checkpoint left most = omega (arith, few_pieces left (most refl))

few_gates : (w : Work) → gate_calls w ≤ 4
few_gates Commit = omega arith
few_gates Checkpoint = omega arith

pub few_calls : (s : Stage) (w : Work) (left : ℕ) → (IsWorking s → w ≡ Checkpoint → left ≤ 20066409) → calls_left s w left ≤ 320
few_calls Idle w left most = omega arith
few_calls Stopped w left most = omega arith
few_calls Close w left most = omega (arith, few_bodies w left (most tt))
few_calls CloseSync w left most = omega (arith, few_bodies w left (most tt))
few_calls Body w left most = omega (arith, few_bodies w left (most tt))
few_calls BodySync w left most = omega (arith, few_gates w)
few_calls Gate w left most = omega (arith, few_gates w)
few_calls TurnSync w left most = omega arith
few_calls Retire w left most = omega arith
few_calls GateSync w left most = omega arith

first_calls : (b : Bool) (left : ℕ) → left ≤ 20066409 → calls_left (first_stage b) Checkpoint left ≤ 320
first_calls true left most = few_calls Close Checkpoint left (λ _ _. most)
first_calls false left most = few_calls Body Checkpoint left (λ _ _. most)

-- a piece less, or the sync
piece_less : (out run : ℕ) (b : Bool) → (out + piece (run - out) == run) ≡ b → out ≤ run → calls_left (if b then BodySync else Body) Checkpoint (run - (out + piece (run - out))) < 5 + pieces (run - out)
piece_less out run true is within = omega arith
piece_less out run false is within =
    let other : out + piece (run - out) ≢ run = eqb-false (out + piece (run - out)) run is in
    omega (arith, other, within)

-- ---- what a call makes of them

abbrev pub Left : {D : Type 0} → KeeperView D → ℕ
Left k = calls_left k.stage k.work (k.run - k.out)

sent_next : (b : Bool) (stored begun : Standing) → next_by (if b then BodySync else Body) stored begun ≡ begun
sent_next true stored begun = refl
sent_next false stored begun = refl

turn_calls : (b : Bool) (w : Work) (left : ℕ) → calls_left (turn_stage b) w left ≤ 3
turn_calls true w left = omega arith
turn_calls false w left = omega arith

turn_next : (b : Bool) (stored begun : Standing) → next_by (turn_stage b) stored begun ≡ begun
turn_next true stored begun = refl
turn_next false stored begun = refl

pub first_next : (b : Bool) (stored begun : Standing) → next_by (first_stage b) stored begun ≡ begun
first_next true stored begun = refl
first_next false stored begun = refl

module _ {D : Type 0} (k : KeeperView D) where
  fewer_by : (s : Stage) (w : Work) → k.work ≡ w → s ≢ GateSync → IsWorking s → (w ≡ Checkpoint → k.out ≤ k.run) → Left (after_by s w k) < calls_left s w (k.run - k.out)
  fewer_by Idle w is not at_work runs = absurd at_work
  fewer_by Stopped w is not at_work runs = absurd at_work
  fewer_by Close w is not at_work runs = omega (arith, ap (λ (v : Work). body_calls v (k.run - k.out)) is)
  fewer_by CloseSync w is not at_work runs = omega (arith, ap (λ (v : Work). body_calls v (k.run - k.out)) is)
  fewer_by Body Commit is not at_work runs = omega (arith, ap gate_calls is)
  fewer_by Body Checkpoint is not at_work runs =
      let stage = sent_stage (k.out + piece (k.run - k.out)) k.run in
      let less = piece_less k.out k.run (k.out + piece (k.run - k.out) == k.run) refl (runs refl) in
      omega (arith, less, ap (λ (v : Work). calls_left stage v (k.run - (k.out + piece (k.run - k.out)))) is)
  fewer_by BodySync w is not at_work runs = omega (arith, ap gate_calls is)
  fewer_by Gate Commit is not at_work runs = omega arith
  fewer_by Gate Checkpoint is not at_work runs = omega (arith, turn_calls (is_summed k.stored.version) k.work (k.run - k.out))
  fewer_by TurnSync w is not at_work runs = omega arith
  fewer_by Retire w is not at_work runs = omega arith
  fewer_by GateSync w is not at_work runs = absurd (not refl)

  at_stage : (s : Stage) (w v : Work) → v ≡ w → begun_by v (record k { stage = s }) ≡ begun_by w k
  at_stage s w v is = by_work v ∙ ap (λ (x : Work). begun_by x k) is
    where
      by_work : (x : Work) → begun_by x (record k { stage = s }) ≡ begun_by x k
      by_work Commit = refl
      by_work Checkpoint = refl

  -- what is next stays until the work is done
  pub next_kept : (s : Stage) (w : Work) → k.work ≡ w → s ≢ GateSync → IsWorking s → next (after_by s w k) ≡ next_by s k.stored (begun_by w k)
  next_kept Idle w is not at_work = absurd at_work
  next_kept Stopped w is not at_work = absurd at_work
  next_kept Close w is not at_work = at_stage CloseSync w k.work is
  next_kept CloseSync w is not at_work = by_work k.work ∙ ap (λ (v : Work). begun_by v k) is
    where
      by_work : (v : Work) → begun_by v (record k { stage = Body; other_open = false }) ≡ begun_by v k
      by_work Commit = refl
      by_work Checkpoint = refl
  next_kept Body Commit is not at_work = at_stage BodySync Commit k.work is
  next_kept Body Checkpoint is not at_work =
      sent_next (k.out + piece (k.run - k.out) == k.run) k.stored (begun_by k.work (sends (piece (k.run - k.out)) k)) ∙ ap (λ (v : Work). begun_by v (sends (piece (k.run - k.out)) k)) is
  next_kept BodySync w is not at_work = at_stage Gate w k.work is
  next_kept Gate Commit is not at_work = at_stage GateSync Commit k.work is
  next_kept Gate Checkpoint is not at_work =
      turn_next (is_summed k.stored.version) k.stored (begun_by k.work (record k { stage = turn_stage (is_summed k.stored.version) })) ∙ at_stage (turn_stage (is_summed k.stored.version)) Checkpoint k.work is
  next_kept TurnSync w is not at_work = at_stage Retire w k.work is
  next_kept Retire w is not at_work = at_stage GateSync w k.work is
  next_kept GateSync w is not at_work = absurd (not refl)

  -- and what is stored
  pub stored_kept : (s : Stage) (w : Work) → s ≢ GateSync → (after_by s w k).stored ≡ k.stored
  stored_kept Idle w not = refl
  stored_kept Stopped w not = refl
  stored_kept Close w not = refl
  stored_kept CloseSync w not = refl
  stored_kept Body Commit not = refl
  stored_kept Body Checkpoint not = refl
  stored_kept BodySync w not = refl
  stored_kept Gate Commit not = refl
  stored_kept Gate Checkpoint not = refl
  stored_kept TurnSync w not = refl
  stored_kept Retire w not = refl
  stored_kept GateSync w not = absurd (not refl)

  written_by : (s : Stage) (w : Work) → (after_by s w k).written ≤ k.written + 65536
  written_by Idle w = omega arith
  written_by Stopped w = omega arith
  written_by Close w = omega arith
  written_by CloseSync w = omega arith
  written_by Body Commit = omega arith
  written_by Body Checkpoint = omega arith
  written_by BodySync w = omega arith
  written_by Gate Commit = omega arith
  written_by Gate Checkpoint = omega arith
  written_by TurnSync w = omega arith
  written_by Retire w = omega arith
  written_by GateSync Commit = omega arith
  written_by GateSync Checkpoint = omega arith

  unwritten_by : (s : Stage) (w : Work) → phase_of s w ≢ at.Paused → (after_by s w k).written ≤ k.written
  unwritten_by Idle w not = omega arith
  unwritten_by Stopped w not = omega arith
  unwritten_by Close w not = omega arith
  unwritten_by CloseSync w not = omega arith
  unwritten_by Body Commit not = omega arith
  unwritten_by Body Checkpoint not = absurd (not refl)
  unwritten_by BodySync w not = omega arith
  unwritten_by Gate Commit not = omega arith
  unwritten_by Gate Checkpoint not = omega arith
  unwritten_by TurnSync w not = omega arith
  unwritten_by Retire w not = omega arith
  unwritten_by GateSync Commit not = omega arith
  unwritten_by GateSync Checkpoint not = omega arith

  counted_by : (s : Stage) (w : Work) → (s ≢ GateSync) ⊎ (phase_of s w ≢ at.Committing) → k.written ≤ 65536 → k.written ≤ (after_by s w k).written
  counted_by Idle w not few = omega (arith, few)
  counted_by Stopped w not few = omega (arith, few)
  counted_by Close w not few = omega (arith, few)
  counted_by CloseSync w not few = omega (arith, few)
  counted_by Body Commit not few = omega (arith, few)
  counted_by Body Checkpoint not few = omega (arith, few)
  counted_by BodySync w not few = omega (arith, few)
  counted_by Gate Commit not few = omega (arith, few)
  counted_by Gate Checkpoint not few = omega (arith, few)
  counted_by TurnSync w not few = omega (arith, few)
  counted_by Retire w not few = omega (arith, few)
  counted_by GateSync Commit (inl not) few = absurd (not refl)
  counted_by GateSync Commit (inr not) few = absurd (not refl)
  counted_by GateSync Checkpoint not few = omega (arith, few)

  -- what was taken is taken
  takes_by : (s : Stage) (w : Work) (actions : List Action) → s ≢ GateSync → HasRoomFor k actions → HasRoomFor (after_by s w k) actions
  takes_by Idle w actions not room = room
  takes_by Stopped w actions not room = room
  takes_by Close w actions not room = room
  takes_by CloseSync w actions not room = (room.0, alone_shut k.stored.version)
  takes_by Body Commit actions not room = room
  takes_by Body Checkpoint actions not room = room
  takes_by BodySync w actions not room = room
  takes_by Gate Commit actions not room = room
  takes_by Gate Checkpoint actions not room = room
  takes_by TurnSync w actions not room = room
  takes_by Retire w actions not room = room
  takes_by GateSync w actions not room = absurd (not refl)

-- it doesn't depend on the device
pub same_next : {D : Type 0} (k : KeeperView D) (disk : D) → next (record k { disk = disk }) ≡ next k
same_next k disk = ap (next_by k.stage k.stored) (by_work k.work)
  where
    by_work : (w : Work) → begun_by w (record k { disk = disk }) ≡ begun_by w k
    by_work Commit = refl
    by_work Checkpoint = refl

-- an open checkpoint's stage is of a checkpoint
pub open_work : (s : Stage) (w : Work) → IsCheckpointing (phase_of s w) → w ≡ Checkpoint
open_work Idle w e = absurd e
open_work Stopped w e = absurd e
open_work s Checkpoint e = refl
open_work Close Commit e = absurd e
open_work CloseSync Commit e = absurd e
open_work Body Commit e = absurd e
open_work BodySync Commit e = absurd e
open_work Gate Commit e = absurd e
open_work TurnSync Commit e = absurd e
open_work Retire Commit e = absurd e
open_work GateSync Commit e = absurd e

module _ {D : Type 0} where
  pub commit_calls : (result : Result Unit Refused) (asked : List Asked) (old new : KeeperView D) → BeginsCommit result asked old new → OnOk result (Left new ≤ 4)
  commit_calls (Ok u) asked old new begins = let is = ap Left begins in omega (arith, is)
  commit_calls (Err why) asked old new begins = tt

  pub checkpoint_calls : (result : Result Unit Refused) (old new : KeeperView D) → image_size old.layout ≤ 3289168 → BeginsCheckpoint result old new → OnOk result (Left new ≤ 320)
  checkpoint_calls (Ok u) old new small begins =
      let is = ap Left begins in
      let few = first_calls old.other_open (first_run old - 0) (omega (arith, small)) in
      omega (arith, is, few)
  checkpoint_calls (Err why) old new small begins = tt

  -- a checkpoint makes room for a whole batch
  pub checkpoint_room : (result : Result Unit Refused) (old new : KeeperView D) → 4116 ≤ old.layout.segment → BeginsCheckpoint result old new
      → OnOk result ((actions : List Action) → length actions ≤ 256 → HasRoomIn (next new) actions)
  checkpoint_room (Ok u) old new least begins = λ actions few.
      let is = ap next begins ∙ first_next old.other_open old.stored _ in
      let room : (next new).room ≡ old.layout.segment = ap (λ (s : Standing). s.room) is ∙ omega arith in
      let version : newer old.stored.version ≡ (next new).version = ap (λ (s : Standing). s.version) (sym is) in
      (omega (arith, room, least, few), subst (λ (v : Version). AreBorne v actions) version (newer_bears old.stored.version actions))
  checkpoint_room (Err why) old new least begins = tt

  pub fewer : (old new : KeeperView D) → IsWorking old.stage → (old.work ≡ Checkpoint → old.out ≤ old.run) → Progresses More old new → Left new < Left old
  fewer old new works runs goes =
      let left = ap Left goes.1 in
      let less = fewer_by old old.stage old.work refl goes.0 works runs in
      omega (arith, left, less)

  -- a checkpoint is done
  turned : (old new : KeeperView D) → IsCheckpointing (phase_of old.stage old.work) → Progresses Done old new → (new.stage ≡ Idle) × (new.stored ≡ begun_by Checkpoint old)
  turned old new goes_on goes =
      let work = open_work old.stage old.work goes_on in
      let is : after_call old ≡ after_by GateSync Checkpoint old = λ i. after_by (goes.0 i) (work i) old in
      (ap (λ (k : KeeperView D). k.stage) (goes.1) ∙ ap (λ (k : KeeperView D). k.stage) is, ap (λ (k : KeeperView D). k.stored) (goes.1) ∙ ap (λ (k : KeeperView D). k.stored) is)

  turned_alone : (old new : KeeperView D) → IsCheckpointing (phase_of old.stage old.work) → Progresses Done old new → IsAlone new.stored.version new.other_open
  turned_alone old new goes_on goes =
      let work = open_work old.stage old.work goes_on in
      let is : new ≡ record (after_by GateSync Checkpoint old) { disk = new.disk } = goes.1 ∙ λ i. record (after_by (goes.0 i) (work i) old) { disk = new.disk } in
      subst (λ (k : KeeperView D). IsAlone k.stored.version k.other_open) (sym is) (alone_after old.stored.version)

  pub idle_then : (old new : KeeperView D) → Progresses Done old new → IsCheckpointing (phase_of old.stage old.work) → phase_of new.stage new.work ≡ at.Idle
  idle_then old new goes goes_on = ap (λ (s : Stage). phase_of s new.work) (turned old new goes_on goes).0

  -- what will be taken is taken then, and will be until then
  pub will_take_on : (result : Progress) (old new : KeeperView D) → IsWorking old.stage → Progresses result old new
      → (actions : List Action) → HasRoomIn (next old) actions → TakesOn result (phase_of old.stage old.work) (HasRoomIn (next new) actions) (HasRoomFor new actions)
  will_take_on More old new works goes actions room =
      let same : next new ≡ next old = ap next goes.1 ∙ same_next (after_call old) new.disk ∙ next_kept old old.stage old.work refl goes.0 works in
      subst (λ (s : Standing). HasRoomIn s actions) (sym same) room
  will_take_on Done old new works goes actions room = λ goes_on.
      let work = open_work old.stage old.work goes_on in
      let same : next old ≡ new.stored = (λ i. next_by (goes.0 i) old.stored (begun_by (work i) old)) ∙ sym (turned old new goes_on goes).1 in
      (subst (λ (s : Standing). HasRoomIn s actions) same room, turned_alone old new goes_on goes)
  will_take_on Failed old new works goes actions room = tt

  -- what was taken is taken after a checkpoint's call
  pub takes_kept : (result : Progress) (old new : KeeperView D) → IsCheckpointing (phase_of old.stage old.work) → old.run + old.stored.room ≤ half_len old.layout → Progresses result old new → result ≢ Failed
      → (actions : List Action) → HasRoomFor old actions → HasRoomFor new actions
  takes_kept More old new goes_on runs goes not actions room =
      subst (λ (k : KeeperView D). HasRoomFor k actions) (sym goes.1) (takes_by old old.stage old.work actions goes.0 room)
  takes_kept Done old new goes_on runs goes not actions room =
      let turns = (turned old new goes_on goes).1 in
      let left : new.stored.room ≡ half_len old.layout - old.run = ap (λ (s : Standing). s.room) turns in
      let version : newer old.stored.version ≡ new.stored.version = ap (λ (s : Standing). s.version) (sym turns) in
      ((omega (arith, left, runs, room.0.0), subst (λ (v : Version). AreBorne v actions) version (newer_bears old.stored.version actions)), turned_alone old new goes_on goes)
  takes_kept Failed old new goes_on runs goes not actions room = absurd (not refl)

  pub written_more : (result : Progress) (old new : KeeperView D) → Progresses result old new → new.written ≤ old.written + 65536
  written_more More old new goes = let is = ap (λ (k : KeeperView D). k.written) goes.1 in omega (arith, is, written_by old old.stage old.work)
  written_more Done old new goes = let is = ap (λ (k : KeeperView D). k.written) goes.1 in omega (arith, is, written_by old old.stage old.work)
  written_more Failed old new goes = let is = ap (λ (k : KeeperView D). k.written) goes in omega (arith, is)

  pub unwritten : (result : Progress) (old new : KeeperView D) → Progresses result old new → phase_of old.stage old.work ≢ at.Paused → new.written ≤ old.written
  unwritten More old new goes not = let is = ap (λ (k : KeeperView D). k.written) goes.1 in omega (arith, is, unwritten_by old old.stage old.work not)
  unwritten Done old new goes not = let is = ap (λ (k : KeeperView D). k.written) goes.1 in omega (arith, is, unwritten_by old old.stage old.work not)
  unwritten Failed old new goes not = let is = ap (λ (k : KeeperView D). k.written) goes in omega (arith, is)

  -- only the last call of a commit resets the count
  pub counted : (result : Progress) (old new : KeeperView D) → Progresses result old new → (phase_of old.stage old.work ≢ at.Committing) ⊎ (result ≢ Done) → old.written ≤ 65536
      → old.written ≤ new.written
  counted More old new goes not few = let is = ap (λ (k : KeeperView D). k.written) goes.1 in omega (arith, is, counted_by old old.stage old.work (inl goes.0) few)
  counted Done old new goes (inl not) few = let is = ap (λ (k : KeeperView D). k.written) goes.1 in omega (arith, is, counted_by old old.stage old.work (inr not) few)
  counted Done old new goes (inr not) few = absurd (not refl)
  counted Failed old new goes not few = let is = ap (λ (k : KeeperView D). k.written) goes in omega (arith, is)
