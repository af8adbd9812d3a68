-- Which device call is made, by what callers see of a keeper.
use Rattle.std.proofs.Common.{◌≡◌, ◌≢◌, ℕ, ◌+◌, ◌-◌, ◌≤◌, Bool, true, List, [], ◌∷◌, length, take, drop, Result, refl, sym, ◌∙◌, ap, subst, arith}
use Rattle.alm_segment.specs.Course.{frame_len}
use Rattle.alm_checkpoint.specs.declared.layout.Layout.{Layout}
use Rattle.alm_checkpoint.specs.declared.half.Half.{Half}
use Rattle.alm_checkpoint.specs.declared.half.Half.TheVariants.{First, Second}
use Rattle.alm_checkpoint.specs.Layouts.{half_at, half_len, other}
use Rattle.alm_disk.specs.declared.call.Call.TheVariants.{Write}
use Rattle.alm_disk.specs.declared.disk_fault.DiskFault.{DiskFault}
use Rattle.alm_disk.specs.declared.disk.Disk
use Rattle.alm_disk.specs.Device.{DeviceState, Writes}
use Rattle.alm_codec.specs.Frames.{frame_body}
use Rattle.alm_codec.specs.Versions.{closed_gate}
use Rattle.alm_keeper.specs.declared.book.Book.{Book}
use Rattle.alm_store.specs.declared.progress.Progress.{Progress}
use Rattle.alm_store.specs.declared.progress.Progress.TheVariants.{More, Done, Failed}
use Rattle.alm_keeper.specs.declared.stage.Stage.{Stage}
use Rattle.alm_keeper.specs.declared.stage.Stage.TheVariants.{Idle, Close, CloseSync, Body, BodySync, Gate, TurnSync, Retire, GateSync, Stopped}
use Rattle.alm_keeper.specs.declared.stage.Work.{Work}
use Rattle.alm_keeper.specs.declared.stage.Work.TheVariants.{Commit, Checkpoint}
use Rattle.alm_keeper.specs.Calls.{stage_call}
use Rattle.alm_keeper.specs.Phases.{StageCall}
use Rattle.alm_keeper.proofs.Commit.{body_long}
use Rattle.alm_keeper.specs.Stand.{other_at}
use Rattle.alm_keeper.specs.Keeper.{KeeperView, half_from, gate_by, piece, written_after, sends, after_call, after_by, call_by, call_of, payload_by, payload_of, bytes_of, Makes, SendsPiece, CallsOnce, Progresses}
use Rattle.alm_keeper.specs.Keeping.{account, copied_in, piece_of, run_in, keeper_of, InOrder}

-- the gates
half_is : (l : Layout) (h : Half) → half_at l h ≡ half_from (half_len l) h
half_is l First = refl
half_is l Second = refl

gate_is : (l : Layout) (h : Half) (gate : ℕ) → gate + 1 ≤ half_at l h + half_len l → gate ≡ half_from (half_len l) h + half_len l - (half_at l h + half_len l - gate)
gate_is l First gate within = omega (arith, within)
gate_is l Second gate within = omega (arith, within)

module _ {D : Type 0} (disk : D) (b : Book) where
  -- of a commit
  pub commit_call : InOrder b → (stage : Stage) (n : ℕ) → n ≡ frame_len (length b.actions.items) → b.work ≡ Commit → (stage ≡ Retire → ⊥) → stage_call stage b.gate n ≡ call_by stage b.work (keeper_of disk b)
  commit_call i stage n long is turned = by_stage stage turned ∙ ap (λ (w : Work). call_by stage w (keeper_of disk b)) (sym is)
    where
      at : b.gate ≡ gate_by Commit (keeper_of disk b)
      at = gate_is b.layout b.half b.gate i.gate

      by_stage : (s : Stage) → (s ≡ Retire → ⊥) → stage_call s b.gate n ≡ call_by s Commit (keeper_of disk b)
      by_stage Idle not = refl
      by_stage Close not = ap (λ (p : ℕ). Write p 1) at
      by_stage CloseSync not = refl
      by_stage Body not = λ j. Write (at j + 1) (long j)
      by_stage BodySync not = refl
      by_stage Gate not = ap (λ (p : ℕ). Write p 1) at
      by_stage TurnSync not = refl
      by_stage Retire not = absurd (not refl)
      by_stage GateSync not = refl
      by_stage Stopped not = refl

  other_is : other_at (account b) ≡ gate_by Checkpoint (keeper_of disk b)
  other_is = half_is b.layout (other b.half)

  -- of a checkpoint: a piece, any other
  pub piece_call : (at n : ℕ) → b.stage ≡ Body → b.work ≡ Checkpoint → at ≡ other_at (account b) + b.out → n ≡ piece_of b → stage_call Body at n ≡ call_of (keeper_of disk b)
  piece_call at n body is place long = here ∙ λ j. call_by (sym body j) (sym is j) (keeper_of disk b)
    where
      from : at ≡ gate_by Checkpoint (keeper_of disk b) + b.out
      from = place ∙ ap (λ (p : ℕ). p + b.out) other_is

      here : stage_call Body at n ≡ call_by Body Checkpoint (keeper_of disk b)
      here = λ j. Write (from j + 1) (long j)

  pub checkpoint_call : (stage : Stage) (at n : ℕ) → (stage ≡ Body → ⊥) → (stage ≡ Retire → ⊥) → at ≡ other_at (account b) → b.work ≡ Checkpoint → stage_call stage at n ≡ call_by stage b.work (keeper_of disk b)
  checkpoint_call stage at n pieces turned place is = by_stage stage pieces turned ∙ ap (λ (w : Work). call_by stage w (keeper_of disk b)) (sym is)
    where
      from : at ≡ gate_by Checkpoint (keeper_of disk b)
      from = place ∙ other_is

      by_stage : (s : Stage) → (s ≡ Body → ⊥) → (s ≡ Retire → ⊥) → stage_call s at n ≡ call_by s Checkpoint (keeper_of disk b)
      by_stage Idle not turned = refl
      by_stage Close not turned = ap (λ (p : ℕ). Write p 1) from
      by_stage CloseSync not turned = refl
      by_stage Body not turned = absurd (not refl)
      by_stage BodySync not turned = refl
      by_stage Gate not turned = ap (λ (p : ℕ). Write p 1) from
      by_stage TurnSync not turned = refl
      by_stage Retire not turned = absurd (turned refl)
      by_stage GateSync not turned = refl
      by_stage Stopped not turned = refl

  -- .. and that of the half that stood
  pub retire_call : (at n : ℕ) → b.stage ≡ Retire → at ≡ half_at b.layout b.half → stage_call Retire at n ≡ call_of (keeper_of disk b)
  retire_call at n is place = ap (λ (p : ℕ). Write p 1) (place ∙ half_is b.layout b.half) ∙ ap (λ (s : Stage). call_by s b.work (keeper_of disk b)) (sym is)

-- what it makes of a device
module _ {D : Type 0} (disk : D) (b : Book) (result : Result Unit DiskFault) (old new : DeviceState) where
  abbrev seen : KeeperView D
  seen = keeper_of disk b

  -- .. by the next call of a work
  abbrev Next : Stage → Work → Type 0
  Next stage work = Makes (call_by stage work seen) (payload_by stage work seen) result old new

  -- of a commit
  pub commit_makes : InOrder b → (stage : Stage) (text : List ℕ) → b.work ≡ Commit → (stage ≡ Retire → ⊥) → text ≡ frame_body b.version b.epoch (b.stored.panel.count + 1) b.actions.items → StageCall b.layout.version stage b.gate text result old new → Next stage b.work
  commit_makes i stage text is turned body call = subst (Next stage) (sym is) (by_stage stage turned call)
    where
      at : b.gate ≡ gate_by Commit seen
      at = gate_is b.layout b.half b.gate i.gate

      by_stage : (s : Stage) → (s ≡ Retire → ⊥) → StageCall b.layout.version s b.gate text result old new → Next s Commit
      by_stage Idle not call = absurd call
      by_stage Close not call = (refl, subst (λ (p : ℕ). Writes p (closed_gate b.layout.version ∷ []) result old new) at call)
      by_stage CloseSync not call = call
      by_stage Body not call = (body_long b.version b.epoch (b.stored.panel.count + 1) b.actions.items, subst (λ (t : List ℕ). Writes (gate_by Commit seen + 1) t result old new) body (subst (λ (p : ℕ). Writes (p + 1) text result old new) at call))
      by_stage BodySync not call = call
      by_stage Gate not call = (refl, subst (λ (p : ℕ). Writes p (165 ∷ []) result old new) at call)
      by_stage TurnSync not call = call
      by_stage Retire not call = absurd (not refl)
      by_stage GateSync not call = call
      by_stage Stopped not call = absurd call

  -- of a checkpoint: a piece, any other
  pub piece_makes : (at : ℕ) (text : List ℕ) → b.stage ≡ Body → b.work ≡ Checkpoint → b.copying ≡ true → at ≡ other_at (account b) + b.out → text ≡ take (piece_of b) (drop b.out (run_in b)) → length text ≡ piece_of b
      → StageCall b.layout.version Body at text result old new → Next b.stage b.work
  piece_makes at text body is on place piece long call = subst (λ (s : Stage). Next s b.work) (sym body) (subst (Next Body) (sym is) here)
    where
      from : at ≡ gate_by Checkpoint seen + b.out
      from = place ∙ ap (λ (p : ℕ). p + b.out) (other_is disk b)

      bytes : text ≡ payload_by Body Checkpoint seen
      bytes = piece ∙ ap (λ (on : Bool). take (piece_of b) (drop b.out (copied_in on (run_in b)))) (sym on)

      here : Next Body Checkpoint
      here = (ap length (sym bytes) ∙ long, subst (λ (t : List ℕ). Writes (gate_by Checkpoint seen + b.out + 1) t result old new) bytes (subst (λ (p : ℕ). Writes (p + 1) text result old new) from call))

  pub checkpoint_makes : (stage : Stage) (at : ℕ) (text : List ℕ) → (stage ≡ Body → ⊥) → (stage ≡ Retire → ⊥) → at ≡ other_at (account b) → b.work ≡ Checkpoint → StageCall b.layout.version stage at text result old new → Next stage b.work
  checkpoint_makes stage at text pieces turned place is call = subst (Next stage) (sym is) (by_stage stage pieces turned call)
    where
      from : at ≡ gate_by Checkpoint seen
      from = place ∙ other_is disk b

      by_stage : (s : Stage) → (s ≡ Body → ⊥) → (s ≡ Retire → ⊥) → StageCall b.layout.version s at text result old new → Next s Checkpoint
      by_stage Idle not turned call = absurd call
      by_stage Close not turned call = (refl, subst (λ (p : ℕ). Writes p (closed_gate b.layout.version ∷ []) result old new) from call)
      by_stage CloseSync not turned call = call
      by_stage Body not turned call = absurd (not refl)
      by_stage BodySync not turned call = call
      by_stage Gate not turned call = (refl, subst (λ (p : ℕ). Writes p (165 ∷ []) result old new) from call)
      by_stage TurnSync not turned call = call
      by_stage Retire not turned call = absurd (turned refl)
      by_stage GateSync not turned call = call
      by_stage Stopped not turned call = absurd call

  -- .. and that of the half that stood
  pub retire_makes : (at : ℕ) (text : List ℕ) → b.stage ≡ Retire → at ≡ half_at b.layout b.half → StageCall b.layout.version Retire at text result old new → Next b.stage b.work
  retire_makes at text is place call =
      subst (λ (s : Stage). Next s b.work) (sym is) (refl, subst (λ (p : ℕ). Writes p (closed_gate b.layout.version ∷ []) result old new) (place ∙ half_is b.layout b.half) call)

-- as callers see it
pub calls_of : {D : Type 0} (d : Disk.Ghosts D) (disk to : D) (b : Book) (k : KeeperView D) (result : Progress) → keeper_of disk b ≡ k → CallsOnce d (call_of (keeper_of disk b)) (payload_of (keeper_of disk b)) result disk to
    → CallsOnce d (call_of k) (payload_of k) result k.disk to
calls_of {D = D} d disk to b k result same c = subst (λ (h : KeeperView D). CallsOnce d (call_of h) (payload_of h) result h.disk to) same c

module _ {D : Type 0} (result : Progress) (old new : KeeperView D) (body : old.stage ≡ Body) (is : old.work ≡ Checkpoint) where
  sent_piece : new ≡ record (after_call old) { disk = new.disk } → SendsPiece old new
  sent_piece goes =
      let here : after_call old ≡ sends (piece (old.run - old.out)) old = λ j. after_by (body j) (is j) old in
      let bytes : bytes_of (call_of old) ≡ piece (old.run - old.out) = λ j. bytes_of (call_by (body j) (is j) old) in (
        ap (λ (k : KeeperView D). k.out) goes ∙ ap (λ (k : KeeperView D). k.out) here ∙ ap (λ (n : ℕ). old.out + n) (sym bytes),
        ap (λ (k : KeeperView D). k.written) goes ∙ ap (λ (k : KeeperView D). k.written) here ∙ ap (written_after old.written) (sym bytes),
      )

  pub sends_piece : result ≢ Failed → Progresses result old new → SendsPiece old new
  sends_piece = by_result result
    where
      by_result : (r : Progress) → r ≢ Failed → Progresses r old new → SendsPiece old new
      by_result More not a = sent_piece a.1
      by_result Done not a = sent_piece a.1
      by_result Failed not a = absurd (not refl)
