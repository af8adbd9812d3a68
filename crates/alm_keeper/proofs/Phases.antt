-- Each device call of a keeper, in each phase of its works.
use Rattle.std.proofs.Common.{◌≡◌, ◌≢◌, ◌⊎◌, inl, inr, ⊎_elim, not, ℕ, ◌+◌, ◌≤◌, Bool, true, false, List, [], ◌∷◌, length, take, Option, Some, None, Result, Ok, refl, sym, ap, subst, arith, length-append, ◌==◌, if◌then◌else◌}
use Rattle.std.proofs.lemmas.Bool.{eqb-true, eqb-false}
use Rattle.std.proofs.lemmas.List.{length-take-le}
use Rattle.alm_codec.specs.declared.asked.Asked.{Asked}
use Rattle.alm_codec.specs.Frames.{frame_body}
use Rattle.alm_disk.specs.Device.{DeviceState, Syncs}
use Rattle.alm_checkpoint.specs.Headers.{is_summed}
use Rattle.alm_disk.specs.Device.{IsImage as IsLeft}
use Rattle.alm_checkpoint.specs.Layouts.{half_len, part}
use Rattle.alm_codec.specs.Versions.{closed_gate, newer}
use Rattle.alm_codec.specs.declared.version.Version.{Version}
use Rattle.alm_keeper.specs.Stand.{SaysIt, Ready, Account, other_at, end_of_half, TakesAsked, with_commit}
use Rattle.alm_keeper.specs.Resting.{or_within, with_gate, Kept}
use Rattle.alm_keeper.specs.Stages.{During, next_stage, turn_stage}
use Rattle.alm_keeper.specs.declared.stage.Stage.{Stage}
use Rattle.alm_keeper.specs.declared.stage.Stage.TheVariants.{Close, CloseSync, Body, BodySync, Gate, TurnSync, Retire, GateSync, Idle, Stopped}
use Rattle.alm_keeper.specs.Piecewise.{Copy, open_text, run_text, IsCopy, is_sent, WrotePart, Paused, turned_by, ended_by, with_sent_bytes}
use Rattle.alm_keeper.specs.Phases.{with_other_shut, Rested, UnderWay, Rest, Shut, ShutSync, Pause, Frame, End, Commits, out_of, Beside, KeptTurn, KeptLast, KeptEnd, KeptIn, StageCall, MakesCall, DuringIn, without_pause, next_work, next_account, WorkAdvances}
use Rattle.alm_keeper.proofs.Commit.{ready_says, body_long}
use Rattle.alm_keeper.proofs.Resting.{body_passes, body_sync_passes, gate_passes, gate_sync_passes}
use Rattle.alm_keeper.proofs.Sending.{piece_images, piece_goes, ready_long, run_fits}
use Rattle.alm_keeper.proofs.Ending.{ends}
use Rattle.alm_keeper.proofs.Between.{no_place}
use Rattle.alm_keeper.proofs.Carried.{wrote_write, wrote_sync, still, resumes}
use Rattle.alm_keeper.proofs.Closing.{closes_images, closes, closed_rests, sync_images}

-- a paused checkpoint of which nothing went out
pub opens : (a : Account) (k : Copy) (state : DeviceState) → k.out ≡ 0 → Rested a state → Paused a k state
opens a k state zero r = record {
  images = r.images;
  bytes = r.bytes;
  ready = r.ready;
  rests = record { reads = r.rests.reads; within = λ i free. r.rests.within i refl; sound = r.rests.sound };
  wrote = subst (λ (n : ℕ). part (other_at a + 1) (length (take n (run_text a k))) state.bytes ≡ take n (run_text a k)) (sym zero) refl;
}

module _ (a : Account) (k : Copy) (n : ℕ) (state : DeviceState) (c : IsCopy a k) (gate : a.gate + 1 ≤ end_of_half a) (within : k.out + n ≤ length (run_text a k)) (p : Paused a (with_sent_bytes k n) state) where
  by_place : (last : Bool) → (k.out + n == length (run_text a k)) ≡ last → KeptIn (if last then End k BodySync else Pause (with_sent_bytes k n)) a state
  by_place true is = ends a k state c gate (subst (λ (m : ℕ). Paused a (record k { out = m }) state) (eqb-true (k.out + n) (length (run_text a k)) is) p)
  by_place false is =
      let differs : k.out + n ≢ length (run_text a k) = eqb-false (k.out + n) (length (run_text a k)) is in
      (record { more = c.more; image = c.image; sizes = c.sizes; count = c.count; frames = c.frames; admitted = c.admitted; runs = c.runs; room = c.room; shut = c.shut; left = omega (arith, within, differs, length-append (open_text a k) (closed_gate (newer a.version) ∷ [])) }, p)

-- ---- a step of a write after a gate

module _ {E : Type 0} (result : Result Unit E) (loose : ℕ → Bool) (Before After : List ℕ → Type 0) (old new : DeviceState) (version : Version) (at : ℕ) (text : List ℕ) where
  pub moments : (step : Stage) → StageCall version step at text result old new → Kept loose Before After step old at text → (b : List ℕ) → IsLeft old b ⊎ IsLeft new b → During Before After step b
  moments Close call kept = absurd kept.stands
  moments CloseSync call kept = absurd kept.stands
  moments Body call kept = (body_passes loose Before After old new at text result call kept).any_moment
  moments BodySync call kept = (body_sync_passes loose Before After old new at text result call kept).any_moment
  moments Gate call kept = (gate_passes loose Before After old new at text result call kept).any_moment
  moments TurnSync call kept = absurd kept.stands
  moments Retire call kept = absurd kept.stands
  moments GateSync call kept = (gate_sync_passes loose Before After old new at text result call kept).any_moment
  moments Idle call kept = absurd call
  moments Stopped call kept = absurd call

module _ (E : Type 0) (loose : ℕ → Bool) (Before After : List ℕ → Type 0) (old new : DeviceState) (version : Version) (at : ℕ) (text : List ℕ) where
  pub goes : (step : Stage) → StageCall {E = E} version step at text (Ok tt) old new → Kept loose Before After step old at text → Kept loose Before After (next_stage step) new at text
  goes Close call kept = absurd kept.stands
  goes CloseSync call kept = absurd kept.stands
  goes Body call kept = (body_passes {E = E} loose Before After old new at text (Ok tt) call kept).kept
  goes BodySync call kept = (body_sync_passes {E = E} loose Before After old new at text (Ok tt) call kept).kept
  goes Gate call kept = (gate_passes {E = E} loose Before After old new at text (Ok tt) call kept).kept
  goes TurnSync call kept = absurd kept.stands
  goes Retire call kept = absurd kept.stands
  goes GateSync call kept = (gate_sync_passes {E = E} loose Before After old new at text (Ok tt) call kept).kept
  goes Idle call kept = absurd call
  goes Stopped call kept = absurd call

-- what went out stays in a commit's calls
module _ (E : Type 0) (a : Account) (k : Copy) (actions : List Asked) (old new : DeviceState) (c : IsCopy a k) (takes : TakesAsked a actions) (gate : a.gate + 1 ≤ end_of_half a) where
  abbrev gone : List ℕ
  gone = take k.out (run_text a k)

  abbrev body : List ℕ
  body = frame_body a.version a.epoch (a.plant.panel.count + 1) actions

  short : length gone + 1 ≤ half_len a.layout
  short = omega (arith, length-take-le k.out (run_text a k) (omega (arith, c.left, length-append (open_text a k) (closed_gate (newer a.version) ∷ []))), run_fits a k c gate, c.left, length-append (open_text a k) (closed_gate (newer a.version) ∷ []))

  pub stays : (step : Stage) → StageCall {E = E} a.layout.version step a.gate body (Ok tt) old new → Kept (is_sent a k.out) (Ready a) (Ready (with_commit a actions)) step old a.gate body → WrotePart a gone old → WrotePart a gone new
  stays Close call kept wrote = absurd kept.stands
  stays CloseSync call kept wrote = absurd kept.stands
  stays Body call kept wrote =
      let g = kept.stands.0 in
      let long : other_at a + half_len a.layout ≤ length old.bytes = omega (arith, ap length kept.stands.3.reads, ready_long a (with_gate g kept.stands.1 g.room) (g.closed kept.stands.1 kept.stands.2 g.room refl)) in
      wrote_write {E = E} (Ok tt) a gone old new (a.gate + 1) body short long (omega (arith, c.room)) (omega (arith, takes.0, body_long a.version a.epoch (a.plant.panel.count + 1) actions)) call wrote
  stays BodySync call kept wrote =
      wrote_sync {E = E} (or_within (a.gate + 1) (length body) (is_sent a k.out)) a gone old new (with_gate kept.stands.0 kept.stands.1 body) kept.stands.3 call wrote
  stays Gate call kept wrote =
      let g = kept.stands.0 in
      let long : other_at a + half_len a.layout ≤ length old.bytes = omega (arith, ap length kept.stands.3.reads, ready_long a (with_gate g kept.stands.1 body) (g.closed kept.stands.1 kept.stands.2 body (sym g.fits))) in
      wrote_write {E = E} (Ok tt) a gone old new a.gate (165 ∷ []) short long (omega (arith, c.room)) (omega (arith, gate)) call wrote
  stays TurnSync call kept wrote = absurd kept.stands
  stays Retire call kept wrote = absurd kept.stands
  stays GateSync call kept wrote =
      wrote_sync {E = E} (or_within a.gate 1 (is_sent a k.out)) a gone old new (with_gate kept.stands.0 165 body) kept.stands.1 call wrote
  stays Idle call kept wrote = absurd call
  stays Stopped call kept wrote = absurd call

-- ---- the phases

rested_by : (a : Account) (state : DeviceState) (loose : ℕ → Bool) (Before : List ℕ → Type 0) (at : ℕ) (text : List ℕ) → ((place : ℕ) → loose place ≡ false) → Kept loose Before (Ready a) Idle state at text → Rested a state
rested_by a state loose Before at text free kept = record {
  images = kept.images;
  bytes = kept.stands.0;
  ready = kept.stands.1;
  rests = record { reads = kept.stands.2.reads; within = λ i f. kept.stands.2.within i (free i); sound = kept.stands.2.sound };
}

module _ (E : Type 0) (a : Account) (actions : List Asked) (old new : DeviceState) (gate : a.gate + 1 ≤ end_of_half a) where
  abbrev text : List ℕ
  text = frame_body a.version a.epoch (a.plant.panel.count + 1) actions

  besides : (other : Option Copy) (step : Stage) → TakesAsked a actions → StageCall {E = E} a.layout.version step a.gate text (Ok tt) old new → Kept (is_sent a (out_of other)) (Ready a) (Ready (with_commit a actions)) step old a.gate text
      → Beside other a old → Beside other a new
  besides None step takes call kept beside = tt
  besides (Some k) step takes call kept beside = (beside.0, stays E a k actions old new beside.0 takes gate step call kept beside.1)

  commit_ends : (other : Option Copy) → Commits a actions → Beside other a new → Kept (is_sent a (out_of other)) (Ready a) (Ready (with_commit a actions)) Idle new a.gate text → KeptIn (without_pause other actions) (with_commit a actions) new
  commit_ends None is beside kept = rested_by (with_commit a actions) new (is_sent a 0) (Ready a) a.gate text (λ place. no_place (other_at a + 1) 0 place refl) kept
  commit_ends (Some k) is beside kept = (still a k actions beside.0 is.0 is.1, resumes a k actions beside.0 new kept beside.1)

  commit_goes : (n : ℕ) (other : Option Copy) (step : Stage) → StageCall {E = E} a.layout.version step a.gate text (Ok tt) old new → KeptIn (Frame other step actions) a old → KeptIn (next_work (Frame other step actions) a n) (next_account (Frame other step actions) a) new
  commit_goes n other Close call kept = absurd kept.2.stands
  commit_goes n other CloseSync call kept = absurd kept.2.stands
  commit_goes n other Body call kept = (kept.0, besides other Body kept.0.2 call kept.2 kept.1, goes E (is_sent a (out_of other)) (Ready a) (Ready (with_commit a actions)) old new a.layout.version a.gate text Body call kept.2)
  commit_goes n other BodySync call kept = (kept.0, besides other BodySync kept.0.2 call kept.2 kept.1, goes E (is_sent a (out_of other)) (Ready a) (Ready (with_commit a actions)) old new a.layout.version a.gate text BodySync call kept.2)
  commit_goes n other Gate call kept = (kept.0, besides other Gate kept.0.2 call kept.2 kept.1, goes E (is_sent a (out_of other)) (Ready a) (Ready (with_commit a actions)) old new a.layout.version a.gate text Gate call kept.2)
  commit_goes n other TurnSync call kept = absurd kept.2.stands
  commit_goes n other Retire call kept = absurd kept.2.stands
  commit_goes n other GateSync call kept = commit_ends other kept.0 (besides other GateSync kept.0.2 call kept.2 kept.1) (goes E (is_sent a (out_of other)) (Ready a) (Ready (with_commit a actions)) old new a.layout.version a.gate text GateSync call kept.2)
  commit_goes n other Idle call kept = absurd call
  commit_goes n other Stopped call kept = absurd call

module _ (E : Type 0) (a : Account) (k : Copy) (n : ℕ) (old new : DeviceState) where
  abbrev loose : ℕ → Bool
  loose place = false

  abbrev Before : List ℕ → Type 0
  Before = Ready a

  abbrev After : List ℕ → Type 0
  After = Ready (turned_by a k)

  -- a stage of the write after the gate, and the gate's
  on : (step : Stage) → StageCall {E = E} a.layout.version step (other_at a) (run_text a k) (Ok tt) old new → KeptTurn k step a old → KeptTurn k (next_stage step) a new
  on step call kept = goes E loose Before After old new a.layout.version (other_at a) (run_text a k) step call kept

  -- the other half stands
  turns : Syncs {E = E} (Ok tt) old new → KeptTurn k GateSync a old → Rested (turned_by a k) new
  turns call kept = rested_by (turned_by a k) new loose Before (other_at a) (run_text a k) (λ place. refl) (on GateSync call kept)

  by_turn : (b : Bool) → is_summed a.version ≡ b → KeptTurn k GateSync a new → KeptEnd k (turn_stage b) a new
  by_turn true is kept = (is, kept)
  by_turn false is kept = subst (λ (b : Bool). KeptLast b k a new) (sym is) kept

  by_last : (b : Bool) → is_summed a.version ≡ b → Syncs {E = E} (Ok tt) old new → KeptLast b k a old → Rested (ended_by a k) new
  by_last true is call kept = subst (λ (b : Bool). Rested (record (turned_by a k) { other_open = not b }) new) (sym is) (closed_rests E (turned_by a k) old new kept call)
  by_last false is call kept = subst (λ (b : Bool). Rested (record (turned_by a k) { other_open = not b }) new) (sym is) (turns call kept)

  end_goes : (step : Stage) → MakesCall {E = E} (End k step) a n (Ok tt) old new → KeptIn (End k step) a old → KeptIn (next_work (End k step) a n) (next_account (End k step) a) new
  end_goes Close call kept = absurd kept.stands
  end_goes CloseSync call kept = absurd kept.stands
  end_goes Body call kept = on Body call kept
  end_goes BodySync call kept = on BodySync call kept
  end_goes Gate call kept = by_turn (is_summed a.version) refl (on Gate call kept)
  end_goes TurnSync call kept = (kept.0, turns call kept.1)
  end_goes Retire call kept = subst (λ (b : Bool). KeptLast b k a new) (sym kept.0) (closes E (turned_by a k) old new refl kept.1 call)
  end_goes GateSync call kept = by_last (is_summed a.version) refl call kept
  end_goes Idle call kept = absurd call
  end_goes Stopped call kept = absurd call

module _ {E : Type 0} (result : Result Unit E) (a : Account) (k : Copy) (n : ℕ) (old new : DeviceState) (b : List ℕ) (moment : IsLeft old b ⊎ IsLeft new b) where
  abbrev Either : Type 0
  Either = SaysIt a b ⊎ SaysIt (turned_by a k) b

  -- at a stage of the write after the gate, and of the gate's
  turn_moments : (step : Stage) → StageCall a.layout.version step (other_at a) (run_text a k) result old new → KeptTurn k step a old → During (Ready a) (Ready (turned_by a k)) step b
  turn_moments step call kept = moments result (λ place. false) (Ready a) (Ready (turned_by a k)) old new a.layout.version (other_at a) (run_text a k) step call kept b moment

  either : Ready a b ⊎ Ready (turned_by a k) b → Either
  either = ⊎_elim (λ r. inl (ready_says a b r)) (λ r. inr (ready_says (turned_by a k) b r))

  last_moments : (summed : Bool) → Syncs result old new → KeptLast summed k a old → Either
  last_moments true call kept = inr (⊎_elim (kept.images b) (sync_images result (turned_by a k) old new kept call b) moment)
  last_moments false call kept = either (turn_moments GateSync call kept)

  end_moments : (step : Stage) → MakesCall (End k step) a n result old new → KeptIn (End k step) a old → During (SaysIt a) (SaysIt (turned_by a k)) step b
  end_moments Close call kept = absurd kept.stands
  end_moments CloseSync call kept = absurd kept.stands
  end_moments Body call kept = ready_says a b (turn_moments Body call kept)
  end_moments BodySync call kept = ready_says a b (turn_moments BodySync call kept)
  end_moments Gate call kept = either (turn_moments Gate call kept)
  end_moments TurnSync call kept = either (turn_moments GateSync call kept.1)
  end_moments Retire call kept = ⊎_elim (λ image. ready_says (turned_by a k) b (kept.1.images b image)) (closes_images result (turned_by a k) old new refl kept.1 call b) moment
  end_moments GateSync call kept = last_moments (is_summed a.version) call kept
  end_moments Idle call kept = absurd call
  end_moments Stopped call kept = absurd call

-- a call that was done
pub phase_goes : (E : Type 0) (phase : UnderWay) (a : Account) (n : ℕ) (old new : DeviceState) → a.gate + 1 ≤ end_of_half a → KeptIn phase a old → MakesCall {E = E} phase a n (Ok tt) old new → KeptIn (next_work phase a n) (next_account phase a) new
phase_goes E Rest a n old new gate kept call = absurd call
phase_goes E (Shut k) a n old new gate kept call = (kept.1, kept.2, closes E a old new kept.0 kept.3 call)
phase_goes E (ShutSync k) a n old new gate kept call = (kept.0, opens (with_other_shut a) k new kept.1 (closed_rests E a old new kept.2 call))
phase_goes E (Pause k) a n old new gate kept call = by_place a k n new kept.0 gate call.0 (piece_goes a k n old new kept.0 gate call.0 kept.1 E call.1) (k.out + n == length (run_text a k)) refl
phase_goes E (Frame other step actions) a n old new gate kept call = commit_goes E a actions old new gate n other step call kept
phase_goes E (End k step) a n old new gate kept call = end_goes E a k n old new step call kept

-- done or failed
pub phase_moments : {E : Type 0} (result : Result Unit E) (phase : UnderWay) (a : Account) (n : ℕ) (old new : DeviceState) → a.gate + 1 ≤ end_of_half a → KeptIn phase a old → MakesCall phase a n result old new → (b : List ℕ) → IsLeft old b ⊎ IsLeft new b → DuringIn phase a b
phase_moments result Rest a n old new gate kept call b moment = absurd call
phase_moments result (Shut k) a n old new gate kept call b moment = ⊎_elim (λ image. ready_says a b (kept.3.images b image)) (closes_images result a old new kept.0 kept.3 call b) moment
phase_moments result (ShutSync k) a n old new gate kept call b moment = ⊎_elim (kept.2.images b) (sync_images result a old new kept.2 call b) moment
phase_moments result (Pause k) a n old new gate kept call b moment = ⊎_elim (kept.1.images b) (piece_images a k n old new kept.0 gate call.0 kept.1 result call.1 b) moment
phase_moments result (Frame other step actions) a n old new gate kept call b moment =
    moments result (is_sent a (out_of other)) (Ready a) (Ready (with_commit a actions)) old new a.layout.version a.gate (frame_body a.version a.epoch (a.plant.panel.count + 1) actions) step call kept.2 b moment
phase_moments result (End k step) a n old new gate kept call b moment = end_moments result a k n old new b moment step call kept

pub advances : {E : Type 0} (result : Result Unit E) (phase : UnderWay) (a : Account) (n : ℕ) (old new : DeviceState) → a.gate + 1 ≤ end_of_half a → KeptIn phase a old → MakesCall phase a n result old new → WorkAdvances phase a n result old new
advances {E} result phase a n old new gate kept call = record {
  any_moment = phase_moments result phase a n old new gate kept call;
  kept = λ done. phase_goes E phase a n old new gate kept (subst (λ (r : Result Unit E). MakesCall phase a n r old new) done call);
}
