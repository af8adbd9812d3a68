-- What is kept of a device from one call to the next.
use Rattle.std.proofs.Common.{◌≡◌, ◌⊎◌, inl, inr, ⊎_elim, ℕ, ◌+◌, ◌-◌, ◌≤◌, Bool, true, false, List, [], ◌∷◌, ◌++◌, length, take, drop, Result, Ok, refl, sym, ◌∙◌, ap, subst, arith, append_assoc, length-append, ◌==◌, if◌then◌else◌}
use Rattle.std.proofs.lemmas.List.{take_at, length-take-le}
use Rattle.alm_codec.specs.declared.asked.Asked.{Asked}
use Rattle.alm_codec.specs.Versions.{closed_gate, newer}
use Rattle.alm_codec.specs.Frames.{frame_body, frame_text}
use Rattle.alm_disk.specs.Device.{DeviceState, IsImage, Writes}
use Rattle.alm_disk.specs.declared.disk_fault.DiskFault.{DiskFault}
use Rattle.alm_checkpoint.specs.declared.half.Half.{Half}
use Rattle.alm_checkpoint.specs.declared.half.Half.TheVariants.{First, Second}
use Rattle.alm_checkpoint.specs.declared.layout.Layout.{Layout}
use Rattle.alm_checkpoint.specs.Layouts.{half_at, half_len, device_len}
use Rattle.alm_keeper.specs.declared.book.Book.{Book}
use Rattle.alm_keeper.specs.declared.stage.Stage.{Stage}
use Rattle.alm_keeper.specs.declared.stage.Stage.TheVariants.{Idle, Close, CloseSync, Body, BodySync, Gate, TurnSync, Retire, GateSync, Stopped}
use Rattle.alm_store.specs.declared.progress.Progress.{Progress}
use Rattle.alm_store.specs.declared.progress.Progress.TheVariants.{More, Done, Failed}
use Rattle.alm_keeper.specs.declared.stage.Work.{Work}
use Rattle.alm_keeper.specs.declared.stage.Work.TheVariants.{Commit, Checkpoint}
use Rattle.alm_keeper.specs.Stages.{IsWorking, turn_stage, rest_stage, rest_work, During}
use Rattle.alm_checkpoint.specs.Headers.{is_summed}
use Rattle.alm_checkpoint.proofs.Turned.{twice_other}
use Rattle.alm_keeper.specs.Stand.{HoldsIt, SaysIt, Account, saying, other_at, with_commit, turned_half}
use Rattle.alm_keeper.specs.Trail.{asked_in, IsEnd}
use Rattle.alm_keeper.specs.Saying.{AddsTo}
use Rattle.alm_segment.specs.Texts.{written}
use Rattle.alm_keeper.specs.Piecewise.{Copy, IsCopy, open_text, run_text, ended_by, with_copied_frame, with_sent_bytes}
use Rattle.alm_keeper.specs.Phases.{Rest, Pause, End, KeptIn, StageCall, MakesCall, DuringIn, next_work, next_account}
use Rattle.alm_keeper.specs.Keeping.{account, run_in, piece_of, done_by, account_next_at, account_next, InOrder, ClosesBook, TurnsBook, GrowsBook, GrowsWhere, IsBookAfter, sent_by, work_alone, work_beside, at_out, CopiedIn, KeptBy, Keeps, PassesBy, PassesOn, LeavesSaying, EndsStep}
use Rattle.alm_keeper.proofs.Carried.{open_grows, frame_is}
use Rattle.alm_keeper.proofs.Commit.{asked_pushed, ready_says}
use Rattle.alm_keeper.proofs.Order.{Possible, possible, opened}
use Rattle.alm_keeper.proofs.Phases.{advances}

-- both halves are on the device
pub half_within : (l : Layout) (h : Half) (size : ℕ) → device_len l ≤ size → half_at l h + half_len l ≤ size
half_within l First size fits = omega (arith, fits)
half_within l Second size fits = omega (arith, fits)

-- a run by its length
pub turned_is : (a : Account) (k : Copy) (n : ℕ) → length (run_text a k) ≡ n → ended_by a k ≡ saying (asked_in k.since) (turned_half a n)
turned_is a k n long = ap (λ (gate : ℕ). record (turned_half a n) { gate = gate; trail = asked_in k.since }) place
  where
    place : other_at a + 1 + length (open_text a k) ≡ other_at a + n
    place = omega (arith, long, length-append (open_text a k) (closed_gate (newer a.version) ∷ []))

-- a checkpoint that is under way is open
pub never_alone : (stage : Stage) → Possible stage false Checkpoint → ⊥
never_alone Idle may = absurd may
never_alone Close may = absurd may
never_alone CloseSync may = absurd may
never_alone Body may = absurd may
never_alone BodySync may = absurd may
never_alone Gate may = absurd may
never_alone TurnSync may = absurd may
never_alone Retire may = absurd may
never_alone GateSync may = absurd may
never_alone Stopped may = absurd may

-- ---- the call that is next

abbrev pub IsClosing : Stage → Type 0
IsClosing Close = Unit {0}
IsClosing CloseSync = Unit {0}
IsClosing stage = ⊥

module _ (result : Result Unit DiskFault) (a : Account) (actions : List Asked) (n : ℕ) (old new : DeviceState) where
  abbrev body : List ℕ
  body = frame_body a.version a.epoch (a.plant.panel.count + 1) actions

  pub alone_call : (stage : Stage) → StageCall a.layout.version stage a.gate body result old new → MakesCall (work_alone stage actions) a n result old new
  alone_call Idle call = absurd call
  alone_call Close call = call
  alone_call CloseSync call = call
  alone_call Body call = call
  alone_call BodySync call = call
  alone_call Gate call = call
  alone_call TurnSync call = call
  alone_call Retire call = call
  alone_call GateSync call = call
  alone_call Stopped call = absurd call

  pub commit_call : (k : Copy) (stage : Stage) → Possible stage true Commit → StageCall a.layout.version stage a.gate body result old new → MakesCall (work_beside stage Commit k actions) a n result old new
  commit_call k Idle may call = absurd may
  commit_call k Close may call = absurd may
  commit_call k CloseSync may call = absurd may
  commit_call k Body may call = call
  commit_call k BodySync may call = call
  commit_call k Gate may call = call
  commit_call k TurnSync may call = absurd may
  commit_call k Retire may call = absurd may
  commit_call k GateSync may call = call
  commit_call k Stopped may call = absurd may

  -- of a checkpoint, except for its pieces and the gate of the half that stood
  pub checkpoint_call : (k : Copy) (stage : Stage) → (stage ≡ Body → ⊥) → (stage ≡ Retire → ⊥) → StageCall a.layout.version stage (other_at a) [] result old new → MakesCall (work_beside stage Checkpoint k actions) a n result old new
  checkpoint_call k Idle pieces turned call = absurd call
  checkpoint_call k Close pieces turned call = call
  checkpoint_call k CloseSync pieces turned call = call
  checkpoint_call k Body pieces turned call = absurd (pieces refl)
  checkpoint_call k BodySync pieces turned call = call
  checkpoint_call k Gate pieces turned call = call
  checkpoint_call k TurnSync pieces turned call = call
  checkpoint_call k Retire pieces turned call = absurd (turned refl)
  checkpoint_call k GateSync pieces turned call = call
  checkpoint_call k Stopped pieces turned call = absurd call

  pub retire_call : (k : Copy) → StageCall a.layout.version Retire (half_at a.layout a.half) [] result old new → MakesCall (End k Retire) a n result old new
  retire_call k call = subst (λ (h : Half). Writes (half_at a.layout h) (closed_gate a.layout.version ∷ []) result old new) (sym (twice_other a.half)) call

  pub piece_call : (k : Copy) → k.out + n ≤ length (run_text a k) → Writes (other_at a + k.out + 1) (take n (drop k.out (run_text a k))) result old new → MakesCall (Pause k) a n result old new
  piece_call k within call =
      let at : other_at a + k.out + 1 ≡ other_at a + 1 + k.out = omega arith in
      (within, subst (λ (m : ℕ). Writes m (take n (drop k.out (run_text a k))) result old new) at call)

-- at work a book's device is kept by what is under way
module _ (b : Book) (trail : List Asked) (state : DeviceState) where
  pub kept_alone : (stage : Stage) (work : Work) → IsWorking stage → KeptBy stage false work trail b state → KeptIn (work_alone stage b.actions.items) (saying trail (account b)) state
  kept_alone Idle work works kept = absurd works
  kept_alone Close work works kept = kept
  kept_alone CloseSync work works kept = kept
  kept_alone Body work works kept = kept
  kept_alone BodySync work works kept = kept
  kept_alone Gate work works kept = kept
  kept_alone TurnSync work works kept = kept
  kept_alone Retire work works kept = kept
  kept_alone GateSync work works kept = kept
  kept_alone Stopped work works kept = absurd works

  pub kept_beside : (stage : Stage) (work : Work) → IsWorking stage → KeptBy stage true work trail b state → (k : Copy) × CopiedIn b trail k × KeptIn (work_beside stage work (at_out k b.out) b.actions.items) (saying trail (account b)) state
  kept_beside Idle work works kept = absurd works
  kept_beside Close work works kept = kept
  kept_beside CloseSync work works kept = kept
  kept_beside Body work works kept = kept
  kept_beside BodySync work works kept = kept
  kept_beside Gate work works kept = kept
  kept_beside TurnSync work works kept = kept
  kept_beside Retire work works kept = kept
  kept_beside GateSync work works kept = kept
  kept_beside Stopped work works kept = absurd works

-- a copy of an account is one of it without a trail
pub plain : {a : Account} {k : Copy} → IsCopy a k → IsCopy (saying [] a) k
plain c = record { more = c.more; image = c.image; sizes = c.sizes; count = c.count; frames = c.frames; admitted = c.admitted; runs = c.runs; room = c.room; shut = c.shut; left = c.left }

-- what the call makes of the device
module _ (result : Result Unit DiskFault) (old new : DeviceState) (b : Book) (i : InOrder b) (works : IsWorking b.stage) where
  abbrev a : Account
  a = account b

  abbrev acts : List Asked
  acts = b.actions.items

  by_trail : (trail : List Asked) (copying : Bool) → (copying ≡ false → MakesCall (work_alone b.stage acts) (saying trail a) (piece_of b) result old new)
      → (copying ≡ true → (k : Copy) → run_text a k ≡ run_in b → MakesCall (work_beside b.stage b.work (at_out k b.out) acts) (saying trail a) (piece_of b) result old new)
      → KeptBy b.stage copying b.work trail b old → PassesBy copying b.stage b.work trail b result old new
  by_trail trail false without with_copy kept = advances result (work_alone b.stage acts) (saying trail a) (piece_of b) old new i.gate (kept_alone b trail old b.stage b.work works kept) (without refl)
  by_trail trail true without with_copy kept =
      let here = kept_beside b trail old b.stage b.work works kept in
      (here.0, here.1, here.2, advances result (work_beside b.stage b.work (at_out here.0 b.out) acts) (saying trail a) (piece_of b) old new i.gate here.2 (with_copy refl here.0 here.1.run))

  by_copying : ((trail : List Asked) → b.copying ≡ false → MakesCall (work_alone b.stage acts) (saying trail a) (piece_of b) result old new)
      → ((trail : List Asked) → b.copying ≡ true → (k : Copy) → run_text a k ≡ run_in b → MakesCall (work_beside b.stage b.work (at_out k b.out) acts) (saying trail a) (piece_of b) result old new)
      → Keeps old b → PassesOn result old new b
  by_copying without with_copy kept = (kept.0, by_trail kept.0 b.copying (without kept.0) (with_copy kept.0) kept.1)

  pub commit_passes : (text : List ℕ) → b.work ≡ Commit → text ≡ frame_body b.version b.epoch (b.stored.panel.count + 1) acts → StageCall b.layout.version b.stage b.gate text result old new → Keeps old b → PassesOn result old new b
  commit_passes text is same call kept =
      let here : StageCall b.layout.version b.stage b.gate (frame_body b.version b.epoch (b.stored.panel.count + 1) acts) result old new = subst (λ (t : List ℕ). StageCall b.layout.version b.stage b.gate t result old new) same call in
      by_copying (λ trail off. alone_call result (saying trail a) acts (piece_of b) old new b.stage here)
      (λ trail on k run.
      let may : Possible b.stage true Commit = subst (λ (w : Work). Possible b.stage true w) is (subst (λ (o : Bool). Possible b.stage o b.work) on (possible b i works)) in
      subst (λ (w : Work). MakesCall (work_beside b.stage w (at_out k b.out) acts) (saying trail a) (piece_of b) result old new) (sym is) (commit_call result (saying trail a) acts (piece_of b) old new (at_out k b.out) b.stage may here)) kept

  never_without : b.work ≡ Checkpoint → b.copying ≡ false → ⊥
  never_without is off = never_alone b.stage (subst (λ (w : Work). Possible b.stage false w) is (subst (λ (o : Bool). Possible b.stage o b.work) off (possible b i works)))

  pub checkpoint_passes : (at : ℕ) → b.work ≡ Checkpoint → (b.stage ≡ Body → ⊥) → (b.stage ≡ Retire → ⊥) → at ≡ other_at a → StageCall b.layout.version b.stage at [] result old new → Keeps old b → PassesOn result old new b
  checkpoint_passes at is pieces turned place call kept =
      let here : StageCall b.layout.version b.stage (other_at a) [] result old new = subst (λ (n : ℕ). StageCall b.layout.version b.stage n [] result old new) place call in
      by_copying (λ trail off. absurd (never_without is off))
      (λ trail on k run. subst (λ (w : Work). MakesCall (work_beside b.stage w (at_out k b.out) acts) (saying trail a) (piece_of b) result old new) (sym is) (checkpoint_call result (saying trail a) acts (piece_of b) old new (at_out k b.out) b.stage pieces turned here)) kept

  pub retire_passes : (at : ℕ) → b.work ≡ Checkpoint → b.stage ≡ Retire → at ≡ half_at b.layout b.half → StageCall b.layout.version Retire at [] result old new → Keeps old b → PassesOn result old new b
  retire_passes at is turned place call kept =
      let here : StageCall b.layout.version Retire (half_at b.layout b.half) [] result old new = subst (λ (n : ℕ). StageCall b.layout.version Retire n [] result old new) place call in
      by_copying (λ trail off. absurd (never_without is off))
      (λ trail on k run.
      subst (λ (w : Work). MakesCall (work_beside b.stage w (at_out k b.out) acts) (saying trail a) (piece_of b) result old new) (sym is)
      (subst (λ (s : Stage). MakesCall (work_beside s Checkpoint (at_out k b.out) acts) (saying trail a) (piece_of b) result old new) (sym turned) (retire_call result (saying trail a) acts (piece_of b) old new (at_out k b.out) here))) kept

  pub piece_passes : (at : ℕ) (text : List ℕ) → b.work ≡ Checkpoint → b.stage ≡ Body → at ≡ other_at a + b.out → text ≡ take (piece_of b) (drop b.out (run_in b)) → b.out + piece_of b ≤ length (run_in b)
      → Writes (at + 1) text result old new → Keeps old b → PassesOn result old new b
  piece_passes at text is body place same within call kept =
      let here : Writes (other_at a + b.out + 1) (take (piece_of b) (drop b.out (run_in b))) result old new =
      subst (λ (n : ℕ). Writes (n + 1) (take (piece_of b) (drop b.out (run_in b))) result old new) place (subst (λ (t : List ℕ). Writes (at + 1) t result old new) same call) in
      by_copying (λ trail off. absurd (never_without is off))
      (λ trail on k run.
      let there : Writes (other_at a + b.out + 1) (take (piece_of b) (drop b.out (run_text a k))) result old new = subst (λ (t : List ℕ). Writes (other_at a + b.out + 1) (take (piece_of b) (drop b.out t)) result old new) (sym run) here in
      let inside : b.out + piece_of b ≤ length (run_text a k) = subst (λ (t : List ℕ). b.out + piece_of b ≤ length t) (sym run) within in
      subst (λ (w : Work). MakesCall (work_beside b.stage w (at_out k b.out) acts) (saying trail a) (piece_of b) result old new) (sym is)
      (subst (λ (s : Stage). MakesCall (work_beside s Checkpoint (at_out k b.out) acts) (saying trail a) (piece_of b) result old new) (sym body) (piece_call result (saying trail a) acts (piece_of b) old new (at_out k b.out) inside there))) kept

-- ---- what a crash leaves

-- the work that is begun stays the same as long as it is done
pub next_is : (b : Book) (stage : Stage) → b.stage ≡ stage → IsWorking stage → account_next b ≡ done_by b.work b
next_is b stage is works = ap (λ (s : Stage). account_next_at s b.work b) is ∙ by_stage stage works
  where
    by_stage : (s : Stage) → IsWorking s → account_next_at s b.work b ≡ done_by b.work b
    by_stage Idle never = absurd never
    by_stage Close works = refl
    by_stage CloseSync works = refl
    by_stage Body works = refl
    by_stage BodySync works = refl
    by_stage Gate works = refl
    by_stage TurnSync works = refl
    by_stage Retire works = refl
    by_stage GateSync works = refl
    by_stage Stopped never = absurd never

-- at any moment of a call, by what is under way
module _ (a : Account) (actions : List Asked) (x : List ℕ) where
  abbrev Before : List ℕ → Type 0
  Before b = SaysIt a b

  abbrev Committed : List ℕ → Type 0
  Committed b = SaysIt (with_commit a actions) b

  pub leaves_alone : (stage : Stage) → IsWorking stage → DuringIn (work_alone stage actions) a x → During Before Committed stage x
  leaves_alone Idle works d = absurd works
  leaves_alone Close works d = ready_says a x d
  leaves_alone CloseSync works d = ready_says a x d
  leaves_alone Body works d = ready_says a x d
  leaves_alone BodySync works d = ready_says a x d
  leaves_alone Gate works d = ⊎_elim (λ r. inl (ready_says a x r)) (λ r. inr (ready_says (with_commit a actions) x r)) d
  leaves_alone TurnSync works d = ⊎_elim (λ r. inl (ready_says a x r)) (λ r. inr (ready_says (with_commit a actions) x r)) d
  leaves_alone Retire works d = ready_says (with_commit a actions) x d
  leaves_alone GateSync works d = ⊎_elim (λ r. inl (ready_says a x r)) (λ r. inr (ready_says (with_commit a actions) x r)) d
  leaves_alone Stopped works d = absurd works

  pub leaves_commit : (k : Copy) (stage : Stage) → Possible stage true Commit → DuringIn (work_beside stage Commit k actions) a x → During Before Committed stage x
  leaves_commit k Idle may d = absurd may
  leaves_commit k Close may d = absurd may
  leaves_commit k CloseSync may d = absurd may
  leaves_commit k Body may d = ready_says a x d
  leaves_commit k BodySync may d = ready_says a x d
  leaves_commit k Gate may d = ⊎_elim (λ r. inl (ready_says a x r)) (λ r. inr (ready_says (with_commit a actions) x r)) d
  leaves_commit k TurnSync may d = absurd may
  leaves_commit k Retire may d = absurd may
  leaves_commit k GateSync may d = ⊎_elim (λ r. inl (ready_says a x r)) (λ r. inr (ready_says (with_commit a actions) x r)) d
  leaves_commit k Stopped may d = absurd may

  module _ (k : Copy) (n : ℕ) where
    abbrev Turned : List ℕ → Type 0
    Turned b = SaysIt (saying (asked_in k.since) (turned_half a n)) b

    pub leaves_checkpoint : (stage : Stage) → Possible stage true Checkpoint → DuringIn (work_beside stage Checkpoint k actions) a x → During Before Turned stage x
    leaves_checkpoint Idle may d = absurd may
    leaves_checkpoint Close may d = d
    leaves_checkpoint CloseSync may d = d
    leaves_checkpoint Body may d = ready_says a x d
    leaves_checkpoint BodySync may d = d
    leaves_checkpoint Gate may d = d
    leaves_checkpoint TurnSync may d = d
    leaves_checkpoint Retire may d = d
    leaves_checkpoint GateSync may d = d
    leaves_checkpoint Stopped may d = absurd may

pub either_by : (B A : List ℕ → Type 0) (x : List ℕ) (stage : Stage) → During B A stage x → IsWorking stage → B x ⊎ A x
either_by B A x Idle d works = absurd works
either_by B A x Close d works = inl d
either_by B A x CloseSync d works = inl d
either_by B A x Body d works = inl d
either_by B A x BodySync d works = inl d
either_by B A x Gate d works = d
either_by B A x TurnSync d works = d
either_by B A x Retire d works = inr d
either_by B A x GateSync d works = d
either_by B A x Stopped d works = absurd works

-- .. of a book's
pub run_within : (b : Book) → InOrder b → IsWorking b.stage → b.copying ≡ true → b.run ≤ length b.buffer.items
run_within b i works on =
    (opened b i works on).within

pub run_size : (b : Book) → InOrder b → IsWorking b.stage → b.copying ≡ true → length (run_in b) ≡ b.run
run_size b i works on = length-take-le b.run b.buffer.items (run_within b i works on)

module _ (b : Book) (i : InOrder b) (works : IsWorking b.stage) (result : Result Unit DiskFault) (old new : DeviceState) where
  abbrev Left : List ℕ → Type 0
  Left x = IsImage old x ⊎ IsImage new x

  abbrev Stored : List Asked → List ℕ → Type 0
  Stored before x = SaysIt (saying before (account b)) x

  abbrev Then : Work → List Asked → List ℕ → Type 0
  Then work after x = SaysIt (saying after (done_by work b)) x

  -- the trail before, and after the work
  abbrev Moments : Work → Type 0
  Moments work = (before after : List Asked) × AddsTo work before b.actions.items after × ((x : List ℕ) → Left x → During (Stored before) (Then work after) b.stage x)

  moments_by : (trail : List Asked) (copying : Bool) (work : Work) → Possible b.stage copying work → PassesBy copying b.stage work trail b result old new → Moments work
  moments_by trail false Commit may p = (trail, trail ++ b.actions.items, refl, λ x moment. leaves_alone (saying trail (account b)) b.actions.items x b.stage works (p.any_moment x moment))
  moments_by trail false Checkpoint may p = absurd (never_alone b.stage may)
  moments_by trail true Commit may p =
      (trail, trail ++ b.actions.items, refl, λ x moment. leaves_commit (saying trail (account b)) b.actions.items x (at_out p.0 b.out) b.stage may (p.3.any_moment x moment))
  moments_by trail true Checkpoint may p =
      (trail, asked_in p.0.since, p.1.ends, λ x moment. leaves_checkpoint (saying trail (account b)) b.actions.items x (at_out p.0 b.out) b.run b.stage may (p.3.any_moment x moment))

  during : PassesOn result old new b → Moments b.work
  during p = moments_by p.0 b.copying b.work (possible b i works) p.1

  pub leaves_saying : PassesOn result old new b → LeavesSaying b Left
  leaves_saying p =
      let m = during p in
      record { before = m.0; after = m.1; adds = m.2; says = λ x moment. subst (λ (y : Account). During (Stored m.0) (SaysIt (saying m.1 y)) b.stage x) (sym (next_is b b.stage refl works)) (m.3 x moment) }

  stopped : (x : List ℕ) (w : Work) → HoldsIt (done_by w b) x → HoldsIt (done_by w (record b { stage = Stopped })) x
  stopped x Commit r = r
  stopped x Checkpoint r = r

  -- a call has failed
  pub stops : PassesOn result old new b → Keeps new (record b { stage = Stopped })
  stops p =
      let m = during p in
      (m.0, λ image left. ⊎_elim (λ (r : Stored m.0 image). inl r.0) (λ (r : Then b.work m.1 image). inr (stopped image b.work r.0)) (either_by (Stored m.0) (Then b.work m.1) image b.stage (m.3 image (inr left)) works))

-- ---- a call that was done

pub rested : (b : Book) (a : Account) (state : DeviceState) → b.stage ≡ Idle → b.copying ≡ false → saying a.trail (account b) ≡ a → KeptIn Rest a state → Keeps state b
rested b a state idle off is kept =
    (a.trail, subst (λ (s : Stage). KeptBy s b.copying b.work a.trail b state) (sym idle) (subst (λ (o : Bool). KeptBy Idle o b.work a.trail b state) (sym off) (subst (λ (x : Account). KeptIn Rest x state) (sym is) kept)))

-- a commit's frame in the run of an open checkpoint
grows_run : (old new : Book) (k : Copy) → IsCopy (account old) k → run_text (account old) k ≡ run_in old → length (run_in old) ≡ old.run → account new ≡ saying [] (with_commit (account old) old.actions.items) → GrowsBook old new
    → run_text (account new) (with_copied_frame k old.actions.items) ≡ run_in new
grows_run old new k copy run long account_is g =
    (λ j. run_text (account_is j) (with_copied_frame k old.actions.items))
    ∙ ap (λ (t : List ℕ). t ++ closed_gate (newer old.version) ∷ []) (open_grows (account old) k old.actions.items copy ∙ ap (λ (t : List ℕ). open_text (account old) k ++ t) (frame_is (account old) k old.actions.items copy))
    ∙ append_assoc (open_text (account old) k) (165 ∷ frame_text (newer old.version) (old.epoch + 1) (old.stored.panel.count + 1) old.actions.items) (closed_gate (newer old.version) ∷ [])
    ∙ ap (λ (t : List ℕ). t ++ (165 ∷ frame_body (newer old.version) (old.epoch + 1) (old.stored.panel.count + 1) old.actions.items)) front
    ∙ sym g.text
  where
    size : length (open_text (account old) k) ≡ old.run - 1
    size = omega (arith, ap length run, long, length-append (open_text (account old) k) (closed_gate (newer old.version) ∷ []))

    front : open_text (account old) k ≡ take (old.run - 1) (run_in old)
    front = sym (take_at (open_text (account old) k) (closed_gate (newer old.version) ∷ []) (old.run - 1) size) ∙ ap (take (old.run - 1)) run

module _ (step : Progress) (old new : Book) (state : DeviceState) (i : InOrder old) (works : IsWorking old.stage) where
  abbrev listed : List Asked
  listed = old.actions.items

  as_book : (trail : List Asked) (b : Book) (stage : Stage) (copying : Bool) (work : Work) → b.stage ≡ stage → b.copying ≡ copying → b.work ≡ work → KeptBy stage copying work trail b state → Keeps state b
  as_book trail b stage copying work at on is kept =
      (trail, subst (λ (s : Stage). KeptBy s b.copying b.work trail b state) (sym at) (subst (λ (o : Bool). KeptBy stage o b.work trail b state) (sym on) (subst (λ (w : Work). KeptBy stage copying w trail b state) (sym is) kept)))

  moved : (to : Book) → new ≡ to → Keeps state to → Keeps state new
  moved to same kept = subst (Keeps state) (sym same) kept

  -- without an open checkpoint
  abbrev NextAlone : List Asked → Stage → Type 0
  NextAlone trail stage = KeptIn (next_work (work_alone stage listed) (saying trail (account old)) (piece_of old)) (next_account (work_alone stage listed) (saying trail (account old))) state

  commit_closes : (trail : List Asked) → ClosesBook old new → old.copying ≡ false → KeptIn Rest (with_commit (saying trail (account old)) listed) state → Keeps state new
  commit_closes trail c off kept = rested new (with_commit (saying trail (account old)) listed) state (c.stage ∙ ap rest_stage off) (c.copying ∙ off) (ap (saying (trail ++ listed)) c.account) kept

  goes_alone : (trail : List Asked) (stage : Stage) → old.copying ≡ false → old.work ≡ Commit → Possible stage false Commit → IsBookAfter stage Commit step old new → NextAlone trail stage → Keeps state new
  goes_alone trail Idle off is may goes kept = absurd may
  goes_alone trail Close off is may goes kept = absurd may
  goes_alone trail CloseSync off is may goes kept = absurd may
  goes_alone trail Body off is may goes kept = moved (record old { stage = BodySync }) goes.1 (as_book trail (record old { stage = BodySync }) BodySync false Commit refl off is kept)
  goes_alone trail BodySync off is may goes kept = moved (record old { stage = Gate }) goes.1 (as_book trail (record old { stage = Gate }) Gate false Commit refl off is kept)
  goes_alone trail Gate off is may goes kept = moved (record old { stage = GateSync }) goes.1 (as_book trail (record old { stage = GateSync }) GateSync false Commit refl off is kept)
  goes_alone trail TurnSync off is may goes kept = absurd may
  goes_alone trail Retire off is may goes kept = absurd may
  goes_alone trail GateSync off is may goes kept = commit_closes trail goes.1 off kept
  goes_alone trail Stopped off is may goes kept = absurd may

  -- with an open checkpoint
  module _ (trail : List Asked) (k : Copy) (copied : CopiedIn old trail k) (on : old.copying ≡ true) where
    abbrev here : Copy
    here = at_out k old.out

    abbrev Next : Stage → Work → Type 0
    Next stage work = KeptIn (next_work (work_beside stage work here listed) (saying trail (account old)) (piece_of old)) (next_account (work_beside stage work here listed) (saying trail (account old))) state

    to_stage : (stage : Stage) (work : Work) → IsWorking stage → old.work ≡ work → KeptBy stage true work trail old state → new ≡ record old { stage = stage } → Keeps state new
    to_stage stage work goes_on is kept goes = moved (record old { stage = stage }) goes (as_book trail (record old { stage = stage }) stage true work refl on is (again stage goes_on kept))
      where
        again : (s : Stage) → IsWorking s → KeptBy s true work trail old state → KeptBy s true work trail (record old { stage = stage }) state
        again Idle never x = absurd never
        again Close on x = (x.0, record { run = x.1.run; ends = x.1.ends }, x.2)
        again CloseSync on x = (x.0, record { run = x.1.run; ends = x.1.ends }, x.2)
        again Body on x = (x.0, record { run = x.1.run; ends = x.1.ends }, x.2)
        again BodySync on x = (x.0, record { run = x.1.run; ends = x.1.ends }, x.2)
        again Gate on x = (x.0, record { run = x.1.run; ends = x.1.ends }, x.2)
        again TurnSync on x = (x.0, record { run = x.1.run; ends = x.1.ends }, x.2)
        again Retire on x = (x.0, record { run = x.1.run; ends = x.1.ends }, x.2)
        again GateSync on x = (x.0, record { run = x.1.run; ends = x.1.ends }, x.2)
        again Stopped never x = absurd never

    -- the frames since, and that of the commit
    ends_grown : IsEnd (asked_in (with_copied_frame k listed).since) (trail ++ listed)
    ends_grown =
        let was = copied.ends in
        (was.0, ap (λ (l : List Asked). l ++ listed) was.1 ∙ append_assoc was.0 (asked_in k.since) listed ∙ ap (λ (l : List Asked). was.0 ++ l) (sym (asked_pushed k.since (written listed))))

    resumes : ClosesBook old new → IsCopy (account old) here → KeptIn (Pause (with_copied_frame here listed)) (with_commit (saying trail (account old)) listed) state → Keeps state new
    resumes c copy kept =
        let now : saying (trail ++ listed) (account new) ≡ with_commit (saying trail (account old)) listed = ap (saying (trail ++ listed)) c.account in
        as_book (trail ++ listed) new Body true Checkpoint (c.stage ∙ ap rest_stage on) (c.copying ∙ on) (c.work ∙ ap rest_work on) (
          with_copied_frame k listed,
          record { run = grows_run old new here copy copied.run (run_size old i works on) c.account (subst (λ (o : Bool). GrowsWhere o old new) on c.grows); ends = ends_grown },
          subst (λ (n : ℕ). KeptIn (Pause (at_out (with_copied_frame k listed) n)) (saying (trail ++ listed) (account new)) state) (sym c.out) (subst (λ (y : Account). KeptIn (Pause (with_copied_frame here listed)) y state) (sym now) kept),
        )

    goes_commit : (was : DeviceState) (stage : Stage) → old.work ≡ Commit → Possible stage true Commit → IsBookAfter stage Commit step old new → KeptIn (work_beside stage Commit here listed) (saying trail (account old)) was → Next stage Commit → Keeps state new
    goes_commit was Idle is may goes before kept = absurd may
    goes_commit was Close is may goes before kept = absurd may
    goes_commit was CloseSync is may goes before kept = absurd may
    goes_commit was Body is may goes before kept = to_stage BodySync Commit tt is (k, copied, kept) goes.1
    goes_commit was BodySync is may goes before kept = to_stage Gate Commit tt is (k, copied, kept) goes.1
    goes_commit was Gate is may goes before kept = to_stage GateSync Commit tt is (k, copied, kept) goes.1
    goes_commit was TurnSync is may goes before kept = absurd may
    goes_commit was Retire is may goes before kept = absurd may
    goes_commit was GateSync is may goes before kept = resumes goes.1 (plain before.1.0) kept
    goes_commit was Stopped is may goes before kept = absurd may

    -- all of the run went out, or another piece is next
    abbrev Placed : Bool → Type 0
    Placed last = KeptIn (if last then End here BodySync else Pause (with_sent_bytes here (piece_of old))) (saying trail (account old)) state

    by_place : (last : Bool) → old.work ≡ Checkpoint → (old.out + piece_of old == old.run) ≡ last → Placed last → Keeps state (sent_by (piece_of old) old)
    by_place true is at x = as_book trail (sent_by (piece_of old) old) BodySync true Checkpoint (ap (λ (l : Bool). if l then BodySync else Body) at) on is (k, record { run = copied.run; ends = copied.ends }, x)
    by_place false is at x = as_book trail (sent_by (piece_of old) old) Body true Checkpoint (ap (λ (l : Bool). if l then BodySync else Body) at) on is (k, record { run = copied.run; ends = copied.ends }, x)

    sends : old.work ≡ Checkpoint → new ≡ sent_by (piece_of old) old → Next Body Checkpoint → Keeps state new
    sends is goes kept =
        moved (sent_by (piece_of old) old) goes (by_place (old.out + piece_of old == old.run) is refl (subst (λ (n : ℕ). Placed (old.out + piece_of old == n)) (ap length copied.run ∙ run_size old i works on) kept))

    turned_rest : TurnsBook old new → KeptIn Rest (ended_by (saying trail (account old)) here) state → Keeps state new
    turned_rest t kept =
        rested new (ended_by (saying trail (account old)) here) state t.stage t.copying
        (ap (saying (asked_in k.since)) t.account ∙ sym (turned_is (saying trail (account old)) here old.run (ap length copied.run ∙ run_size old i works on))) kept

    by_turn : (b : Bool) → old.work ≡ Checkpoint → new ≡ record old { stage = turn_stage b } → KeptIn (End here (turn_stage b)) (saying trail (account old)) state → Keeps state new
    by_turn true is goes kept = to_stage TurnSync Checkpoint tt is (k, copied, kept) goes
    by_turn false is goes kept = to_stage GateSync Checkpoint tt is (k, copied, kept) goes

    goes_checkpoint : (stage : Stage) → old.work ≡ Checkpoint → Possible stage true Checkpoint → IsBookAfter stage Checkpoint step old new → Next stage Checkpoint → Keeps state new
    goes_checkpoint Idle is may goes kept = absurd may
    goes_checkpoint Close is may goes kept = to_stage CloseSync Checkpoint tt is (k, copied, kept) goes.1
    goes_checkpoint CloseSync is may goes kept =
        moved (record old { stage = Body; other_open = false }) goes.1 (as_book trail (record old { stage = Body; other_open = false }) Body true Checkpoint refl on is (k, record { run = copied.run; ends = copied.ends }, kept))
    goes_checkpoint Body is may goes kept = sends is goes.1 kept
    goes_checkpoint BodySync is may goes kept = to_stage Gate Checkpoint tt is (k, copied, kept) goes.1
    goes_checkpoint Gate is may goes kept = by_turn (is_summed old.version) is goes.1 kept
    goes_checkpoint TurnSync is may goes kept = to_stage Retire Checkpoint tt is (k, copied, kept) goes.1
    goes_checkpoint Retire is may goes kept = to_stage GateSync Checkpoint tt is (k, copied, kept) goes.1
    goes_checkpoint GateSync is may goes kept = turned_rest goes.1 kept
    goes_checkpoint Stopped is may goes kept = absurd may

  pub goes_on : (was : DeviceState) (result : Result Unit DiskFault) → result ≡ Ok tt → IsBookAfter old.stage old.work step old new → PassesOn result was state old → Keeps state new
  goes_on was result done goes p = by_copying p.0 old.copying old.work refl refl (possible old i works) goes p.1
    where
      by_copying : (trail : List Asked) (copying : Bool) (work : Work) → old.copying ≡ copying → old.work ≡ work → Possible old.stage copying work → IsBookAfter old.stage work step old new → PassesBy copying old.stage work trail old result was state → Keeps state new
      by_copying trail false Commit on is may g p = goes_alone trail old.stage on is may g (p.kept done)
      by_copying trail false Checkpoint on is may g p = absurd (never_alone old.stage may)
      by_copying trail true Commit on is may g p = goes_commit trail p.0 p.1 on was old.stage is may g p.2 (p.3.kept done)
      by_copying trail true Checkpoint on is may g p = goes_checkpoint trail p.0 p.1 on old.stage is may g (p.3.kept done)

-- a call that was done isn't reported as failed
abbrev IsFailed : Progress → Type 0
IsFailed Failed = Unit {0}
IsFailed step = ⊥

told : (step is : Progress) → step ≡ is → (IsFailed is → ⊥) → step ≡ Failed → ⊥
told step is same not failed = not (subst IsFailed (sym failed ∙ same) tt)

pub not_failed : (stage : Stage) (work : Work) (step : Progress) (old new : Book) → IsBookAfter stage work step old new → step ≡ Failed → ⊥
not_failed Idle work step old new goes = told step More goes.0 (λ f. f)
not_failed Close work step old new goes = told step More goes.0 (λ f. f)
not_failed CloseSync work step old new goes = told step More goes.0 (λ f. f)
not_failed Body Commit step old new goes = told step More goes.0 (λ f. f)
not_failed Body Checkpoint step old new goes = told step More goes.0 (λ f. f)
not_failed BodySync work step old new goes = told step More goes.0 (λ f. f)
not_failed Gate Commit step old new goes = told step More goes.0 (λ f. f)
not_failed Gate Checkpoint step old new goes = told step More goes.0 (λ f. f)
not_failed TurnSync work step old new goes = told step More goes.0 (λ f. f)
not_failed Retire work step old new goes = told step More goes.0 (λ f. f)
not_failed GateSync work step old new goes = told step Done goes.0 (λ f. f)
not_failed Stopped work step old new goes = told step More goes.0 (λ f. f)

pub ends_by : (step : Progress) (old new : Book) → IsBookAfter old.stage old.work step old new → EndsStep step old new
ends_by More old new goes = goes
ends_by Done old new goes = goes
ends_by Failed old new goes = absurd (not_failed old.stage old.work Failed old new goes refl)

-- a call leaves the layout as it is
pub gone_layout : (stage : Stage) (work : Work) (step : Progress) (old new : Book) → IsBookAfter stage work step old new → new.layout ≡ old.layout
gone_layout Idle work step old new g = ap (λ (b : Book). b.layout) g.1
gone_layout Close work step old new g = ap (λ (b : Book). b.layout) g.1
gone_layout CloseSync work step old new g = ap (λ (b : Book). b.layout) g.1
gone_layout Body Commit step old new g = ap (λ (b : Book). b.layout) g.1
gone_layout Body Checkpoint step old new g = ap (λ (b : Book). b.layout) g.1
gone_layout BodySync work step old new g = ap (λ (b : Book). b.layout) g.1
gone_layout Gate Commit step old new g = ap (λ (b : Book). b.layout) g.1
gone_layout Gate Checkpoint step old new g = ap (λ (b : Book). b.layout) g.1
gone_layout TurnSync work step old new g = ap (λ (b : Book). b.layout) g.1
gone_layout Retire work step old new g = ap (λ (b : Book). b.layout) g.1
gone_layout GateSync Commit step old new g = ap (λ (a : Account). a.layout) g.1.account
gone_layout GateSync Checkpoint step old new g = ap (λ (a : Account). a.layout) g.1.account
gone_layout Stopped work step old new g = ap (λ (b : Book). b.layout) g.1
