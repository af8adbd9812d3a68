-- What is kept of a device as work is begun.
use Rattle.std.proofs.Common.{◌≡◌, inl, ℕ, ◌+◌, ◌^◌, ◌≤◌, ◌<◌, Bool, true, false, List, [], ◌∷◌, ◌++◌, Result, Ok, Err, refl, sym, ◌∙◌, ap, subst, true≢false}
use Rattle.std.proofs.lemmas.List.{append-nil}
use Rattle.alm_codec.specs.declared.asked.Asked.{Asked}
use Rattle.alm_codec.specs.Image.{image_text}
use Rattle.alm_disk.specs.Device.{DeviceState, IsImage}
use Rattle.alm_codec.specs.Versions.{closed_gate, newer}
use Rattle.alm_checkpoint.specs.Headers.{half_head_text}
use Rattle.alm_checkpoint.specs.declared.layout.Layout.{Layout}
use Rattle.alm_checkpoint.specs.Layouts.{device_len, other}
use Rattle.alm_checkpoint.specs.Cut.{head_before}
use Rattle.alm_keeper.specs.declared.book.Book.{Book}
use Rattle.alm_store.specs.declared.refused.Refused.{Refused}
use Rattle.alm_store.specs.declared.refused.Refused.TheVariants as no
use Rattle.alm_keeper.specs.declared.stage.Stage.{Stage}
use Rattle.alm_keeper.specs.declared.stage.Stage.TheVariants.{Idle, Close, CloseSync, Body, BodySync, Gate, TurnSync, Retire, GateSync, Stopped}
use Rattle.alm_keeper.specs.declared.stage.Work.{Work}
use Rattle.alm_keeper.specs.declared.stage.Work.TheVariants.{Commit, Checkpoint}
use Rattle.alm_keeper.specs.Stages.{IsWorking, first_stage, phase_of}
use Rattle.alm_store.specs.Advancing.{IsResting}
use Rattle.alm_keeper.specs.Stand.{HoldsPlant, Account, saying, Ready}
use Rattle.alm_keeper.specs.Piecewise.{Copy, new_copy, run_text}
use Rattle.alm_keeper.specs.Phases.{Rest, Shut, Pause, KeptIn, Commits}
use Rattle.alm_keeper.specs.Keeping.{account, run_in, at_out, Does, OpenedBook, IsCopying, InOrder, FitsDevice, Begins, Copies, CopiedIn, KeptBy, Keeps}
use Rattle.alm_keeper.proofs.Commit.{ready_holds}
use Rattle.alm_keeper.proofs.Order.{commits, opened}
use Rattle.alm_keeper.proofs.Begun.{idle_commits, paused_commits, idle_copies, first_work}

-- what is known if no work is under way
pub data AtRest (b : Book) (state : DeviceState) : Type 0 where
  Idles : (trail : List Asked) → b.copying ≡ false → KeptIn Rest (saying trail (account b)) state → AtRest b state
  Pauses : (trail : List Asked) (k : Copy) → b.copying ≡ true → CopiedIn b trail k → KeptIn (Pause (at_out k b.out)) (saying trail (account b)) state → AtRest b state

-- the trail that it has
abbrev pub trail_of : {b : Book} {state : DeviceState} → AtRest b state → List Asked
trail_of (Idles trail off k) = trail
trail_of (Pauses trail c on copied k) = trail

pub at_rest : (b : Book) (state : DeviceState) → InOrder b → IsResting (phase_of b.stage b.work) → Keeps state b → AtRest b state
at_rest b state i rests kept = by_stage b.stage b.work rests i.does b.copying refl kept.1
  where
    by_stage : (s : Stage) (w : Work) → IsResting (phase_of s w) → Does s w b → (o : Bool) → b.copying ≡ o → KeptBy s o w kept.0 b state → AtRest b state
    by_stage Idle w r d true is k = absurd (true≢false (sym is ∙ d.0))
    by_stage Idle w r d false is k = Idles kept.0 is k
    by_stage Body Checkpoint r d true is k = Pauses kept.0 k.0 is k.1 k.2
    by_stage Body Checkpoint r d false is k = absurd (true≢false (sym d.0 ∙ is))
    by_stage Body Commit r d o is k = absurd r
    by_stage Stopped w r d o is k = absurd r
    by_stage Close Commit r d o is k = absurd r
    by_stage Close Checkpoint r d o is k = absurd r
    by_stage CloseSync Commit r d o is k = absurd r
    by_stage CloseSync Checkpoint r d o is k = absurd r
    by_stage BodySync Commit r d o is k = absurd r
    by_stage BodySync Checkpoint r d o is k = absurd r
    by_stage Gate Commit r d o is k = absurd r
    by_stage Gate Checkpoint r d o is k = absurd r
    by_stage TurnSync Commit r d o is k = absurd r
    by_stage TurnSync Checkpoint r d o is k = absurd r
    by_stage Retire Commit r d o is k = absurd r
    by_stage Retire Checkpoint r d o is k = absurd r
    by_stage GateSync Commit r d o is k = absurd r
    by_stage GateSync Checkpoint r d o is k = absurd r

-- each image is as the account says
pub rest_ready : (b : Book) (state : DeviceState) (r : AtRest b state) (x : List ℕ) → IsImage state x → Ready (saying (trail_of r) (account b)) x
rest_ready b state (Idles trail off k) x image = k.images x image
rest_ready b state (Pauses trail c on copied k) x image = k.1.images x image

-- work is begun
works_at : (trail : List Asked) (b : Book) (state : DeviceState) (stage : Stage) (copying : Bool) (work : Work) → b.stage ≡ stage → b.copying ≡ copying → b.work ≡ work → KeptBy stage copying work trail b state → Keeps state b
works_at trail b state stage copying work at on is k =
    (trail, subst (λ (s : Stage). KeptBy s b.copying b.work trail b state) (sym at) (subst (λ (o : Bool). KeptBy stage o b.work trail b state) (sym on) (subst (λ (w : Work). KeptBy stage copying w trail b state) (sym is) k)))

pub begun_keeps : (result : Result Unit Refused) (actions : List Asked) (old new : Book) (state : DeviceState) → Begins result actions old new → InOrder old → InOrder new → Keeps state old → Keeps state new
begun_keeps (Ok _) actions old new state b before i k = by_rest (at_rest old state before b.0 k)
  where
    works : IsWorking new.stage
    works = subst IsWorking (sym b.1) tt

    is : Commits (account new) new.actions.items
    is = let w = commits new i works b.2 in (w.spells, w.admitted, w.takes)

    by_rest : AtRest old state → Keeps state new
    by_rest (Idles trail off kept) =
        works_at trail new state Body false Commit b.1 (b.4.copying ∙ off) b.2
        (idle_commits (saying trail (account new)) new.actions.items state is (subst (λ (a : Account). KeptIn Rest (saying trail a) state) (sym b.4.account) kept))
    by_rest (Pauses trail c on copied kept) =
        let here : KeptIn (Pause (at_out c new.out)) (saying trail (account new)) state =
        subst (λ (n : ℕ). KeptIn (Pause (at_out c n)) (saying trail (account new)) state) (sym b.4.out) (subst (λ (a : Account). KeptIn (Pause (at_out c old.out)) (saying trail a) state) (sym b.4.account) kept) in
        works_at trail new state Body true Commit b.1 (b.4.copying ∙ on) b.2 (
          c,
          record { run = ap (λ (a : Account). run_text a c) b.4.account ∙ copied.run ∙ sym b.4.text; ends = copied.ends },
          paused_commits (saying trail (account new)) (at_out c new.out) new.actions.items state i.gate is here,
        )
begun_keeps (Err (no.NotAccepted place)) actions old new state b before i k =
    let here = at_rest old state before b.0 k in
    let trail = trail_of here in (
      trail,
      subst (λ (s : Stage). KeptBy s new.copying new.work trail new state) (sym b.1)
          (λ image left. inl (subst (λ (a : Account). HoldsPlant a.epoch a.plant image) (sym b.4.account) (ready_holds (saying trail (account old)) image (rest_ready old state here image left)))),
    )
begun_keeps (Err no.Stopped) actions old new state b before i k = subst (Keeps state) (sym b) k
begun_keeps (Err no.Working) actions old new state b before i k = subst (Keeps state) (sym b) k
begun_keeps (Err no.Gap) actions old new state b before i k = subst (Keeps state) (sym b) k
begun_keeps (Err no.Exhausted) actions old new state b before i k = subst (Keeps state) (sym b) k

pub begun_layout : (result : Result Unit Refused) (actions : List Asked) (old new : Book) → Begins result actions old new → new.layout ≡ old.layout
begun_layout (Ok _) actions old new b = ap (λ (a : Account). a.layout) b.4.account
begun_layout (Err (no.NotAccepted place)) actions old new b = ap (λ (a : Account). a.layout) b.4.account
begun_layout (Err no.Stopped) actions old new b = ap (λ (x : Book). x.layout) b
begun_layout (Err no.Working) actions old new b = ap (λ (x : Book). x.layout) b
begun_layout (Err no.Gap) actions old new b = ap (λ (x : Book). x.layout) b
begun_layout (Err no.Exhausted) actions old new b = ap (λ (x : Book). x.layout) b

pub still_fits : (old new : Book) (size : ℕ) → new.layout ≡ old.layout → FitsDevice old size → FitsDevice new size
still_fits old new size same f = record { fits = subst (λ (l : Layout). device_len l ≤ size) (sym same) f.fits; in_memory = f.in_memory }

-- the run of a copy of which nothing went out
run_is : (a : Account) → run_text a (new_copy a) ≡ half_head_text a.layout (other a.half) (head_before (newer a.version) (a.epoch + 1) a.plant) ++ image_text a.plant ++ closed_gate (newer a.version) ∷ []
run_is a = ap (λ (l : List ℕ). l ++ closed_gate (newer a.version) ∷ []) (append-nil (half_head_text a.layout (other a.half) (head_before (newer a.version) (a.epoch + 1) a.plant) ++ image_text a.plant))

pub copied_keeps : (result : Result Unit Refused) (old new : Book) (state : DeviceState) → Copies result old new → InOrder old → InOrder new → Keeps state old → Keeps state new
copied_keeps (Ok _) old new state b before i k =
    works_at here.0 new state (first_stage old.other_open) true Checkpoint b.stage b.copying b.work
    (by_mark here.0 old.other_open (ap (λ (a : Account). a.other_open) b.account) (idle_copies (saying here.0 (account new)) state more i.rules i.sizes i.count here.1))
  where
    resting : IsResting (phase_of old.stage old.work)
    resting = subst (λ (s : Stage). IsResting (phase_of s old.work)) (sym b.idle) tt

    here : (trail : List Asked) × KeptIn Rest (saying trail (account new)) state
    here = by_rest (at_rest old state before resting k)
      where
        by_rest : AtRest old state → (trail : List Asked) × KeptIn Rest (saying trail (account new)) state
        by_rest (Idles trail off kept) = (trail, subst (λ (a : Account). KeptIn Rest (saying trail a) state) (sym b.account) kept)
        by_rest (Pauses trail c on copied kept) = absurd (true≢false (sym on ∙ (subst (λ (s : Stage). Does s old.work old) b.idle before.does).0))

    first_works : (o : Bool) → IsWorking (first_stage o)
    first_works true = tt
    first_works false = tt

    more : new.epoch + 1 < 2 ^ 64
    more = (opened new i (subst IsWorking (sym b.stage) (first_works old.other_open)) b.copying).more

    text : run_text (account new) (new_copy (account new)) ≡ run_in new
    text = ap (λ (a : Account). run_text a (new_copy a)) b.account ∙ run_is (account old) ∙ sym b.text

    copied : (trail : List Asked) → CopiedIn new trail (new_copy (account new))
    copied trail = record { run = text; ends = (trail, sym (append-nil trail)) }

    by_mark : (trail : List Asked) (o : Bool) → new.other_open ≡ o → KeptIn (first_work new.other_open (new_copy (account new))) (saying trail (account new)) state → KeptBy (first_stage o) true Checkpoint trail new state
    by_mark trail true is kept =
        let here = subst (λ (m : Bool). KeptIn (first_work m (new_copy (account new))) (saying trail (account new)) state) is kept in
        (new_copy (account new), copied trail, subst (λ (n : ℕ). KeptIn (Shut (at_out (new_copy (account new)) n)) (saying trail (account new)) state) (sym b.out) here)
    by_mark trail false is kept =
        let here = subst (λ (m : Bool). KeptIn (first_work m (new_copy (account new))) (saying trail (account new)) state) is kept in
        (new_copy (account new), copied trail, subst (λ (n : ℕ). KeptIn (Pause (at_out (new_copy (account new)) n)) (saying trail (account new)) state) (sym b.out) here)
copied_keeps (Err why) old new state b before i k = subst (Keeps state) (sym b) k

pub copied_layout : (result : Result Unit Refused) (old new : Book) → Copies result old new → new.layout ≡ old.layout
copied_layout (Ok _) old new b = ap (λ (a : Account). a.layout) b.account
copied_layout (Err why) old new b = ap (λ (x : Book). x.layout) b

-- a mark changes only its count
pub marked_order : (b : Book) (n : ℕ) → InOrder b → InOrder (record b { written = n })
marked_order b n i = record {
  layout = i.layout;
  small = i.small;
  rules = i.rules;
  sizes = i.sizes;
  count = i.count;
  first = i.first;
  gate = i.gate;
  room = i.room;
  frame = i.frame;
  frame_room = i.frame_room;
  buffer = i.buffer;
  does = does b.stage b.work i.does;
  copy = copies b.copying b.stage i.copy;
}
  where
    does : (s : Stage) (w : Work) → Does s w b → Does s w (record b { written = n })
    does Idle w d = d
    does Close Commit d = absurd d
    does Close Checkpoint d = d
    does CloseSync Commit d = absurd d
    does CloseSync Checkpoint d = d
    does Body Commit d = d
    does Body Checkpoint d = d
    does BodySync Commit d = d
    does BodySync Checkpoint d = d
    does Gate Commit d = d
    does Gate Checkpoint d = d
    does TurnSync Commit d = d
    does TurnSync Checkpoint d = d
    does Retire Commit d = d
    does Retire Checkpoint d = d
    does GateSync Commit d = d
    does GateSync Checkpoint d = d
    does Stopped w d = tt

    same : (s : Stage) → OpenedBook s b → OpenedBook s (record b { written = n })
    same s o = record { more = o.more; least = o.least; room = o.room; within = o.within; sent = o.sent }

    copies : (o : Bool) (s : Stage) → IsCopying o s b → IsCopying o s (record b { written = n })
    copies false s o = tt
    copies true Stopped o = tt
    copies true Idle o = same Idle o
    copies true Close o = same Close o
    copies true CloseSync o = same CloseSync o
    copies true Body o = same Body o
    copies true BodySync o = same BodySync o
    copies true Gate o = same Gate o
    copies true TurnSync o = same TurnSync o
    copies true Retire o = same Retire o
    copies true GateSync o = same GateSync o

pub marked_keeps : (b : Book) (n : ℕ) (state : DeviceState) → Keeps state b → Keeps state (record b { written = n })
marked_keeps b n state kept = (kept.0, by_stage b.stage b.copying kept.1)
  where
    by_stage : (s : Stage) (o : Bool) → KeptBy s o b.work kept.0 b state → KeptBy s o b.work kept.0 (record b { written = n }) state
    by_stage Stopped o k = by_work b.work k
      where
        by_work : (w : Work) → KeptBy Stopped o w kept.0 b state → KeptBy Stopped o w kept.0 (record b { written = n }) state
        by_work Commit x = x
        by_work Checkpoint x = x
    by_stage Idle false k = k
    by_stage Idle true k = (k.0, record { run = k.1.run; ends = k.1.ends }, k.2)
    by_stage Close false k = k
    by_stage Close true k = (k.0, record { run = k.1.run; ends = k.1.ends }, k.2)
    by_stage CloseSync false k = k
    by_stage CloseSync true k = (k.0, record { run = k.1.run; ends = k.1.ends }, k.2)
    by_stage Body false k = k
    by_stage Body true k = (k.0, record { run = k.1.run; ends = k.1.ends }, k.2)
    by_stage BodySync false k = k
    by_stage BodySync true k = (k.0, record { run = k.1.run; ends = k.1.ends }, k.2)
    by_stage Gate false k = k
    by_stage Gate true k = (k.0, record { run = k.1.run; ends = k.1.ends }, k.2)
    by_stage TurnSync false k = k
    by_stage TurnSync true k = (k.0, record { run = k.1.run; ends = k.1.ends }, k.2)
    by_stage Retire false k = k
    by_stage Retire true k = (k.0, record { run = k.1.run; ends = k.1.ends }, k.2)
    by_stage GateSync false k = k
    by_stage GateSync true k = (k.0, record { run = k.1.run; ends = k.1.ends }, k.2)
