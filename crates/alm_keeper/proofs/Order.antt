-- What a book keeps as work begins and ends.
use Rattle.std.proofs.Common.{[], vec_capacity, nat_le, take, ◌-◌, ◌≡◌, ℕ, ◌+◌, ◌*◌, ◌^◌, ◌≤◌, ◌<◌, Bool, true, false, List, length, refl, sym, ◌∙◌, ap, subst, arith, ◌∷◌, ◌++◌, true≢false}
use Rattle.std.proofs.lemmas.List.{take-take}
use Rattle.std.proofs.lemmas.Bool.{and_parts, leb-true}
use Rattle.alm_keeper.specs.Stages.{IsWorking, first_stage, rest_stage, rest_work, phase_of}
use Rattle.alm_store.specs.Advancing.{IsResting}
use Rattle.alm_codec.specs.declared.asked.Asked.{Asked}
use Rattle.alm_model.specs.Step.{run}
use Rattle.alm_model.specs.Rules.{KeepsRules}
use Rattle.alm_model.proofs.Kept.{run-keeps}
use Rattle.alm_model.proofs.Runs.{run_sizes, run_within}
use Rattle.alm_codec.specs.declared.version.Version.{Version}
use Rattle.alm_codec.specs.Versions.{newer}
use Rattle.alm_codec.specs.Frames.{asked_actions, frame_body}
use Rattle.alm_codec.specs.Image.{IsOf, image_text, image_len}
use Rattle.alm_codec.proofs.Spelled.{image_length}
use Rattle.alm_checkpoint.specs.Layouts.{image_size, head_len, device_len, segment_at}
use Rattle.alm_keeper.specs.declared.book.Book.{Book}
use Rattle.alm_keeper.specs.declared.stage.Stage.{Stage}
use Rattle.alm_keeper.specs.declared.stage.Stage.TheVariants.{Idle, Close, CloseSync, Body, BodySync, Gate, TurnSync, Retire, GateSync, Stopped}
use Rattle.alm_keeper.specs.declared.stage.Work.{Work}
use Rattle.alm_keeper.specs.declared.stage.Work.TheVariants.{Commit, Checkpoint}
use Rattle.alm_segment.specs.Course.{frame_len}
use Rattle.alm_checkpoint.specs.declared.layout.Layout.{Layout}
use Rattle.alm_checkpoint.specs.Cut.{IsLayout}
use Rattle.alm_store.specs.declared.phase.Phase.TheVariants as at
use Rattle.alm_keeper.specs.Stand.{Account, end_of_half, with_commit}
use Rattle.alm_keeper.specs.Keeping.{account, run_in, Committing, DoesWork, Does, OpenedBook, HasSent, IsCopying, GrowsBook, GrowsWhere, ClosesBook, InOrder}
use Rattle.alm_keeper.specs.Stand.{saying}

-- what may be under way: only a checkpoint closes a gate, and a checkpoint is open as long as it is under way
abbrev pub Possible : Stage → Bool → Work → Type 0
Possible Idle copying work = ⊥
Possible Stopped copying work = ⊥
Possible Close true Checkpoint = Unit {0}
Possible Close copying work = ⊥
Possible CloseSync true Checkpoint = Unit {0}
Possible CloseSync copying work = ⊥
Possible TurnSync true Checkpoint = Unit {0}
Possible TurnSync copying work = ⊥
Possible Retire true Checkpoint = Unit {0}
Possible Retire copying work = ⊥
Possible stage false Checkpoint = ⊥
Possible stage copying work = Unit {0}

pub possible : (b : Book) → InOrder b → IsWorking b.stage → Possible b.stage b.copying b.work
possible b i works = by_stage b.stage b.copying b.work refl works i.does
  where
    never : (copying : Bool) → b.copying ≡ copying → b.copying ≡ true → copying ≡ true
    never copying is on = sym is ∙ on

    by_stage : (s : Stage) (o : Bool) (w : Work) → b.copying ≡ o → IsWorking s → Does s w b → Possible s o w
    by_stage Idle o w is works d = absurd works
    by_stage Stopped o w is works d = absurd works
    by_stage Close o Commit is works d = absurd d
    by_stage Close true Checkpoint is works d = tt
    by_stage Close false Checkpoint is works d = absurd (true≢false (sym (never false is d.0)))
    by_stage CloseSync o Commit is works d = absurd d
    by_stage CloseSync true Checkpoint is works d = tt
    by_stage CloseSync false Checkpoint is works d = absurd (true≢false (sym (never false is d.0)))
    by_stage Body true w is works d = tt
    by_stage Body false Commit is works d = tt
    by_stage Body false Checkpoint is works d = absurd (true≢false (sym (never false is d.0)))
    by_stage BodySync true w is works d = tt
    by_stage BodySync false Commit is works d = tt
    by_stage BodySync false Checkpoint is works d = absurd (true≢false (sym (never false is d.0)))
    by_stage Gate true w is works d = tt
    by_stage Gate false Commit is works d = tt
    by_stage Gate false Checkpoint is works d = absurd (true≢false (sym (never false is d.0)))
    by_stage TurnSync o Commit is works d = absurd d
    by_stage TurnSync true Checkpoint is works d = tt
    by_stage TurnSync false Checkpoint is works d = absurd (true≢false (sym (never false is d.0)))
    by_stage Retire o Commit is works d = absurd d
    by_stage Retire true Checkpoint is works d = tt
    by_stage Retire false Checkpoint is works d = absurd (true≢false (sym (never false is d.0)))
    by_stage GateSync true w is works d = tt
    by_stage GateSync false Commit is works d = tt
    by_stage GateSync false Checkpoint is works d = absurd (true≢false (sym (never false is d.0)))

-- at work a book does its work
pub working : (b : Book) (stage : Stage) → InOrder b → b.stage ≡ stage → IsWorking stage → DoesWork b.work b
working b stage i is works = by_stage stage b.work works (subst (λ (s : Stage). Does s b.work b) is i.does)
  where
    by_stage : (s : Stage) (w : Work) → IsWorking s → Does s w b → DoesWork w b
    by_stage Idle w never d = absurd never
    by_stage Close Commit works d = absurd d
    by_stage Close Checkpoint works d = d
    by_stage CloseSync Commit works d = absurd d
    by_stage CloseSync Checkpoint works d = d
    by_stage Body w works d = d
    by_stage BodySync w works d = d
    by_stage Gate w works d = d
    by_stage TurnSync Commit works d = absurd d
    by_stage TurnSync Checkpoint works d = d
    by_stage Retire Commit works d = absurd d
    by_stage Retire Checkpoint works d = d
    by_stage GateSync w works d = d
    by_stage Stopped w never d = absurd never

pub commits : (b : Book) → InOrder b → IsWorking b.stage → b.work ≡ Commit → Committing (account b) b.actions.items b.frame.items b.ahead
commits b i works work = subst (λ (w : Work). DoesWork w b) work (working b b.stage i refl works)

pub copies : (b : Book) → InOrder b → IsWorking b.stage → b.work ≡ Checkpoint → (b.copying ≡ true) × (b.ahead ≡ b.stored)
copies b i works work = subst (λ (w : Work). DoesWork w b) work (working b b.stage i refl works)

-- .. and only a checkpoint shuts the half that stood
pub never_turned : (b : Book) → InOrder b → b.work ≡ Commit → b.stage ≡ Retire → ⊥
never_turned b i is turned = subst (λ (w : Work). Does Retire w b) is (subst (λ (s : Stage). Does s b.work b) turned i.does)

-- an open checkpoint
pub opened : (b : Book) → InOrder b → IsWorking b.stage → b.copying ≡ true → OpenedBook b.stage b
opened b i works on = by_stage b.stage works (subst (λ (o : Bool). IsCopying o b.stage b) on i.copy)
  where
    by_stage : (s : Stage) → IsWorking s → IsCopying true s b → OpenedBook s b
    by_stage Idle works o = absurd works
    by_stage Stopped works o = absurd works
    by_stage Close works o = o
    by_stage CloseSync works o = o
    by_stage Body works o = o
    by_stage BodySync works o = o
    by_stage Gate works o = o
    by_stage TurnSync works o = o
    by_stage Retire works o = o
    by_stage GateSync works o = o

pub sent_at : (b : Book) (stage : Stage) (work : Work) → InOrder b → IsWorking stage → b.stage ≡ stage → b.work ≡ work → b.copying ≡ true → HasSent stage work b.out b.run
sent_at b stage work i works at is on =
    let here : IsWorking b.stage = subst IsWorking (sym at) works in
    subst (λ (s : Stage). HasSent s work b.out b.run) at (subst (λ (w : Work). HasSent b.stage w b.out b.run) is (opened b i here on).sent)

-- the plant after a commit
pub rules_after : (b : Book) → InOrder b → Committing (account b) b.actions.items b.frame.items b.ahead → KeepsRules (run b.stored (asked_actions b.actions.items))
rules_after b i c = run-keeps b.stored (asked_actions b.actions.items) i.rules c.admitted

pub sizes_after : (b : Book) → InOrder b → Committing (account b) b.actions.items b.frame.items b.ahead → IsOf b.layout.rows b.layout.areas (run b.stored (asked_actions b.actions.items)).panel.count (run b.stored (asked_actions b.actions.items))
sizes_after b i c =
    let s = run_sizes b.stored (asked_actions b.actions.items) i.rules.measured in
    record { by_rows = s.0 ∙ i.sizes.by_rows; by_areas = s.1 ∙ i.sizes.by_areas; by_count = refl }

pub count_after : (b : Book) → InOrder b → Committing (account b) b.actions.items b.frame.items b.ahead → (run b.stored (asked_actions b.actions.items)).panel.count ≤ 2 ^ 48
count_after b i c = run_within b.stored (asked_actions b.actions.items) i.count c.admitted

-- no work is under way: none is begun
pub rests : (b : Book) → IsResting (phase_of b.stage b.work) → InOrder b → b.ahead ≡ b.stored
rests b idle i = by_stage b.stage b.work idle i.does
  where
    by_stage : (s : Stage) (w : Work) → IsResting (phase_of s w) → Does s w b → b.ahead ≡ b.stored
    by_stage Idle w idle d = d.1
    by_stage Body Checkpoint idle d = d.1
    by_stage Body Commit idle d = absurd idle
    by_stage Stopped w idle d = absurd idle
    by_stage Close Commit idle d = absurd idle
    by_stage Close Checkpoint idle d = absurd idle
    by_stage CloseSync Commit idle d = absurd idle
    by_stage CloseSync Checkpoint idle d = absurd idle
    by_stage BodySync Commit idle d = absurd idle
    by_stage BodySync Checkpoint idle d = absurd idle
    by_stage Gate Commit idle d = absurd idle
    by_stage Gate Checkpoint idle d = absurd idle
    by_stage TurnSync Commit idle d = absurd idle
    by_stage TurnSync Checkpoint idle d = absurd idle
    by_stage Retire Commit idle d = absurd idle
    by_stage Retire Checkpoint idle d = absurd idle
    by_stage GateSync Commit idle d = absurd idle
    by_stage GateSync Checkpoint idle d = absurd idle

-- a commit that is begun leaves an open checkpoint as it is
module _ (b : Book) (i : InOrder b) (resting : IsResting (phase_of b.stage b.work)) where
  paused_at : (s : Stage) (w : Work) → b.stage ≡ s → b.work ≡ w → IsResting (phase_of s w) → b.copying ≡ true → OpenedBook Body b × (b.work ≡ Checkpoint)
  paused_at Idle w at is r on = absurd (true≢false (sym on ∙ (subst (λ (s : Stage). Does s b.work b) at i.does).0))
  paused_at Body Checkpoint at is r on = (subst (λ (s : Stage). OpenedBook s b) at (opened b i (subst IsWorking (sym at) tt) on), is)
  paused_at Body Commit at is r on = absurd r
  paused_at Stopped w at is r on = absurd r
  paused_at Close Commit at is r on = absurd r
  paused_at Close Checkpoint at is r on = absurd r
  paused_at CloseSync Commit at is r on = absurd r
  paused_at CloseSync Checkpoint at is r on = absurd r
  paused_at BodySync Commit at is r on = absurd r
  paused_at BodySync Checkpoint at is r on = absurd r
  paused_at Gate Commit at is r on = absurd r
  paused_at Gate Checkpoint at is r on = absurd r
  paused_at TurnSync Commit at is r on = absurd r
  paused_at TurnSync Checkpoint at is r on = absurd r
  paused_at Retire Commit at is r on = absurd r
  paused_at Retire Checkpoint at is r on = absurd r
  paused_at GateSync Commit at is r on = absurd r
  paused_at GateSync Checkpoint at is r on = absurd r

  pub still_copying : (new : Book) → new ≡ record b { stage = Body; work = Commit; ahead = new.ahead; actions = new.actions; frame = new.frame } → IsCopying new.copying Body new
  still_copying new same = subst (λ (x : Book). IsCopying x.copying Body x) (sym same) (by_copying b.copying refl)
    where
      begun : Book
      begun = record b { stage = Body; work = Commit; ahead = new.ahead; actions = new.actions; frame = new.frame }

      by_copying : (o : Bool) → b.copying ≡ o → IsCopying o Body begun
      by_copying false off = tt
      by_copying true on =
          let p = paused_at b.stage b.work refl refl resting on in
          record { more = p.0.more; least = p.0.least; room = p.0.room; within = p.0.within; sent = subst (λ (w : Work). HasSent Body w b.out b.run) p.1 p.0.sent }

-- how long the image is
pub image_size_is : (b : Book) → InOrder b → length (image_text b.stored) ≡ image_size b.layout
image_size_is b i = image_length b.stored i.rules ∙ (λ j. image_len (i.sizes.by_rows j) (i.sizes.by_areas j))

-- ---- works begin and end

pub idle_stage : (s : Stage) (w : Work) → phase_of s w ≡ at.Idle → s ≡ Idle
idle_stage Idle w e = refl
idle_stage Stopped w e = absurd cc
idle_stage Body Commit e = absurd cc
idle_stage Body Checkpoint e = absurd cc
idle_stage Close Commit e = absurd cc
idle_stage Close Checkpoint e = absurd cc
idle_stage CloseSync Commit e = absurd cc
idle_stage CloseSync Checkpoint e = absurd cc
idle_stage BodySync Commit e = absurd cc
idle_stage BodySync Checkpoint e = absurd cc
idle_stage Gate Commit e = absurd cc
idle_stage Gate Checkpoint e = absurd cc
idle_stage TurnSync Commit e = absurd cc
idle_stage TurnSync Checkpoint e = absurd cc
idle_stage Retire Commit e = absurd cc
idle_stage Retire Checkpoint e = absurd cc
idle_stage GateSync Commit e = absurd cc
idle_stage GateSync Checkpoint e = absurd cc

-- a checkpoint that is opened
pub opens_does : (new : Book) (o : Bool) → new.copying ≡ true → new.ahead ≡ new.stored → Does (first_stage o) Checkpoint new
opens_does new true on same = (on, same)
opens_does new false on same = (on, same)

pub opens_copy : (new : Book) (o : Bool) → new.work ≡ Checkpoint → new.epoch + 1 < 2 ^ 64 → new.run ≡ head_len + image_size new.layout → segment_at new.layout new.half ≤ new.gate → new.out ≡ 0 → new.run ≤ length new.buffer.items → IsCopying true (first_stage o) new
opens_copy new true is more run first out within = record { more = more; least = omega (arith, run); room = omega (arith, run, first); within = within; sent = out }
opens_copy new false is more run first out within = record {
  more = more;
  least = omega (arith, run);
  room = omega (arith, run, first);
  within = within;
  sent = subst (λ (w : Work). HasSent Body w new.out new.run) (sym is) (let lt : new.out < new.run = omega (arith, run, out) in lt);
}

-- a commit that is done
abbrev Ordered : Account → Type 0
Ordered a = IsLayout a.layout × (device_len a.layout < 2 ^ 64) × KeepsRules a.plant × IsOf a.layout.rows a.layout.areas a.plant.panel.count a.plant × (a.plant.panel.count ≤ 2 ^ 48) × (segment_at a.layout a.half ≤ a.gate) × (a.gate + 1 ≤ end_of_half a)

module _ (old new : Book) (i : InOrder old) (last : old.stage ≡ GateSync) (is : old.work ≡ Commit) (c : ClosesBook old new) (ahead : new.ahead ≡ old.ahead) (frame : length new.frame.items ≡ 4115) (frame_room : vec_capacity new.frame ≡ 4115) (room : vec_capacity new.actions ≡ 256)
    (buffer : vec_capacity new.buffer ≡ vec_capacity old.buffer) (within : old.copying ≡ true → new.run ≤ length new.buffer.items) where
  works : IsWorking old.stage
  works = subst IsWorking (sym last) tt

  w : Committing (account old) old.actions.items old.frame.items old.ahead
  w = commits old i works is

  here : Ordered (account new)
  here = subst Ordered (sym c.account) (i.layout, i.small, rules_after old i w, sizes_after old i w, count_after old i w, omega (arith, i.first), omega (arith, w.takes.0))

  stored : new.ahead ≡ new.stored
  stored = ahead ∙ w.tried ∙ ap (λ (a : Account). a.plant) (sym c.account)

  does : (o : Bool) → old.copying ≡ o → Does (rest_stage o) (rest_work o) new
  does true on = (c.copying ∙ on, stored)
  does false off = (c.copying ∙ off, stored)

  opened_by : old.copying ≡ true → OpenedBook Body new
  opened_by on =
      let o = opened old i works on in
      let g : GrowsBook old new = subst (λ (b : Bool). GrowsWhere b old new) on c.grows in
      let sent : old.out < old.run = sent_at old GateSync Commit i tt last is on in
      let layout : new.layout ≡ old.layout = ap (λ (a : Account). a.layout) c.account in
      let half : new.half ≡ old.half = ap (λ (a : Account). a.half) c.account in
      let gate : new.gate ≡ old.gate + frame_len (length old.actions.items) = ap (λ (a : Account). a.gate) c.account in
      let size : image_size new.layout ≡ image_size old.layout = ap image_size layout in
      let at : segment_at new.layout new.half ≡ segment_at old.layout old.half = λ j. segment_at (layout j) (half j) in
      record {
        more = subst (λ (e : ℕ). e + 1 < 2 ^ 64) (sym (ap (λ (a : Account). a.epoch) c.account)) o.more;
        least = omega (arith, o.least, g.run, size);
        room = omega (arith, o.room, g.run, size, at, gate);
        within = within on;
        sent = subst (λ (x : Work). HasSent Body x new.out new.run) (sym (c.work ∙ ap rest_work on)) (let lt : new.out < new.run = omega (arith, sent, c.out, g.run) in lt);
      }

  copy : (o : Bool) → old.copying ≡ o → IsCopying o (rest_stage o) new
  copy true on = opened_by on
  copy false off = tt

  pub closes_order : InOrder new
  closes_order = record {
    layout = here.0;
    small = here.1;
    rules = here.2;
    sizes = here.3;
    count = here.4;
    first = here.5;
    gate = here.6;
    room = room;
    frame = frame;
    frame_room = frame_room;
    buffer = buffer ∙ i.buffer ∙ ap (λ (a : Account). head_len + image_size a.layout + a.layout.segment) (sym c.account);
    does = subst (λ (s : Stage). Does s new.work new) (sym c.stage) (subst (λ (x : Work). Does (rest_stage old.copying) x new) (sym c.work) (does old.copying refl));
    copy = subst (λ (s : Stage). IsCopying new.copying s new) (sym c.stage) (subst (λ (o : Bool). IsCopying o (rest_stage old.copying) new) (sym c.copying) (copy old.copying refl));
  }

-- the run has room for the frame of the commit
pub grows_within : (b : Book) → InOrder b → b.stage ≡ GateSync → b.work ≡ Commit → b.copying ≡ true → (1 ≤ b.run) × (b.run ≤ length b.buffer.items) × (b.run + (19 + 16 * length b.actions.items) ≤ vec_capacity b.buffer)
grows_within b i last is on =
    let works : IsWorking b.stage = subst IsWorking (sym last) tt in
    let o = opened b i works on in
    let w = commits b i works is in
    (omega (arith, o.least), o.within, omega (arith, o.room, w.takes.0, i.buffer))

-- what storing a commit leaves
abbrev pub Stores : (old mid : Book) → Type 0
Stores old mid = (account mid ≡ saying [] (with_commit (account old) old.actions.items)) × (mid ≡ record old { gate = mid.gate; stored = mid.stored; written = 0 })

pub closed_by : (old mid : Book) → old.work ≡ Commit → old.copying ≡ false → Stores old mid → ClosesBook old (record mid { stage = Idle })
closed_by old mid is off s = record {
  stage = sym (ap rest_stage off);
  work = ap (λ (b : Book). b.work) s.1 ∙ is ∙ sym (ap rest_work off);
  account = s.0;
  actions = ap (λ (b : Book). b.actions.items) s.1;
  copying = ap (λ (b : Book). b.copying) s.1;
  grows = subst (λ (o : Bool). GrowsWhere o old (record mid { stage = Idle })) (sym off) (ap (λ (b : Book). b.run) s.1);
  out = ap (λ (b : Book). b.out) s.1;
  written = ap (λ (b : Book). b.written) s.1;
}

pub resumed_by : (old mid new : Book) → old.copying ≡ true → Stores old mid → new.stage ≡ Body → new.work ≡ Checkpoint → new ≡ record mid { stage = new.stage; work = new.work; buffer = new.buffer; run = new.run } → GrowsBook old new → ClosesBook old new
resumed_by old mid new on s stage work same g = record {
  stage = stage ∙ sym (ap rest_stage on);
  work = work ∙ sym (ap rest_work on);
  account = ap account same ∙ s.0;
  actions = ap (λ (b : Book). b.actions.items) same ∙ ap (λ (b : Book). b.actions.items) s.1;
  copying = ap (λ (b : Book). b.copying) same ∙ ap (λ (b : Book). b.copying) s.1;
  grows = subst (λ (o : Bool). GrowsWhere o old new) (sym on) g;
  out = ap (λ (b : Book). b.out) same ∙ ap (λ (b : Book). b.out) s.1;
  written = ap (λ (b : Book). b.written) same ∙ ap (λ (b : Book). b.written) s.1;
}

-- what stays of a book if a commit is stored
pub ordered_by : (old mid new : Book) → InOrder old → old.stage ≡ GateSync → old.work ≡ Commit → Stores old mid → ClosesBook old new → new.ahead ≡ mid.ahead → new.frame ≡ mid.frame → new.actions ≡ mid.actions → vec_capacity new.buffer ≡ vec_capacity mid.buffer → (old.copying ≡ true → new.run ≤ length new.buffer.items) → InOrder new
ordered_by old mid new i last is s c ahead frame actions buffer within =
    closes_order old new i last is c (ahead ∙ ap (λ (b : Book). b.ahead) s.1) (ap (λ f. length f.items) frame ∙ ap (λ (b : Book). length b.frame.items) s.1 ∙ i.frame)
    (ap (λ f. vec_capacity f) frame ∙ ap (λ (b : Book). vec_capacity b.frame) s.1 ∙ i.frame_room)
    (ap (λ a. vec_capacity a) actions ∙ ap (λ (b : Book). vec_capacity b.actions) s.1 ∙ i.room) (buffer ∙ ap (λ (b : Book). vec_capacity b.buffer) s.1) within

-- a frame at the end of the run
pub grown_by : (old mid new : Book) → Stores old mid → (version : Version) (actions : List Asked) (first : ℕ) → version ≡ newer mid.version → actions ≡ mid.actions.items → first ≡ old.stored.panel.count + 1
    → take (mid.run + (19 + 16 * length actions)) new.buffer.items ≡ take (mid.run - 1) mid.buffer.items ++ (165 ∷ frame_body version (mid.epoch + 1) first actions) → new.run ≡ mid.run + (19 + 16 * length mid.actions.items) → GrowsBook old new
grown_by old mid new s version actions first of_version same is text run = record { run = grows; text = all }
  where
    acts : actions ≡ old.actions.items
    acts = same ∙ ap (λ (b : Book). b.actions.items) s.1

    versions : version ≡ newer old.version
    versions = of_version ∙ ap (λ (b : Book). newer b.version) s.1

    runs : mid.run ≡ old.run
    runs = ap (λ (b : Book). b.run) s.1

    grows : new.run ≡ old.run + frame_len (length old.actions.items)
    grows = run ∙ (λ i. runs i + (19 + 16 * length (s.1 i).actions.items))

    size : new.run ≡ mid.run + (19 + 16 * length actions)
    size = run ∙ ap (λ (l : List Asked). mid.run + (19 + 16 * length l)) (sym same)

    front : take (mid.run - 1) mid.buffer.items ≡ take (old.run - 1) (run_in old)
    front = (λ i. take (runs i - 1) (s.1 i).buffer.items) ∙ sym (take-take (old.run - 1) old.run old.buffer.items (omega arith))

    all : run_in new ≡ take (old.run - 1) (run_in old) ++ (165 ∷ frame_body (newer old.version) (old.epoch + 1) (old.stored.panel.count + 1) old.actions.items)
    all = ap (λ (n : ℕ). take n new.buffer.items) size ∙ text ∙ (λ i. front i ++ (165 ∷ frame_body (versions i) ((s.1 i).epoch + 1) (is i) (acts i)))

-- ---- how long everything is

pub layout_limits : (l : Layout) → IsLayout l → (image_size l ≤ 3289168) × (l.segment ≤ 16777216)
layout_limits l i =
    let rows = and_parts (nat_le 1 l.rows) (nat_le l.rows 16384) i.rows in
    let areas = and_parts (nat_le 1 l.areas) (nat_le l.areas 64) i.areas in
    let segment = and_parts (nat_le 4116 l.segment) (nat_le l.segment 16777216) i.segment in
    let few_rows : l.rows ≤ 16384 = leb-true l.rows 16384 rows.1 in
    let few_areas : l.areas ≤ 64 = leb-true l.areas 64 areas.1 in
    (omega (arith, few_rows, few_areas), leb-true l.segment 16777216 segment.1)

-- a run that is under way
pub runs_by : (b : Book) → InOrder b → IsWorking b.stage → b.work ≡ Checkpoint → (b.out ≤ b.run) × (b.run + (end_of_half (account b) - b.gate) ≤ head_len + image_size b.layout + b.layout.segment)
runs_by b i works is = (by_stage b.stage refl, omega (arith, o.room, i.first, i.gate))
  where
    on : b.copying ≡ true
    on = (copies b i works is).0

    o : OpenedBook b.stage b
    o = opened b i works on

    sent : (s : Stage) → b.stage ≡ s → IsWorking s → HasSent s Checkpoint b.out b.run
    sent s at here = sent_at b s Checkpoint i here at is on

    by_stage : (s : Stage) → b.stage ≡ s → b.out ≤ b.run
    by_stage Idle at = absurd (subst IsWorking at works)
    by_stage Stopped at = absurd (subst IsWorking at works)
    by_stage Close at = omega (arith, sent Close at tt)
    by_stage CloseSync at = omega (arith, sent CloseSync at tt)
    by_stage Body at = omega (arith, sent Body at tt)
    by_stage BodySync at = omega (arith, sent BodySync at tt)
    by_stage Gate at = omega (arith, sent Gate at tt)
    by_stage TurnSync at = omega (arith, sent TurnSync at tt)
    by_stage Retire at = omega (arith, sent Retire at tt)
    by_stage GateSync at = omega (arith, sent GateSync at tt)

-- a commit that is under way: its frame, and a piece of an open checkpoint is to come
pub frames_by : (b : Book) → InOrder b → IsWorking b.stage → b.work ≡ Commit → (length b.actions.items ≤ 256) × (b.copying ≡ true → b.out + 1 ≤ b.run)
frames_by b i works is = ((commits b i works is).spells.few, λ on. by_stage b.stage refl on)
  where
    sent : (s : Stage) → b.stage ≡ s → IsWorking s → b.copying ≡ true → HasSent s Commit b.out b.run
    sent s at here on = sent_at b s Commit i here at is on

    by_stage : (s : Stage) → b.stage ≡ s → b.copying ≡ true → b.out + 1 ≤ b.run
    by_stage Idle at on = absurd (subst IsWorking at works)
    by_stage Stopped at on = absurd (subst IsWorking at works)
    by_stage Close at on = omega (arith, sent Close at tt on, (opened b i works on).least)
    by_stage CloseSync at on = omega (arith, sent CloseSync at tt on, (opened b i works on).least)
    by_stage Body at on = omega (arith, sent Body at tt on)
    by_stage BodySync at on = omega (arith, sent BodySync at tt on)
    by_stage Gate at on = omega (arith, sent Gate at tt on)
    by_stage TurnSync at on = omega (arith, sent TurnSync at tt on)
    by_stage Retire at on = omega (arith, sent Retire at tt on)
    by_stage GateSync at on = omega (arith, sent GateSync at tt on)

-- if no work is under way no checkpoint is open, and one is if it is the work
pub copies_by : (b : Book) → InOrder b → (b.stage ≡ Idle → b.copying ≡ false) × (IsWorking b.stage → b.work ≡ Checkpoint → b.copying ≡ true)
copies_by b i = (λ at. (subst (λ (s : Stage). Does s b.work b) at i.does).0, λ works is. (copies b i works is).0)

-- a piece has a byte or more
pub piece_by : (b : Book) → InOrder b → b.stage ≡ Body → b.work ≡ Checkpoint → b.out + 1 ≤ b.run
piece_by b i at is = omega (arith, sent_at b Body Checkpoint i tt at is (copies b i (subst IsWorking (sym at) tt) is).0)
