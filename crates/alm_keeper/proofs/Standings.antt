-- What a device encodes, by what it holds.
use Rattle.std.proofs.Common.{◌≡◌, ◌⊎◌, inl, inr, ⊎_elim, ℕ, ◌+◌, ◌≤◌, suc, Bool, true, false, List, ◌∷◌, length, Ok, refl, sym, ◌∙◌, ap, subst, arith}
use Rattle.std.proofs.Math.Logic.{∥∥₁_map}
use Rattle.alm_model.specs.Plant.{Condensed}
use Rattle.alm_disk.specs.Device.{DeviceState, IsImage}
use Rattle.alm_disk.specs.Settled.{IsSettled}
use Rattle.alm_disk.proofs.Images.{settled_image}
use Rattle.alm_segment.proofs.Segments.{folds}
use Rattle.alm_checkpoint.specs.Standing.{Stands}
use Rattle.alm_checkpoint.specs.Layouts.{half_len, image_size, other}
use Rattle.alm_checkpoint.specs.Opening.{gate_in, head_of, opened_in}
use Rattle.alm_checkpoint.specs.Cut.{device_of}
use Rattle.alm_checkpoint.proofs.Shown.{shown, shown_opens, shown_beside, stands}
use Rattle.alm_checkpoint.proofs.Grown.{gate_at}
use Rattle.alm_keeper.specs.declared.book.Book.{Book}
use Rattle.alm_keeper.specs.declared.stage.Stage.{Stage}
use Rattle.alm_keeper.specs.declared.stage.Stage.TheVariants.{Idle, Close, CloseSync, Body, BodySync, Gate, TurnSync, Retire, GateSync, Stopped}
use Rattle.alm_keeper.specs.declared.stage.Work.{Work}
use Rattle.alm_keeper.specs.declared.stage.Work.TheVariants.{Commit, Checkpoint}
use Rattle.alm_codec.specs.declared.asked.Asked.{Asked}
use Rattle.alm_keeper.specs.Stages.{IsWorking, During, phase_of}
use Rattle.alm_store.specs.Advancing.{IsResting}
use Rattle.alm_keeper.specs.Stand.{HoldsPlant, HoldsIt, SaysIt, Ready, Account, IsAlone, saying, account_of, with_commit, turned_half}
use Rattle.alm_keeper.specs.Piecewise.{Copy, turned_by}
use Rattle.alm_checkpoint.specs.Headers.{is_summed}
use Rattle.alm_keeper.specs.Phases.{KeptLast, KeptIn}
use Rattle.alm_keeper.specs.Trail.{Says}
use Rattle.alm_keeper.specs.Saying.{MaySay, SaysOne}
use Rattle.alm_keeper.specs.Keeper.{Standing, KeeperView, IsStoredIn, StandsWithRoom, LiesIn, MayStand}
use Rattle.alm_keeper.specs.Keeper.{next as next_seen_of}
use Rattle.alm_keeper.specs.Keeper.{Progresses as AdvancesSeen}
use Rattle.alm_store.specs.declared.progress.Progress.{Progress}
use Rattle.alm_keeper.specs.Keeping.{account, done_by, account_next_at, account_next, work_alone, work_beside, at_out, standing_by, keeper_of, InOrder, KeptBy, Keeps, LeavesSaying, EndsStep}
use Rattle.alm_keeper.proofs.Commit.{ready_holds, ready_says}
use Rattle.alm_keeper.proofs.Order.{Possible, possible, commits, layout_limits, runs_by, frames_by, piece_by, copies_by}
use Rattle.alm_keeper.proofs.Going.{kept_alone, kept_beside, never_alone, next_is, rested}
use Rattle.alm_keeper.proofs.Starting.{AtRest, Idles, Pauses, trail_of, at_rest, rest_ready}
use Rattle.alm_keeper.proofs.Seen.{next_seen, ends_seen}

-- ---- what a device encodes, by what it holds

pub holds_stands : (epoch : ℕ) (plant : Condensed) (b : List ℕ) → HoldsPlant epoch plant b → Stands b epoch plant
holds_stands epoch plant b h =
    subst (λ (e : ℕ). Stands b e plant) h.in_epoch (subst (λ (bytes : List ℕ). Stands bytes h.cut.epoch plant) (sym h.text) (stands h.cut plant h.gate h.tail h.stores h.closed h.reaches))

pub ready_stands : (a : Account) (b : List ℕ) → Ready a b → Stands b a.epoch a.plant
ready_stands a b r = holds_stands a.epoch a.plant b (ready_holds a b r)

-- .. with its room
pub ready_room : (a : Account) (b : List ℕ) → Ready a b → StandsWithRoom (standing_by a) b
ready_room a b r =
    subst (λ (y : Account). StandsWithRoom (standing_by y) b) (sym r.is)
    (subst (StandsWithRoom (standing_by (account_of r.cut a.plant))) (sym r.text) (here, left, refl))
  where
    here : Stands (device_of r.cut (r.gate ∷ r.tail)) r.cut.epoch a.plant
    here = record {
      opened = shown r.cut (r.gate ∷ r.tail);
      opens = shown_opens r.cut a.plant (r.gate ∷ r.tail) r.stores r.reaches;
      in_epoch = refl;
      base = r.cut.base;
      spells = record { sum = refl; sizes = r.stores.sizes; image = r.stores.image };
      left = suc (length r.tail);
      folds = folds r.cut.version r.cut.base r.cut.epoch r.cut.base.panel.count r.cut.frames r.gate r.tail r.stores.frames r.stores.borne r.stores.admitted r.closed
          ∙ ap (λ (q : Condensed). Ok (q, suc (length r.tail))) r.stores.runs;
    }

    left : suc (length r.tail) ≡ (standing_by (account_of r.cut a.plant)).room
    left = omega (arith, gate_at r.cut a.plant (r.gate ∷ r.tail) r.stores r.reaches)

-- .. in its half
pub ready_lies : (a : Account) (b : List ℕ) → Ready a b → LiesIn a.half a.layout a.other_open b
ready_lies a b r = record {
  opened = shown r.cut (r.gate ∷ r.tail);
  opens = ap opened_in r.text ∙ shown_opens r.cut a.plant (r.gate ∷ r.tail) r.stores r.reaches;
  in_half = sym (ap (λ (y : Account). y.half) r.is);
  of_layout = sym (ap (λ (y : Account). y.layout) r.is);
  beside = (λ i. gate_in (head_of (r.is i).layout (other (r.is i).half) (r.text i))) ∙ shown_beside r.cut a.plant (r.gate ∷ r.tail) r.stores r.reaches ∙ sym (ap (λ (y : Account). y.other_open) r.is);
}

during_map : (B A B' A' : List ℕ → Type 0) (stage : Stage) (b : List ℕ) → (B b → B' b) → (A b → A' b) → During B A stage b → During B' A' stage b
during_map B A B' A' Idle b f g d = g d
during_map B A B' A' Close b f g d = f d
during_map B A B' A' CloseSync b f g d = f d
during_map B A B' A' Body b f g d = f d
during_map B A B' A' BodySync b f g d = f d
during_map B A B' A' Gate b f g d = ⊎_elim (λ x. inl (f x)) (λ x. inr (g x)) d
during_map B A B' A' TurnSync b f g d = ⊎_elim (λ x. inl (f x)) (λ x. inr (g x)) d
during_map B A B' A' Retire b f g d = g d
during_map B A B' A' GateSync b f g d = ⊎_elim (λ x. inl (f x)) (λ x. inr (g x)) d
during_map B A B' A' Stopped b f g d = ⊎_elim (λ x. inl (f x)) (λ x. inr (g x)) d

-- what the device encodes, by the book
abbrev After : Book → List ℕ → Type 0
After book b = Stands b (account_next book).epoch (account_next book).plant

pub after_seen : {D : Type 0} (disk : D) (book : Book) (b : List ℕ) → After book b → IsStoredIn (next_seen_of (keeper_of disk book)) b
after_seen disk book b s = subst (λ (x : Standing). IsStoredIn x b) (next_seen disk book book.stage) s

-- by what is under way
module _ (a : Account) (actions : List Asked) (state : DeviceState) (b : List ℕ) (left : IsImage state b) where
  abbrev Stored : Type 0
  Stored = HoldsPlant a.epoch a.plant b

  pub alone_leaves : (stage : Stage) → KeptIn (work_alone stage actions) a state → Stored ⊎ HoldsIt (with_commit a actions) b
  alone_leaves Idle k = inl (ready_holds a b (k.images b left))
  alone_leaves Close k = absurd k.2.stands
  alone_leaves CloseSync k = absurd k.2.stands
  alone_leaves Body k = inl (ready_holds a b (k.2.images b left))
  alone_leaves BodySync k = inl (ready_holds a b (k.2.images b left))
  alone_leaves Gate k = inl (ready_holds a b (k.2.images b left))
  alone_leaves TurnSync k = absurd k.2.stands
  alone_leaves Retire k = absurd k.2.stands
  alone_leaves GateSync k = ⊎_elim (λ x. inl (ready_holds a b x)) (λ x. inr (ready_holds (with_commit a actions) b x)) (k.2.images b left)
  alone_leaves Stopped k = ⊎_elim (λ x. inl (ready_holds a b x)) (λ x. inr (ready_holds (with_commit a actions) b x)) (k.2.images b left)

  pub commit_leaves : (k : Copy) (stage : Stage) → Possible stage true Commit → KeptIn (work_beside stage Commit k actions) a state → Stored ⊎ HoldsIt (with_commit a actions) b
  commit_leaves c Idle may k = absurd may
  commit_leaves c Close may k = absurd may
  commit_leaves c CloseSync may k = absurd may
  commit_leaves c Body may k = inl (ready_holds a b (k.2.images b left))
  commit_leaves c BodySync may k = inl (ready_holds a b (k.2.images b left))
  commit_leaves c Gate may k = inl (ready_holds a b (k.2.images b left))
  commit_leaves c TurnSync may k = absurd may
  commit_leaves c Retire may k = absurd may
  commit_leaves c GateSync may k = ⊎_elim (λ x. inl (ready_holds a b x)) (λ x. inr (ready_holds (with_commit a actions) b x)) (k.2.images b left)
  commit_leaves c Stopped may k = absurd may

  module _ (c : Copy) (n : ℕ) where
    abbrev Turning : Type 0
    Turning = Stored ⊎ HoldsIt (turned_half a n) b

    turning : Ready a b ⊎ Ready (turned_by a c) b → Turning
    turning = ⊎_elim (λ x. inl (ready_holds a b x)) (λ x. inr (ready_holds (turned_by a c) b x))

    last_leaves : (summed : Bool) → KeptLast summed c a state → Turning
    last_leaves true k = inr (k.images b left).0
    last_leaves false k = turning (k.images b left)

    pub checkpoint_leaves : (stage : Stage) → Possible stage true Checkpoint → KeptIn (work_beside stage Checkpoint c actions) a state → Turning
    checkpoint_leaves Idle may k = absurd may
    checkpoint_leaves Close may k = inl (ready_holds a b (k.3.images b left))
    checkpoint_leaves CloseSync may k = inl (k.2.images b left).0
    checkpoint_leaves Body may k = inl (ready_holds a b (k.1.images b left))
    checkpoint_leaves BodySync may k = inl (ready_holds a b (k.images b left))
    checkpoint_leaves Gate may k = inl (ready_holds a b (k.images b left))
    checkpoint_leaves TurnSync may k = turning (k.1.images b left)
    checkpoint_leaves Retire may k = inr (ready_holds (turned_by a c) b (k.1.images b left))
    checkpoint_leaves GateSync may k = last_leaves (is_summed a.version) k
    checkpoint_leaves Stopped may k = absurd may

-- of a book's device
module _ (book : Book) (i : InOrder book) (state : DeviceState) (b : List ℕ) (left : IsImage state b) where
  abbrev Either : Account → Type 0
  Either a = HoldsPlant book.epoch book.stored b ⊎ HoldsIt a b

  at_work : IsWorking book.stage → (trail : List Asked) (copying : Bool) (work : Work) → Possible book.stage copying work → KeptBy book.stage copying work trail book state → Either (done_by work book)
  at_work works trail false Commit may k = alone_leaves (saying trail (account book)) book.actions.items state b left book.stage (kept_alone book trail state book.stage Commit works k)
  at_work works trail false Checkpoint may k = absurd (never_alone book.stage may)
  at_work works trail true Commit may k =
      let here = kept_beside book trail state book.stage Commit works k in
      commit_leaves (saying trail (account book)) book.actions.items state b left (at_out here.0 book.out) book.stage may here.2
  at_work works trail true Checkpoint may k =
      let here = kept_beside book trail state book.stage Checkpoint works k in
      checkpoint_leaves (saying trail (account book)) book.actions.items state b left (at_out here.0 book.out) book.run book.stage may here.2

  works_next : (works : IsWorking book.stage) → Keeps state book → Either (account_next book)
  works_next works k = subst Either (sym (next_is book book.stage refl works)) (at_work works k.0 book.copying book.work (possible book i works) k.1)

  next_at : (stage : Stage) → book.stage ≡ stage → IsWorking stage → Keeps state book → Either (account_next_at stage book.work book)
  next_at stage is works kept = subst (λ (s : Stage). Either (account_next_at s book.work book)) is (works_next (subst IsWorking (sym is) works) kept)

  by_stage : (stage : Stage) → book.stage ≡ stage → Keeps state book → Either (account_next_at stage book.work book)
  by_stage Idle is kept =
      let rest = at_rest book state i (subst (λ (s : Stage). IsResting (phase_of s book.work)) (sym is) tt) kept in
      inr (ready_holds (saying (trail_of rest) (account book)) b (rest_ready book state rest b left))
  by_stage Close is kept = next_at Close is tt kept
  by_stage CloseSync is kept = next_at CloseSync is tt kept
  by_stage Body is kept = next_at Body is tt kept
  by_stage BodySync is kept = next_at BodySync is tt kept
  by_stage Gate is kept = next_at Gate is tt kept
  by_stage TurnSync is kept = next_at TurnSync is tt kept
  by_stage Retire is kept = next_at Retire is tt kept
  by_stage GateSync is kept = next_at GateSync is tt kept
  by_stage Stopped is kept = subst (λ (s : Stage). KeptBy s book.copying book.work kept.0 book state) is kept.1 b left

  pub either_is : Keeps state book → Either (account_next book)
  either_is kept = by_stage book.stage refl kept

pub image_stands : {D : Type 0} (disk : D) (book : Book) (state : DeviceState) (b : List ℕ) → InOrder book → Keeps state book → IsImage state b
    → IsStoredIn (standing_by (account book)) b ⊎ IsStoredIn (next_seen_of (keeper_of disk book)) b
image_stands disk book state b i k image =
    ⊎_elim (λ h. inl (holds_stands book.epoch book.stored b h)) (λ r. inr (after_seen disk book b (holds_stands (account_next book).epoch (account_next book).plant b r)))
    (either_is book i state b image k)

-- what the device says, by what it holds
holds_says : (a : Account) (b : List ℕ) → SaysIt a b → Says a.trail b
holds_says a b s = record { cut = s.0.cut; plant = a.plant; stores = s.0.stores; gate = s.0.gate; closed = s.0.closed; tail = s.0.tail; reaches = s.0.reaches; text = s.0.text; said = s.1 }

module _ {D : Type 0} (disk : D) (book : Book) (left : List ℕ → Type 0) (m : LeavesSaying book left) where
  abbrev Here : List ℕ → Type 0
  Here = SaysIt (saying m.before (account book))

  abbrev There : List ℕ → Type 0
  There = SaysIt (saying m.after (account_next book))

  pub leaves_stands : (b : List ℕ) → left b → MayStand (keeper_of disk book) b
  leaves_stands b moment =
      during_map Here There (IsStoredIn (standing_by (account book))) (IsStoredIn (next_seen_of (keeper_of disk book))) book.stage b
      (λ h. holds_stands book.epoch book.stored b h.0) (λ h. after_seen disk book b (holds_stands (account_next book).epoch (account_next book).plant b h.0)) (m.says b moment)

  pub leaves_said : MaySay (keeper_of disk book) left
  leaves_said = record {
    before = m.before;
    after = m.after;
    adds = m.adds;
    says = λ b moment. during_map Here There (Says m.before) (Says m.after) book.stage b (holds_says (saying m.before (account book)) b) (holds_says (saying m.after (account_next book)) b) (m.says b moment);
  }

pub rest_says : (book : Book) (state : DeviceState) → InOrder book → IsResting (phase_of book.stage book.work) → Keeps state book → SaysOne (IsImage state)
rest_says book state i rests k =
    let rest = at_rest book state i rests k in
    let a = saying (trail_of rest) (account book) in
    record { asked = trail_of rest; says = λ b image. holds_says a b (ready_says a b (rest_ready book state rest b image)) }

pub rest_stands : (book : Book) (state : DeviceState) → InOrder book → IsResting (phase_of book.stage book.work) → Keeps state book → StandsWithRoom (standing_by (account book)) state.bytes
rest_stands book state i rests k = by_rest (at_rest book state i rests k)
  where
    by_rest : AtRest book state → StandsWithRoom (standing_by (account book)) state.bytes
    by_rest (Idles trail off kept) = subst (StandsWithRoom (standing_by (account book))) (sym kept.rests.reads) (ready_room (saying trail (account book)) kept.bytes kept.ready)
    by_rest (Pauses trail c on copied kept) = subst (StandsWithRoom (standing_by (account book))) (sym kept.1.rests.reads) (ready_room (saying trail (account book)) kept.1.bytes kept.1.ready)

rest_lies : (book : Book) (state : DeviceState) → InOrder book → IsResting (phase_of book.stage book.work) → Keeps state book → LiesIn book.half book.layout book.other_open state.bytes
rest_lies book state i rests k = by_rest (at_rest book state i rests k)
  where
    by_rest : AtRest book state → LiesIn book.half book.layout book.other_open state.bytes
    by_rest (Idles trail off kept) = subst (LiesIn book.half book.layout book.other_open) (sym kept.rests.reads) (ready_lies (saying trail (account book)) kept.bytes kept.ready)
    by_rest (Pauses trail c on copied kept) = subst (LiesIn book.half book.layout book.other_open) (sym kept.1.rests.reads) (ready_lies (saying trail (account book)) kept.1.bytes kept.1.ready)

-- the same of a keeper as its callers see it
module _ {D : Type 0} (honest : D → Type 0) (state : D → DeviceState) (disk : D) (book : Book) (k : KeeperView D) (same : keeper_of disk book ≡ k) (order : InOrder book) (kept : honest disk → ∥ Keeps (state disk) book ∥₁) where
  pub images_of : honest k.disk → (b : List ℕ) → IsImage (state k.disk) b → ∥ IsStoredIn k.stored b ⊎ IsStoredIn (next_seen_of k) b ∥₁
  images_of = subst (λ (h : KeeperView D). honest h.disk → (b : List ℕ) → IsImage (state h.disk) b → ∥ IsStoredIn h.stored b ⊎ IsStoredIn (next_seen_of h) b ∥₁) same
      (λ is b image. ∥∥₁_map (kept is) (λ x. image_stands disk book (state disk) b order x image))

  pub rest_of : honest k.disk → IsResting (phase_of k.stage k.work) → ∥ StandsWithRoom k.stored (state k.disk).bytes ∥₁
  rest_of = subst (λ (h : KeeperView D). honest h.disk → IsResting (phase_of h.stage h.work) → ∥ StandsWithRoom h.stored (state h.disk).bytes ∥₁) same
      (λ is rests. ∥∥₁_map (kept is) (λ x. rest_stands book (state disk) order rests x))

  pub lies_of : honest k.disk → IsResting (phase_of k.stage k.work) → ∥ LiesIn k.half k.layout k.other_open (state k.disk).bytes ∥₁
  lies_of = subst (λ (h : KeeperView D). honest h.disk → IsResting (phase_of h.stage h.work) → ∥ LiesIn h.half h.layout h.other_open (state h.disk).bytes ∥₁) same
      (λ is rests. ∥∥₁_map (kept is) (λ x. rest_lies book (state disk) order rests x))

  pub lengths_of : (image_size k.layout ≤ 3289168) × (k.layout.segment ≤ 16777216)
  lengths_of = subst (λ (h : KeeperView D). (image_size h.layout ≤ 3289168) × (h.layout.segment ≤ 16777216)) same (layout_limits book.layout order.layout)

  pub runs_of : IsWorking k.stage → k.work ≡ Checkpoint → (k.out ≤ k.run) × (k.run + k.stored.room ≤ half_len k.layout)
  runs_of = subst (λ (h : KeeperView D). IsWorking h.stage → h.work ≡ Checkpoint → (h.out ≤ h.run) × (h.run + h.stored.room ≤ half_len h.layout)) same (λ works is. runs_by book order works is)

  pub frames_of : IsWorking k.stage → k.work ≡ Commit → (length k.asked ≤ 256) × (k.copying ≡ true → k.out + 1 ≤ k.run)
  frames_of = subst (λ (h : KeeperView D). IsWorking h.stage → h.work ≡ Commit → (length h.asked ≤ 256) × (h.copying ≡ true → h.out + 1 ≤ h.run)) same (λ works is. frames_by book order works is)

  pub alone_of : IsWorking k.stage → k.work ≡ Commit → IsAlone k.stored.version k.other_open
  alone_of = subst (λ (h : KeeperView D). IsWorking h.stage → h.work ≡ Commit → IsAlone h.stored.version h.other_open) same (λ works is. (commits book order works is).alone)

  pub pieces_of : k.stage ≡ Body → k.work ≡ Checkpoint → k.out + 1 ≤ k.run
  pieces_of = subst (λ (h : KeeperView D). h.stage ≡ Body → h.work ≡ Checkpoint → h.out + 1 ≤ h.run) same (λ at is. piece_by book order at is)

  pub copies_of : (k.stage ≡ Idle → k.copying ≡ false) × (IsWorking k.stage → k.work ≡ Checkpoint → k.copying ≡ true)
  copies_of = subst (λ (h : KeeperView D). (h.stage ≡ Idle → h.copying ≡ false) × (IsWorking h.stage → h.work ≡ Checkpoint → h.copying ≡ true)) same (copies_by book order)

  pub one_of : honest k.disk → IsResting (phase_of k.stage k.work) → ∥ SaysOne (IsImage (state k.disk)) ∥₁
  one_of = subst (λ (h : KeeperView D). honest h.disk → IsResting (phase_of h.stage h.work) → ∥ SaysOne (IsImage (state h.disk)) ∥₁) same
      (λ is rests. ∥∥₁_map (kept is) (λ x. rest_says book (state disk) order rests x))

  module _ (new : DeviceState) (leaves : honest disk → ∥ LeavesSaying book (λ b. IsImage (state disk) b ⊎ IsImage new b) ∥₁) where
    pub moments_of : honest k.disk → (b : List ℕ) → IsImage (state k.disk) b ⊎ IsImage new b → ∥ MayStand k b ∥₁
    moments_of = subst (λ (h : KeeperView D). honest h.disk → (b : List ℕ) → IsImage (state h.disk) b ⊎ IsImage new b → ∥ MayStand h b ∥₁) same
        (λ is b moment. ∥∥₁_map (leaves is) (λ m. leaves_stands disk book (λ x. IsImage (state disk) x ⊎ IsImage new x) m b moment))

    pub says_of : honest k.disk → ∥ MaySay k (λ b. IsImage (state k.disk) b ⊎ IsImage new b) ∥₁
    says_of = subst (λ (h : KeeperView D). honest h.disk → ∥ MaySay h (λ b. IsImage (state h.disk) b ⊎ IsImage new b) ∥₁) same
        (λ is. ∥∥₁_map (leaves is) (λ m. leaves_said disk book (λ x. IsImage (state disk) x ⊎ IsImage new x) m))

-- a call, as callers see it
pub advances_of : (D : Type 0) (disk to : D) (old new : Book) (k : KeeperView D) (result : Progress) → keeper_of disk old ≡ k → EndsStep result old new → AdvancesSeen result k (keeper_of to new)
advances_of D disk to old new k result same e = subst (λ (h : KeeperView D). AdvancesSeen result h (keeper_of to new)) same (ends_seen disk to old new result e)

-- a device that was opened is kept
pub opened_keeps : (book : Book) (state : DeviceState) → book.stage ≡ Idle → book.copying ≡ false → IsSettled state state.bytes → (trail : List Asked) × Ready (saying trail (account book)) state.bytes → Keeps state book
opened_keeps book state idle off settled opened =
    rested book (saying opened.0 (account book)) state idle off refl
    (record {
      images = λ c image. subst (Ready (saying opened.0 (account book))) (sym (settled_image state state.bytes c settled image)) opened.1;
      bytes = state.bytes;
      ready = opened.1;
      rests = record { reads = settled.reads; within = λ place free. settled.nothing_pending place; sound = settled.sound };
    })
