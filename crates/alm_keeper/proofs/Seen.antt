-- What callers see of a book's calls.
use Rattle.std.proofs.Common.{◌≡◌, ℕ, ◌+◌, ◌-◌, Bool, true, false, List, length, Result, Ok, Err, refl, sym, ◌∙◌, ap, subst, arith}
use Rattle.alm_codec.specs.Versions.{newer}
use Rattle.alm_types.specs.declared.action.Action.{Action}
use Rattle.alm_codec.specs.declared.asked.Asked.{Asked}
use Rattle.alm_codec.specs.Frames.{asked_actions}
use Rattle.alm_model.specs.Step.{run}
use Rattle.alm_segment.specs.Course.{frame_len}
use Rattle.alm_checkpoint.specs.Layouts.{half_len}
use Rattle.alm_keeper.specs.declared.book.Book.{Book}
use Rattle.alm_store.specs.declared.refused.Refused.{Refused}
use Rattle.alm_store.specs.declared.refused.Refused.TheVariants as no
use Rattle.alm_store.specs.declared.progress.Progress.{Progress}
use Rattle.alm_store.specs.declared.progress.Progress.TheVariants.{More, Done, Failed}
use Rattle.alm_keeper.specs.declared.stage.Stage.{Stage}
use Rattle.alm_keeper.specs.declared.stage.Stage.TheVariants.{Idle, Close, CloseSync, Body, BodySync, Gate, TurnSync, Retire, GateSync, Stopped}
use Rattle.alm_keeper.specs.declared.stage.Work.{Work}
use Rattle.alm_keeper.specs.declared.stage.Work.TheVariants.{Commit, Checkpoint}
use Rattle.alm_keeper.specs.Stand.{Account, FitsFrame, TakesFrame, IsAlone, with_commit, turned_half, end_of_half}
use Rattle.alm_keeper.specs.Keeper.{HasRoom, HasRoomIn, with_actions, with_checkpoint, begun_standing, begun_by, next_by, after_frame, copied_after, after_call, after_by, BeginsCommit, BeginsCheckpoint, Progresses}
use Rattle.alm_keeper.specs.Keeping.{account, copied_in, run_in, done_by, account_next_at, standing_by, keeper_of, Begins, Copies, ClosesBook, TurnsBook, GrowsWhere, IsBookAfter, EndsStep}

-- a commit, a checkpoint
pub after_commit : (a : Account) (asked : List Asked) → standing_by (with_commit a asked) ≡ with_actions (standing_by a) asked
after_commit a asked = λ i. record { version = a.version; epoch = a.epoch; plant = run a.plant (asked_actions asked); room = left i }
  where
    left : end_of_half a - (a.gate + frame_len (length asked)) ≡ end_of_half a - a.gate - frame_len (length asked)
    left = omega arith

pub after_checkpoint : (a : Account) (n : ℕ) → standing_by (turned_half a n) ≡ with_checkpoint (half_len a.layout) n (standing_by a)
after_checkpoint a n = λ i. record { version = newer a.version; epoch = a.epoch + 1; plant = a.plant; room = left i }
  where
    left : end_of_half (turned_half a n) - (turned_half a n).gate ≡ half_len a.layout - n
    left = omega arith

module _ {D : Type 0} (disk : D) where
  pub begins_seen : (result : Result Unit Refused) (asked : List Asked) (old new : Book) → Begins result asked old new → BeginsCommit result asked (keeper_of disk old) (keeper_of disk new)
  begins_seen (Ok _) asked old new b = λ i. record {
    disk = disk;
    stage = b.1 i;
    work = b.2 i;
    half = (b.4.account i).half;
    other_open = (b.4.account i).other_open;
    layout = (b.4.account i).layout;
    stored = standing_by (b.4.account i);
    asked = b.3 i;
    copying = b.4.copying i;
    run = b.4.run i;
    copied = copied_in (b.4.copying i) (b.4.text i);
    out = b.4.out i;
    written = b.4.written i;
  }
  begins_seen (Err (no.NotAccepted place)) asked old new b = λ i. record {
    disk = disk;
    stage = b.1 i;
    work = b.2 i;
    half = (b.4.account i).half;
    other_open = (b.4.account i).other_open;
    layout = (b.4.account i).layout;
    stored = standing_by (b.4.account i);
    asked = b.3 i;
    copying = b.4.copying i;
    run = b.4.run i;
    copied = copied_in (b.4.copying i) (b.4.text i);
    out = b.4.out i;
    written = b.4.written i;
  }
  begins_seen (Err no.Stopped) asked old new b = ap (keeper_of disk) b
  begins_seen (Err no.Working) asked old new b = ap (keeper_of disk) b
  begins_seen (Err no.Gap) asked old new b = ap (keeper_of disk) b
  begins_seen (Err no.Exhausted) asked old new b = ap (keeper_of disk) b

  pub copies_seen : (result : Result Unit Refused) (old new : Book) → Copies result old new → BeginsCheckpoint result (keeper_of disk old) (keeper_of disk new)
  copies_seen (Ok _) old new b = λ i. record {
    disk = disk;
    stage = b.stage i;
    work = b.work i;
    half = (b.account i).half;
    other_open = (b.account i).other_open;
    layout = (b.account i).layout;
    stored = standing_by (b.account i);
    asked = b.actions i;
    copying = b.copying i;
    run = b.run i;
    copied = copied_in (b.copying i) (b.text i);
    out = b.out i;
    written = b.written i;
  }
  copies_seen (Err why) old new b = ap (keeper_of disk) b

-- a call that was done
module _ {D : Type 0} (disk to : D) (old new : Book) where
  closes_seen : ClosesBook old new → keeper_of to new ≡ record (after_by GateSync Commit (keeper_of disk old)) { disk = to }
  closes_seen c = λ i. record {
    disk = to;
    stage = c.stage i;
    work = c.work i;
    half = (c.account i).half;
    other_open = (c.account i).other_open;
    layout = (c.account i).layout;
    stored = (ap standing_by c.account ∙ after_commit (account old) old.actions.items) i;
    asked = c.actions i;
    copying = c.copying i;
    run = by_copying old.copying c.grows i;
    copied = (ap (λ (on : Bool). copied_in on (run_in new)) c.copying ∙ text_by old.copying c.grows) i;
    out = c.out i;
    written = c.written i;
  }
    where
      by_copying : (copying : Bool) → GrowsWhere copying old new → new.run ≡ after_frame copying old.run (length old.actions.items)
      by_copying true g = g.run
      by_copying false g = g

      text_by : (copying : Bool) → GrowsWhere copying old new → copied_in copying (run_in new) ≡ copied_after copying (standing_by (account old)) old.actions.items old.run (copied_in copying (run_in old))
      text_by true g = g.text
      text_by false g = refl

  turns_seen : TurnsBook old new → keeper_of to new ≡ record (after_by GateSync Checkpoint (keeper_of disk old)) { disk = to }
  turns_seen t = λ i. record {
    disk = to;
    stage = t.stage i;
    work = t.work i;
    half = (t.account i).half;
    other_open = (t.account i).other_open;
    layout = (t.account i).layout;
    stored = (ap standing_by t.account ∙ after_checkpoint (account old) old.run) i;
    asked = t.actions i;
    copying = t.copying i;
    run = t.run i;
    copied = copied_in (t.copying i) (run_in new);
    out = t.out i;
    written = t.written i;
  }

  by_stage : (stage : Stage) (work : Work) (step : Progress) → old.stage ≡ stage → old.work ≡ work → IsBookAfter stage work step old new → keeper_of to new ≡ record (after_by stage work (keeper_of disk old)) { disk = to }
  by_stage Idle work step at is g = ap (keeper_of to) g.1
  by_stage Close work step at is g = ap (keeper_of to) g.1
  by_stage CloseSync work step at is g = ap (keeper_of to) g.1
  by_stage Body Commit step at is g = ap (keeper_of to) g.1
  by_stage Body Checkpoint step at is g = ap (keeper_of to) g.1
  by_stage BodySync work step at is g = ap (keeper_of to) g.1
  by_stage Gate Commit step at is g = ap (keeper_of to) g.1
  by_stage Gate Checkpoint step at is g = ap (keeper_of to) g.1
  by_stage TurnSync work step at is g = ap (keeper_of to) g.1
  by_stage Retire work step at is g = ap (keeper_of to) g.1
  by_stage GateSync Commit step at is g = closes_seen g.1
  by_stage GateSync Checkpoint step at is g = turns_seen g.1
  by_stage Stopped work step at is g = ap (keeper_of to) g.1

  goes_seen : (step : Progress) → IsBookAfter old.stage old.work step old new → keeper_of to new ≡ record (after_call (keeper_of disk old)) { disk = to }
  goes_seen step g = by_stage old.stage old.work step refl refl g

  -- Done is returned only at the end
  abbrev IsMore : Progress → Type 0
  IsMore More = Unit {0}
  IsMore step = ⊥

  is_done : (stage : Stage) (work : Work) → IsBookAfter stage work Done old new → stage ≡ GateSync
  is_done Idle work g = absurd (subst IsMore (sym g.0) tt)
  is_done Close work g = absurd (subst IsMore (sym g.0) tt)
  is_done CloseSync work g = absurd (subst IsMore (sym g.0) tt)
  is_done Body Commit g = absurd (subst IsMore (sym g.0) tt)
  is_done Body Checkpoint g = absurd (subst IsMore (sym g.0) tt)
  is_done BodySync work g = absurd (subst IsMore (sym g.0) tt)
  is_done Gate Commit g = absurd (subst IsMore (sym g.0) tt)
  is_done Gate Checkpoint g = absurd (subst IsMore (sym g.0) tt)
  is_done TurnSync work g = absurd (subst IsMore (sym g.0) tt)
  is_done Retire work g = absurd (subst IsMore (sym g.0) tt)
  is_done GateSync work g = refl
  is_done Stopped work g = absurd (subst IsMore (sym g.0) tt)

  not_more : (work : Work) → IsBookAfter GateSync work More old new → ⊥
  not_more work g = absurd (subst IsMore g.0 tt)

  pub ends_seen : (result : Progress) → EndsStep result old new → Progresses result (keeper_of disk old) (keeper_of to new)
  ends_seen More e = (λ at. not_more old.work (subst (λ (s : Stage). IsBookAfter s old.work More old new) at e), goes_seen More e)
  ends_seen Done e = (is_done old.stage old.work e, goes_seen Done e)
  ends_seen Failed e = ap (keeper_of to) e

-- what is next
pub begun_seen : {D : Type 0} (disk : D) (b : Book) (work : Work) → standing_by (done_by work b) ≡ begun_by work (keeper_of disk b)
begun_seen disk b Commit = after_commit (account b) b.actions.items
begun_seen disk b Checkpoint = after_checkpoint (account b) b.run

pub next_seen : {D : Type 0} (disk : D) (b : Book) (stage : Stage) → standing_by (account_next_at stage b.work b) ≡ next_by stage (standing_by (account b)) (begun_standing (keeper_of disk b))
next_seen disk b Idle = refl
next_seen disk b Close = begun_seen disk b b.work
next_seen disk b CloseSync = begun_seen disk b b.work
next_seen disk b Body = begun_seen disk b b.work
next_seen disk b BodySync = begun_seen disk b b.work
next_seen disk b Gate = begun_seen disk b b.work
next_seen disk b TurnSync = begun_seen disk b b.work
next_seen disk b Retire = begun_seen disk b b.work
next_seen disk b GateSync = begun_seen disk b b.work
next_seen disk b Stopped = begun_seen disk b b.work

-- the room for frames
pub room_seen : (a : Account) (n : ℕ) → FitsFrame a n → HasRoom (standing_by a) n
room_seen a n fits = omega (arith, fits)

pub room_of : (a : Account) (n : ℕ) → HasRoom (standing_by a) n → FitsFrame a n
room_of a n room = omega (arith, room)

pub takes_seen : (a : Account) (actions : List Action) → TakesFrame a actions → HasRoomIn (standing_by a) actions × IsAlone a.version a.other_open
takes_seen a actions takes = ((room_seen a (length actions) takes.0, takes.1), takes.2)

pub takes_of : (a : Account) (actions : List Action) → HasRoomIn (standing_by a) actions × IsAlone a.version a.other_open → TakesFrame a actions
takes_of a actions takes = (room_of a (length actions) takes.0.0, takes.0.1, takes.1)
