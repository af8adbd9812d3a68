-- In the worlds of a run the published list is a prefix of the stored one, and that of the accepted one; what comes between is in
-- the batches.
use Rattle.std.proofs.Common.{◌≡◌, ◌+◌, ◌-◌, List, [], ◌∷◌, ◌++◌, refl, sym, ◌∙◌, ap, append_assoc, slice_get, take}
use Rattle.std.proofs.lemmas.List.{append-nil}
use Rattle.alm_types.specs.declared.action.Action.{Action}
use Rattle.alm_types.specs.declared.entry.Entry.{Entry}
use Rattle.alm_model.specs.Plant.{Condensed}
use Rattle.alm_model.specs.Judging.{accepted_of}
use Rattle.alm_model.proofs.Legal.{accepted_append}
use Rattle.alm_pipeline.specs.declared.step.Step.{Step}
use Rattle.alm_pipeline.specs.declared.step.Step.TheVariants.{Send, Take, Seal, Fetch, Call, Publish, Release, GiveBack, Receive, Look, Crash, Reopen}
use Rattle.alm_pipeline.specs.declared.step_event.StepEvent.{StepEvent}
use Rattle.alm_pipeline.specs.declared.step_event.StepEvent.TheVariants.{Sent, Took, Sealed, Fetched, Committed, Failed, Published, Released, GaveBack, Received, Looked, Crashed, Opened}
use Rattle.alm_pipeline.specs.World.{World, BatchStage, Nothing, Held, Stored, Shown, Answers, IsReleased, after_step, entry_for, fetches, new_world, next_notes, after_publish, closed_world, stores, tells, told_more, with_entry}

abbrev pub waiting_at : BatchStage → List Entry
waiting_at (Held entries) = entries
waiting_at stage = []

abbrev pub ready_at : BatchStage → List Entry
ready_at (Stored entries) = entries
ready_at stage = []

abbrev pub shown_at : BatchStage → List Entry
shown_at (Shown entries n) = entries
shown_at stage = []

abbrev pub flat_of : List (List Entry) → List Entry
flat_of [] = []
flat_of (l ∷ ls) = l ++ flat_of ls

flat_snoc : (ls : List (List Entry)) (l : List Entry) → flat_of (ls ++ l ∷ []) ≡ flat_of ls ++ l
flat_snoc [] l = append-nil l
flat_snoc (k ∷ ls) l = ap (λ x. k ++ x) (flat_snoc ls l) ∙ sym (append_assoc k (flat_of ls) l)

pub record InOrder (w : World) : Type 0 where
  pub all : w.accepted ≡ w.stored ++ (accepted_of (waiting_at w.stage) ++ (accepted_of (flat_of w.sealed) ++ accepted_of w.taking))
  pub ready : w.stored ≡ w.published ++ accepted_of (ready_at w.stage)
  pub before : List Action
  pub shown : w.published ≡ before ++ accepted_of (shown_at w.stage)

pub shut_order : (w : World) → InOrder (closed_world w)
shut_order w = record { all = sym (append-nil w.accepted); ready = sym (append-nil w.accepted); before = w.accepted; shown = sym (append-nil w.accepted) }

pub fresh_order : (base : Condensed) (kept : List Action) (floor : _) → InOrder (new_world base kept floor)
fresh_order base kept floor = record { all = sym (append-nil kept); ready = sym (append-nil kept); before = kept; shown = sym (append-nil kept) }

regroup : (s w f t e : List Action) → (s ++ (w ++ (f ++ t))) ++ e ≡ s ++ (w ++ (f ++ (t ++ e)))
regroup s w f t e = simp append_assoc

fetched_order : (w : World) (sealed : List (List Entry)) → w.sealed ≡ sealed → w.stage ≡ Nothing → InOrder w → InOrder (fetches w sealed)
fetched_order w [] is idle i = i
fetched_order w (entries ∷ sealed) is idle i = record {
  all = i.all ∙ ((λ j. w.stored ++ (accepted_of (waiting_at (idle j)) ++ (accepted_of (flat_of (is j)) ++ accepted_of w.taking)))
      ∙ ap (λ l. w.stored ++ l) (ap (λ l. l ++ accepted_of w.taking) (accepted_append entries (flat_of sealed)) ∙ append_assoc (accepted_of entries) (accepted_of (flat_of sealed)) (accepted_of w.taking)));
  ready = i.ready ∙ ap (λ s. w.published ++ accepted_of (ready_at s)) idle;
  before = w.published;
  shown = sym (append-nil w.published);
}

stored_order : (w : World) (stage : BatchStage) → w.stage ≡ stage → InOrder w → InOrder (stores w stage)
stored_order w Nothing is i = i
stored_order w (Stored entries) is i = i
stored_order w (Shown entries n) is i = i
stored_order w (Held entries) is i = record {
  all = i.all ∙ (ap (λ s. w.stored ++ (accepted_of (waiting_at s) ++ (accepted_of (flat_of w.sealed) ++ accepted_of w.taking))) is
      ∙ sym (append_assoc w.stored (accepted_of entries) (accepted_of (flat_of w.sealed) ++ accepted_of w.taking)));
  ready = ap (λ l. l ++ accepted_of entries) (i.ready ∙ (ap (λ s. w.published ++ accepted_of (ready_at s)) is ∙ append-nil w.published));
  before = w.published;
  shown = sym (append-nil w.published);
}

shown_order : (w : World) (stage : BatchStage) → w.stage ≡ stage → InOrder w → InOrder (after_publish w stage)
shown_order w Nothing is i = i
shown_order w (Held entries) is i = i
shown_order w (Shown entries n) is i = i
shown_order w (Stored entries) is i = record {
  all = i.all ∙ ap (λ s. w.stored ++ (accepted_of (waiting_at s) ++ (accepted_of (flat_of w.sealed) ++ accepted_of w.taking))) is;
  ready = i.ready ∙ (ap (λ s. w.published ++ accepted_of (ready_at s)) is ∙ sym (append-nil (w.published ++ accepted_of entries)));
  before = w.published;
  shown = refl;
}

waiting_more : (s : BatchStage) → waiting_at s ≡ waiting_at (told_more s)
waiting_more Nothing = refl
waiting_more (Held entries) = refl
waiting_more (Stored entries) = refl
waiting_more (Shown entries n) = refl

ready_more : (s : BatchStage) → ready_at s ≡ ready_at (told_more s)
ready_more Nothing = refl
ready_more (Held entries) = refl
ready_more (Stored entries) = refl
ready_more (Shown entries n) = refl

shown_more : (s : BatchStage) → shown_at s ≡ shown_at (told_more s)
shown_more Nothing = refl
shown_more (Held entries) = refl
shown_more (Stored entries) = refl
shown_more (Shown entries n) = refl

spent_waits : (s : BatchStage) → IsReleased s → waiting_at s ≡ []
spent_waits Nothing spent = refl
spent_waits (Held entries) spent = absurd spent
spent_waits (Stored entries) spent = refl
spent_waits (Shown entries n) spent = refl

spent_ready : (s : BatchStage) → IsReleased s → ready_at s ≡ []
spent_ready Nothing spent = refl
spent_ready (Held entries) spent = refl
spent_ready (Stored entries) spent = absurd spent
spent_ready (Shown entries n) spent = refl

taken_order : (w : World) (slot : _) (es : List Entry) → InOrder w → InOrder (with_entry w slot es)
taken_order w slot es i = record {
  all = ap (λ l. l ++ accepted_of es) i.all
      ∙ (regroup w.stored (accepted_of (waiting_at w.stage)) (accepted_of (flat_of w.sealed)) (accepted_of w.taking) (accepted_of es)
      ∙ ap (λ x. w.stored ++ (accepted_of (waiting_at w.stage) ++ (accepted_of (flat_of w.sealed) ++ x))) (sym (accepted_append w.taking es)));
  ready = i.ready;
  before = i.before;
  shown = i.shown;
}

sealed_order : (w : World) → InOrder w → InOrder (record w { sealed = w.sealed ++ w.taking ∷ []; taking = []; free = w.free - 1 })
sealed_order w i = record {
  all = i.all ∙ ap (λ x. w.stored ++ (accepted_of (waiting_at w.stage) ++ x))
      (sym (accepted_append (flat_of w.sealed) w.taking) ∙ (ap accepted_of (sym (flat_snoc w.sealed w.taking)) ∙ sym (append-nil (accepted_of (flat_of (w.sealed ++ w.taking ∷ []))))));
  ready = i.ready;
  before = i.before;
  shown = i.shown;
}

told_order : (w : World) (slot : _) (notes : _) → InOrder w → InOrder (tells w slot notes)
told_order w slot notes i = record {
  all = i.all ∙ ap (λ x. w.stored ++ (accepted_of x ++ (accepted_of (flat_of w.sealed) ++ accepted_of w.taking))) (waiting_more w.stage);
  ready = i.ready ∙ ap (λ x. w.published ++ accepted_of x) (ready_more w.stage);
  before = i.before;
  shown = i.shown ∙ ap (λ x. i.before ++ accepted_of x) (shown_more w.stage);
}

given_order : (w : World) → IsReleased w.stage → InOrder w → InOrder (record w { stage = Nothing; free = w.free + 1 })
given_order w spent i = record {
  all = i.all ∙ ap (λ x. w.stored ++ (accepted_of x ++ (accepted_of (flat_of w.sealed) ++ accepted_of w.taking))) (spent_waits w.stage spent);
  ready = i.ready ∙ ap (λ x. w.published ++ accepted_of x) (spent_ready w.stage spent);
  before = w.published;
  shown = sym (append-nil w.published);
}

pub in_order : (w : World) (step : Step) (event : StepEvent) → Answers w step event → InOrder w → InOrder (after_step w step event)
in_order w (Send slot a) (Sent serial) answers i = record { all = i.all; ready = i.ready; before = i.before; shown = i.shown }
in_order w (Take slot) (Took v) answers i = taken_order w slot (entry_for w slot (slice_get (w.sent slot) (w.taken slot)) v) i
in_order w Seal Sealed answers i = sealed_order w i
in_order w Fetch Fetched answers i = fetched_order w w.sealed refl answers.1 i
in_order w Call Committed answers i = stored_order w w.stage refl i
in_order w Call Failed answers i = shut_order w
in_order w Publish Published answers i = shown_order w w.stage refl i
in_order w Release (Released slot) answers i = told_order w slot (next_notes w w.stage) i
in_order w GiveBack GaveBack answers i = given_order w answers.1 i
in_order w (Receive slot) (Received serial verdict number) answers i = record { all = i.all; ready = i.ready; before = i.before; shown = i.shown }
in_order w (Look slot query) (Looked count) answers i = record { all = i.all; ready = i.ready; before = i.before; shown = i.shown }
in_order w (Crash bytes) Crashed answers i = shut_order w
in_order w Reopen (Opened n) answers i = fresh_order w.base (take (n - w.base.panel.count) w.accepted) w.floor
in_order w step event answers i = i
