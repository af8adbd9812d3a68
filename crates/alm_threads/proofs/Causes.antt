-- Why a flusher stops.
use Rattle.std.proofs.Common.{◌≡◌, ◌≢◌, ◌≤◌, ◌+◌, ◌⊎◌, inl, inr, ⊎_elim, ◌∙◌, ◌++◌, ℕ, List, [], ◌∷◌, length, refl, sym, ap, subst, arith, Bool}
use Rattle.std.specs.Prelude.{true, false, Option, Some, None, IsSome}
use Rattle.std.proofs.lemmas.Bool.{cases_lt}
use Rattle.std.proofs.lemmas.List.{append-nil}
use mathlib.Core.List.{IsPrefix}
use Rattle.alm_types.specs.Batches.{Judged}
use Rattle.alm_types.specs.declared.action.Action.{Action}
use Rattle.alm_types.specs.declared.entry.Entry.{Entry}
use Rattle.alm_disk.specs.Failures.{HasFailed, last_count}
use Rattle.alm_model.specs.Judging.{IsLegal, accepted_of, entries_in, firsts_from, firsts_of}
use Rattle.alm_model.specs.Plant.{Condensed}
use Rattle.alm_model.specs.Rules.{AllAdmitted}
use Rattle.alm_model.specs.Step.{run}
use Rattle.alm_model.proofs.Legal.{accepted_append, admitted_front, entries_append, legal_admitted, next_batch}
use Rattle.alm_rings.specs.declared.fetch_ends.FetchEnds.{FetchEnds}
use Rattle.alm_rings.specs.declared.outbox.Outbox.{Outbox}
use Rattle.alm_rings.specs.declared.told.Told.{Ghosts}
use Rattle.alm_store.specs.declared.phase.Phase.{Phase}
use Rattle.alm_flush.specs.HeldBatch.{batches_of, stored_of, after_release}
use Rattle.alm_flush.specs.declared.held.Held.{Held}
use Rattle.alm_flush.specs.declared.held.Held.TheVariants.{Nothing, Fetched, Failed, Committed, Published}
use Rattle.alm_flush.specs.declared.advance.Advance as A
use Rattle.alm_flush.specs.declared.fetch.Fetch as F
use Rattle.alm_flush.specs.declared.publishes.Publishes as P
use Rattle.alm_flush.specs.declared.release.Release as R
use Rattle.alm_flush.specs.Flushes.{FetchAnswers, AdvanceAnswers, PublishAnswers, ReleaseAnswers, GivesBack, IsFree, IsGivenUp, IsNext}
use Rattle.std.specs.Prelude.{MatchBool}
use Rattle.alm_threads.specs.Histories.{AreInOrder}
use Rattle.alm_threads.specs.declared.stop_cause.StopCause.{StopCause}
use Rattle.alm_threads.specs.declared.stop_cause.StopCause.TheVariants as cause
use Rattle.alm_threads.specs.declared.storage.Storage.{Storage}
use Rattle.alm_threads.specs.declared.storage.Storage.TheVariants.{Whole, Stopped}

-- a failure after an earlier count is one after a still earlier count
pub failed_since : (first old new : ℕ) → first ≤ old → old ≤ new → HasFailed old new → HasFailed first new
failed_since first old new a b (inl less) = inl (omega (arith, a, less))
failed_since first old new a b (inr last) = ⊎_elim (λ less. inl (omega (arith, less, b, last))) (λ more. inr (omega (arith, more, a, last))) (cases_lt first last_count)

-- batches in order begin with batches in order
firsts_prefix : (n : ℕ) (xs ys : List Judged) → firsts_of (xs ++ ys) ≡ firsts_from n (xs ++ ys) → firsts_of xs ≡ firsts_from n xs
firsts_prefix n [] ys is = refl
firsts_prefix n (b ∷ xs) ys is =
    let first : b.first ≡ n = cc is in
    let rest : firsts_of (xs ++ ys) ≡ firsts_from (n + length (accepted_of b.entries)) (xs ++ ys) = cc is in
    rw (first, firsts_prefix (n + length (accepted_of b.entries)) xs ys rest) refl

pub in_order_prefix : (base : Condensed) (xs ys : List Judged) → IsPrefix xs ys → AreInOrder base ys → AreInOrder base xs
in_order_prefix base xs ys prefix all =
    let order = subst (λ (l : List Judged). AreInOrder base l) (sym prefix.1) all in
    record {
      firsts = firsts_prefix (base.panel.count + 1) xs prefix.0 order.firsts;
      admitted = admitted_front base (accepted_of (entries_in xs)) (accepted_of (entries_in prefix.0))
          (subst (AllAdmitted base) (ap accepted_of (entries_append xs prefix.0) ∙ accepted_append (entries_in xs) (entries_in prefix.0)) order.admitted);
    }

-- what is legal in batches that continue each other is in order
pub legal_in_order : (base : Condensed) (batches : List Judged) (open' : List Entry) → firsts_of batches ≡ firsts_from (base.panel.count + 1) batches → IsLegal base (entries_in batches ++ open') → AreInOrder base batches
legal_in_order base batches open' firsts legal = record {
  firsts = firsts;
  admitted = admitted_front base (accepted_of (entries_in batches)) (accepted_of open')
      (subst (AllAdmitted base) (accepted_append (entries_in batches) open') (legal_admitted base (entries_in batches ++ open') legal));
}

-- the batch that was fetched last is the next one
pub next_held : (h : Held) (b : Judged) (base stored : Condensed) (before fetched : List Judged) → h ≡ Fetched b → fetched ≡ before ++ batches_of h → stored ≡ run base (accepted_of (entries_in before ++ stored_of h)) → AreInOrder base fetched → IsNext h stored
next_held h b base stored before fetched is held at order =
    let lists : fetched ≡ before ++ (b ∷ []) = held ∙ ap (λ h. before ++ batches_of h) is in
    let stands : stored ≡ run base (accepted_of (entries_in before)) = at ∙ (ap (λ h. run base (accepted_of (entries_in before ++ stored_of h))) is ∙ ap (λ l. run base (accepted_of l)) (append-nil (entries_in before))) in
    subst (λ (h : Held). IsNext h stored) (sym is) (next_batch base stored before b []
    (subst (λ (l : List Judged). firsts_of l ≡ firsts_from (base.panel.count + 1) l) lists order.firsts)
    (subst (λ (l : List Judged). AllAdmitted base (accepted_of (entries_in l))) lists order.admitted) stands)

-- a held batch waits for its commit, is given up, or is free
abbrev pub Waits : Held → Type 0
Waits h = (b : Judged) × (h ≡ Fetched b)

pub held_cases : (h : Held) → Waits h ⊎ (IsGivenUp h ⊎ IsFree h)
held_cases Nothing = inr (inr tt)
held_cases (Fetched b) = inl (b, refl)
held_cases (Failed b) = inr (inl tt)
held_cases (Committed b) = inr (inr tt)
held_cases (Published b n) = inr (inr tt)

-- ---- a batch is given up by a step that fails

pub given_up_by_fetch : (r : F.Fetch) (old new : Held) (from to : FetchEnds) → FetchAnswers r old new from to → IsGivenUp new → IsGivenUp old
given_up_by_fetch F.TheVariants.Got old new from to a up = absurd (subst IsGivenUp a.1.held up)
given_up_by_fetch F.TheVariants.Empty old new from to a up = absurd (subst IsGivenUp a.1 up)
given_up_by_fetch F.TheVariants.Held old new from to a up = subst IsGivenUp a.1 up

pub given_up_by_advance : (r : A.Advance) (p : Phase) (old new : Held) → AdvanceAnswers r p old new → IsGivenUp new → ¬ (IsGivenUp old) → r ≡ A.TheVariants.Failed
given_up_by_advance A.TheVariants.Committed p (Fetched b) new a up not = absurd (subst IsGivenUp a.0 up)
given_up_by_advance A.TheVariants.More p (Fetched b) new a up not = absurd (subst IsGivenUp a.0 up)
given_up_by_advance A.TheVariants.Failed p old new a up not = refl
given_up_by_advance A.TheVariants.Nothing p (Fetched b) new a up not = absurd a
given_up_by_advance r p (Failed b) new a up not = absurd (not tt)
given_up_by_advance A.TheVariants.Committed p Nothing new a up not = absurd a
given_up_by_advance A.TheVariants.Committed p (Committed b) new a up not = absurd a
given_up_by_advance A.TheVariants.Committed p (Published b n) new a up not = absurd a
given_up_by_advance A.TheVariants.More p Nothing new a up not = absurd (subst IsGivenUp a.0 up)
given_up_by_advance A.TheVariants.More p (Committed b) new a up not = absurd (subst IsGivenUp a.0 up)
given_up_by_advance A.TheVariants.More p (Published b n) new a up not = absurd (subst IsGivenUp a.0 up)
given_up_by_advance A.TheVariants.Nothing p Nothing new a up not = absurd (subst IsGivenUp a.0 up)
given_up_by_advance A.TheVariants.Nothing p (Committed b) new a up not = absurd (subst IsGivenUp a.0 up)
given_up_by_advance A.TheVariants.Nothing p (Published b n) new a up not = absurd (subst IsGivenUp a.0 up)

pub given_up_by_publish : (r : P.Publishes) (old new : Held) → PublishAnswers r old new → IsGivenUp new → IsGivenUp old
given_up_by_publish P.TheVariants.Published Nothing new a up = absurd a
given_up_by_publish P.TheVariants.Published (Fetched b) new a up = absurd a
given_up_by_publish P.TheVariants.Published (Failed b) new a up = tt
given_up_by_publish P.TheVariants.Published (Committed b) new a up = absurd (subst IsGivenUp a up)
given_up_by_publish P.TheVariants.Published (Published b n) new a up = absurd a
given_up_by_publish P.TheVariants.OutOfMemory Nothing new a up = absurd a
given_up_by_publish P.TheVariants.OutOfMemory (Fetched b) new a up = absurd a
given_up_by_publish P.TheVariants.OutOfMemory (Failed b) new a up = tt
given_up_by_publish P.TheVariants.OutOfMemory (Committed b) new a up = absurd (subst IsGivenUp a up)
given_up_by_publish P.TheVariants.OutOfMemory (Published b n) new a up = absurd a
given_up_by_publish P.TheVariants.NotYet Nothing new a up = absurd (subst IsGivenUp a up)
given_up_by_publish P.TheVariants.NotYet (Fetched b) new a up = absurd (subst IsGivenUp a up)
given_up_by_publish P.TheVariants.NotYet (Failed b) new a up = tt
given_up_by_publish P.TheVariants.NotYet (Committed b) new a up = absurd a
given_up_by_publish P.TheVariants.NotYet (Published b n) new a up = absurd (subst IsGivenUp a up)

passed_up : (h : Held) → IsGivenUp (after_release h) → IsGivenUp h
passed_up Nothing up = up
passed_up (Fetched b) up = up
passed_up (Failed b) up = up
passed_up (Committed b) up = up
passed_up (Published b n) up = up

module _ {T : Type 0} {g : Ghosts T} where
  pub given_up_by_release : (r : R.Release) (old new : Held) (from to : List (Outbox T g)) (base stored : Condensed) (published : List Action) → ReleaseAnswers r old new from to base stored published → IsGivenUp new → IsGivenUp old
  given_up_by_release (R.TheVariants.Released slot) old new from to base stored published a up = passed_up old (subst IsGivenUp a.held up)
  given_up_by_release (R.TheVariants.Full slot) old new from to base stored published a up = subst IsGivenUp a.held up
  given_up_by_release R.TheVariants.Nothing old new from to base stored published a up = subst IsGivenUp a.1 up

pub given_up_by_giving : (result : Bool) (old new : Held) (given given' : List Judged) (rest same : Type 0) → MatchBool result (GivesBack old new given given') ((new ≡ old) × rest × same) → IsGivenUp new → IsGivenUp old
given_up_by_giving true old new given given' rest same a up = absurd (subst IsGivenUp a.held up)
given_up_by_giving false old new given given' rest same a up = subst IsGivenUp a.0 up

-- ---- whether a step failed

pub clash : {X : Type 0} (b : Bool) → b ≡ true → b ≡ false → X
clash b set unset = absurd (cc (set, unset))

pub failed_as : (failed : Bool) (r : A.Advance) → MatchBool failed (r ≡ A.TheVariants.Failed) (r ≢ A.TheVariants.Failed) → failed ≡ true → r ≡ A.TheVariants.Failed
failed_as true r is set = is
failed_as false r is set = absurd (cc set)

pub must_fail : (failed : Bool) (r : A.Advance) → MatchBool failed (r ≡ A.TheVariants.Failed) (r ≢ A.TheVariants.Failed) → ¬ (r ≢ A.TheVariants.Failed) → failed ≡ true
must_fail true r is not = refl
must_fail false r is not = absurd (not is)

-- what isn't missing is there
pub some_unless : {X : Type 0} (o : Option X) → ¬ (o ≡ None) → IsSome o
some_unless None not = absurd (not refl)
some_unless (Some x) not = refl

-- a whole run has no cause to stop, and another has that of its ends
pub failed_by : {R : Type 0} (storage : Storage) (why known : Option StopCause) → (storage ≡ Stopped → why ≡ known) → (storage ≡ Whole → why ≡ None) → (known ≡ Some cause.Store → R) → why ≡ Some cause.Store → R
failed_by Whole why known same none failed is = absurd (cc (sym (none refl) ∙ is))
failed_by Stopped why known same none failed is = failed (sym (same refl) ∙ is)
