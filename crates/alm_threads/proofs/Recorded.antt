-- A flusher's next moment in its run's history.
use Rattle.std.proofs.Common.{◌≡◌, ◌⊎◌, ⊎_elim, inl, inr, ◌↔◌, ◌≤◌, ◌+◌, ◌∙◌, ℕ, List, ◌++◌, length, refl, sym, ap, subst, arith, length-append, Bool}
use Rattle.std.specs.Prelude.{true, false, MatchBool}
use Rattle.std.proofs.lemmas.List.{append-nil, append_assoc}
use Rattle.std.proofs.Math.Logic.{∥∥₁_map}
use mathlib.Core.List.{IsPrefix}
use Rattle.alm_types.specs.Batches.{Judged}
use Rattle.alm_types.specs.declared.action.Action.{Action}
use Rattle.alm_types.specs.declared.entry.Entry.{Entry}
use Rattle.alm_disk.specs.Device.{DeviceState, AreBytes, IsImage}
use Rattle.alm_model.specs.Plant.{Condensed}
use Rattle.alm_model.specs.Rules.{KeepsRules}
use Rattle.alm_model.specs.Judging.{accepted_of, entries_in}
use Rattle.alm_model.specs.Step.{run}
use Rattle.alm_model.proofs.Legal.{accepted_append, entries_append}
use Rattle.alm_moments.specs.Moments.{IsSafeMoment, moment_of}
use Rattle.alm_moments.proofs.Courses.{image_of}
use Rattle.alm_rings.specs.Batches.{fetched_of}
use Rattle.alm_rings.specs.declared.fetch_ends.FetchEnds.{FetchEnds}
use Rattle.alm_rings.specs.declared.outbox.Outbox.{Outbox}
use Rattle.alm_rings.specs.declared.told.Told.{Ghosts}
use Rattle.alm_store.specs.Recovery.{IsSafe}
use Rattle.alm_store.proofs.Recovery.{safe_on}
use Rattle.alm_store.specs.declared.phase.Phase.{Phase}
use Rattle.alm_flush.specs.HeldBatch.{batches_of, published_entries, ready_of, stored_of, waiting_of, after_release}
use Rattle.alm_flush.specs.declared.held.Held.{Held}
use Rattle.alm_flush.specs.declared.held.Held.TheVariants.{Nothing, Fetched, Failed, Committed, Published}
use Rattle.alm_flush.specs.declared.advance.Advance as A
use Rattle.alm_flush.specs.declared.fetch.Fetch as F
use Rattle.alm_flush.specs.declared.publishes.Publishes as P
use Rattle.alm_flush.specs.declared.release.Release as R
use Rattle.alm_flush.specs.Flushes.{FetchAnswers, AdvanceAnswers, PublishAnswers, ReleaseAnswers, GivesBack}
use Rattle.alm_threads.proofs.Moments.{flusher_safe}

-- whatever a crash leaves is safe, of a run that is named after its store
pub named_safe : (recovers kept : List ℕ → Condensed → Type 0)
    → ((b : List ℕ) (p q : Condensed) → kept b p → kept b q → p ≡ q)
    → ((b : List ℕ) (p : Condensed) → AreBytes b → kept b p → KeepsRules p)
    → ∥ ((b : List ℕ) (p : Condensed) → (recovers b p ↔ kept b p)) ∥₁
    → (base : Condensed) (before fetched : List Judged) (h : Held) (floor : ℕ) (d : DeviceState) (stored next : Condensed)
    → fetched ≡ before ++ batches_of h → stored ≡ run base (accepted_of (entries_in before ++ stored_of h))
    → ∥ (next ≡ stored) ⊎ (next ≡ run stored (accepted_of (waiting_of h))) ∥₁
    → floor ≤ base.panel.count + length (accepted_of (entries_in before ++ stored_of h))
    → ((image : List ℕ) → IsImage d image → ∥ kept image stored ⊎ kept image next ∥₁)
    → ∥ IsSafeMoment recovers base (moment_of d (accepted_of (entries_in fetched)) floor) ∥₁
named_safe recovers kept one rules same base before fetched h floor d stored next held is either enough stands =
    ∥∥₁_map same (λ s image of.
    let i = image_of d (accepted_of (entries_in fetched)) floor image of in
    flusher_safe recovers
    (λ b p q x y. one b p q ((s b p).0 x) ((s b q).0 y))
    (λ b p bytes r. rules b p bytes ((s b p).0 r))
    base before fetched h floor stored next held is either enough image i.bytes
    (∥∥₁_map (stands image i) (⊎_elim (λ r. inl ((s image stored).1 r)) (λ r. inr ((s image next).1 r)))))

-- ---- what each step makes of what is stored

kept_le : (before : List Entry) (h h' : Held) → length (accepted_of (stored_of h)) ≤ length (accepted_of (stored_of h')) → length (accepted_of (before ++ stored_of h)) ≤ length (accepted_of (before ++ stored_of h'))
kept_le before h h' le =
    omega (
      arith,
      le,
      ap length (accepted_append before (stored_of h)),
      length-append (accepted_of before) (accepted_of (stored_of h)),
      ap length (accepted_append before (stored_of h')),
      length-append (accepted_of before) (accepted_of (stored_of h')),
    )

same_le : (h h' : Held) → h' ≡ h → length (accepted_of (stored_of h)) ≤ length (accepted_of (stored_of h'))
same_le h h' is = omega (arith, ap (λ x. length (accepted_of (stored_of x))) is)

fetch_le : (r : F.Fetch) (old new : Held) (from to : FetchEnds) → FetchAnswers r old new from to → length (accepted_of (stored_of old)) ≤ length (accepted_of (stored_of new))
fetch_le F.TheVariants.Got old new from to a = omega (arith, ap (λ x. length (accepted_of (stored_of x))) a.0)
fetch_le F.TheVariants.Empty old new from to a = omega (arith, ap (λ x. length (accepted_of (stored_of x))) a.0)
fetch_le F.TheVariants.Held old new from to a = same_le old new a.1

pub stored_by_fetch : (before : List Entry) (r : F.Fetch) (old new : Held) (from to : FetchEnds) → FetchAnswers r old new from to → length (accepted_of (before ++ stored_of old)) ≤ length (accepted_of (before ++ stored_of new))
stored_by_fetch before r old new from to a = kept_le before old new (fetch_le r old new from to a)

advance_le : (r : A.Advance) (p : Phase) (old new : Held) → AdvanceAnswers r p old new → length (accepted_of (stored_of old)) ≤ length (accepted_of (stored_of new))
advance_le r p (Fetched b) new a = omega arith
advance_le A.TheVariants.Committed p Nothing new a = absurd a
advance_le A.TheVariants.Committed p (Failed b) new a = absurd a
advance_le A.TheVariants.Committed p (Committed b) new a = absurd a
advance_le A.TheVariants.Committed p (Published b n) new a = absurd a
advance_le A.TheVariants.More p Nothing new a = same_le Nothing new a.0
advance_le A.TheVariants.More p (Failed b) new a = absurd a
advance_le A.TheVariants.More p (Committed b) new a = same_le (Committed b) new a.0
advance_le A.TheVariants.More p (Published b n) new a = same_le (Published b n) new a.0
advance_le A.TheVariants.Failed p Nothing new a = same_le Nothing new a.0
advance_le A.TheVariants.Failed p (Failed b) new a = same_le (Failed b) new a
advance_le A.TheVariants.Failed p (Committed b) new a = same_le (Committed b) new a.0
advance_le A.TheVariants.Failed p (Published b n) new a = same_le (Published b n) new a.0
advance_le A.TheVariants.Nothing p Nothing new a = same_le Nothing new a.0
advance_le A.TheVariants.Nothing p (Failed b) new a = absurd a
advance_le A.TheVariants.Nothing p (Committed b) new a = same_le (Committed b) new a.0
advance_le A.TheVariants.Nothing p (Published b n) new a = same_le (Published b n) new a.0

pub stored_by_advance : (before : List Entry) (r : A.Advance) (p : Phase) (old new : Held) → AdvanceAnswers r p old new → length (accepted_of (before ++ stored_of old)) ≤ length (accepted_of (before ++ stored_of new))
stored_by_advance before r p old new a = kept_le before old new (advance_le r p old new a)

-- a publish leaves what is stored
pub stored_by_publish : (r : P.Publishes) (old new : Held) → PublishAnswers r old new → stored_of new ≡ stored_of old
stored_by_publish P.TheVariants.Published Nothing new a = absurd a
stored_by_publish P.TheVariants.Published (Fetched b) new a = absurd a
stored_by_publish P.TheVariants.Published (Failed b) new a = absurd a
stored_by_publish P.TheVariants.Published (Committed b) new a = ap stored_of a
stored_by_publish P.TheVariants.Published (Published b n) new a = absurd a
stored_by_publish P.TheVariants.OutOfMemory Nothing new a = absurd a
stored_by_publish P.TheVariants.OutOfMemory (Fetched b) new a = absurd a
stored_by_publish P.TheVariants.OutOfMemory (Failed b) new a = absurd a
stored_by_publish P.TheVariants.OutOfMemory (Committed b) new a = ap stored_of a
stored_by_publish P.TheVariants.OutOfMemory (Published b n) new a = absurd a
stored_by_publish P.TheVariants.NotYet Nothing new a = ap stored_of a
stored_by_publish P.TheVariants.NotYet (Fetched b) new a = ap stored_of a
stored_by_publish P.TheVariants.NotYet (Failed b) new a = ap stored_of a
stored_by_publish P.TheVariants.NotYet (Committed b) new a = absurd a
stored_by_publish P.TheVariants.NotYet (Published b n) new a = ap stored_of a

pass_same : (h : Held) → stored_of (after_release h) ≡ stored_of h
pass_same Nothing = refl
pass_same (Fetched b) = refl
pass_same (Failed b) = refl
pass_same (Committed b) = refl
pass_same (Published b n) = refl

module _ {T : Type 0} {g : Ghosts T} where
  release_le : (r : R.Release) (old new : Held) (from to : List (Outbox T g)) (base stored : Condensed) (published : List Action) → ReleaseAnswers r old new from to base stored published
      → length (accepted_of (stored_of old)) ≤ length (accepted_of (stored_of new))
  release_le (R.TheVariants.Released slot) old new from to base stored published a =
      omega (arith, ap (λ l. length (accepted_of l)) (ap stored_of a.held ∙ pass_same old))
  release_le (R.TheVariants.Full slot) old new from to base stored published a = same_le old new a.held
  release_le R.TheVariants.Nothing old new from to base stored published a = same_le old new a.1

  pub stored_by_release : (before : List Entry) (r : R.Release) (old new : Held) (from to : List (Outbox T g)) (base stored : Condensed) (published : List Action) → ReleaseAnswers r old new from to base stored published
      → length (accepted_of (before ++ stored_of old)) ≤ length (accepted_of (before ++ stored_of new))
  stored_by_release before r old new from to base stored published a = kept_le before old new (release_le r old new from to base stored published a)

held_all : (h : Held) → length (accepted_of (stored_of h)) ≤ length (accepted_of (entries_in (batches_of h)))
held_all Nothing = omega arith
held_all (Fetched b) = omega arith
held_all (Failed b) = omega arith
held_all (Committed b) = omega (arith, ap (λ l. length (accepted_of l)) (append-nil b.entries))
held_all (Published b n) = omega (arith, ap (λ l. length (accepted_of l)) (append-nil b.entries))

batch_of_returned : (before : List Judged) (old : Held) → length (accepted_of (entries_in before ++ stored_of old)) ≤ length (accepted_of (entries_in (before ++ batches_of old)))
batch_of_returned before old =
    omega (
      arith,
      held_all old,
      ap length (accepted_append (entries_in before) (stored_of old)),
      length-append (accepted_of (entries_in before)) (accepted_of (stored_of old)),
      ap (λ l. length (accepted_of l)) (entries_append before (batches_of old)),
      ap length (accepted_append (entries_in before) (entries_in (batches_of old))),
      length-append (accepted_of (entries_in before)) (accepted_of (entries_in (batches_of old))),
    )

-- returning a batch takes nothing back
pub stored_by_giving : (result : Bool) (before before' : FetchEnds) (fetched fetched' : List Judged) (old new : Held) (given given' : List Judged) (rest : Type 0)
    → fetched ≡ fetched_of before ++ batches_of old → fetched' ≡ fetched_of before' ++ batches_of new → fetched' ≡ fetched
    → MatchBool result (GivesBack old new given given') ((new ≡ old) × rest × (before' ≡ before))
    → length (accepted_of (entries_in (fetched_of before) ++ stored_of old)) ≤ length (accepted_of (entries_in (fetched_of before') ++ stored_of new))
stored_by_giving true before before' fetched fetched' old new given given' rest held held' same a =
    let nothing = a.held in
    let all : entries_in (fetched_of before') ++ stored_of new ≡ entries_in (fetched_of before ++ batches_of old) =
    ap (λ h. entries_in (fetched_of before') ++ stored_of h) nothing
    ∙ (append-nil (entries_in (fetched_of before')) ∙ ap entries_in (sym (append-nil (fetched_of before')) ∙ (ap (λ h. fetched_of before' ++ batches_of h) (sym nothing) ∙ (sym held' ∙ (same ∙ held))))) in
    omega (arith, batch_of_returned (fetched_of before) old, ap (λ l. length (accepted_of l)) all)
stored_by_giving false before before' fetched fetched' old new given given' rest held held' same a =
    omega (arith, ap (λ h. length (accepted_of (entries_in (fetched_of before') ++ stored_of h))) a.0, ap (λ b. length (accepted_of (entries_in (fetched_of b) ++ stored_of old))) a.2)

both : (h : Held) → published_entries h ++ ready_of h ≡ stored_of h
both Nothing = refl
both (Fetched b) = refl
both (Failed b) = refl
both (Committed b) = refl
both (Published b n) = append-nil b.entries

-- what is published, with what is ready, is what is stored
pub shown_next : (before : List Entry) (h : Held) (published : List Action) → published ≡ accepted_of (before ++ published_entries h) → published ++ accepted_of (ready_of h) ≡ accepted_of (before ++ stored_of h)
shown_next before h published is =
    ap (λ l. l ++ accepted_of (ready_of h)) is
    ∙ (sym (accepted_append (before ++ published_entries h) (ready_of h)) ∙ ap accepted_of (append_assoc before (published_entries h) (ready_of h) ∙ ap (λ l. before ++ l) (both h)))

-- more may be accepted at a moment that is safe, whatever its device is called
pub safe_with_more : (recovers : List ℕ → Condensed → Type 0) (base : Condensed) (d e : DeviceState) (accepted more : List Action) (floor : ℕ) → e ≡ d → IsPrefix accepted more
    → IsSafeMoment recovers base (moment_of d accepted floor) → IsSafeMoment recovers base (moment_of e more floor)
safe_with_more recovers base d e accepted more floor same prefix safe =
    subst (λ (x : DeviceState). IsSafeMoment recovers base (moment_of x more floor)) (sym same)
    (λ image of. subst (λ (l : List Action). IsSafe recovers base l floor image) prefix.1 (safe_on recovers base accepted prefix.0 floor image (safe image of)))
