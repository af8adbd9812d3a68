-- A run's moments, and what a flusher's device encodes at each.
use Rattle.std.proofs.Common.{◌≡◌, ◌≢◌, ◌⊎◌, ⊎_elim, ◌↔◌, ◌≤◌, ◌+◌, ◌∙◌, ℕ, List, [], ◌∷◌, ◌++◌, length, refl, sym, ap, subst, arith, length-append}
use Rattle.std.proofs.lemmas.List.{append_assoc, append-nil}
use Rattle.std.proofs.Props.{props}
use Rattle.std.proofs.Math.Logic.{∥∥₁_elim, ∥∥₁_map}
use mathlib.Core.List.{IsPrefix}
use Rattle.alm_types.specs.Batches.{Judged}
use Rattle.alm_types.specs.declared.action.Action.{Action}
use Rattle.alm_types.specs.declared.entry.Entry.{Entry}
use Rattle.alm_disk.specs.Device.{DeviceState, AreBytes}
use Rattle.alm_model.specs.Plant.{Condensed}
use Rattle.alm_model.specs.Rules.{KeepsRules}
use Rattle.alm_model.specs.Judging.{accepted_of, entries_in}
use Rattle.alm_model.specs.Step.{run}
use Rattle.alm_model.proofs.Legal.{accepted_append, entries_append}
use Rattle.alm_model.proofs.Runs.{run_append}
use Rattle.alm_moments.specs.declared.recorded_moment.RecordedMoment.{RecordedMoment}
use Rattle.alm_moments.specs.Moments.{AreMoments, FollowOn, IsSafeMoment, RecordedCourse, moment_of, now_of, opening_moment}
use Rattle.alm_rings.specs.Batches.{fetched_of}
use Rattle.alm_rings.specs.declared.fetch_ends.FetchEnds.{FetchEnds}
use Rattle.alm_flush.specs.HeldBatch.{batches_of, published_entries, stored_of, released_entries, waiting_of}
use Rattle.alm_flush.specs.declared.held.Held.{Held}
use Rattle.alm_flush.specs.declared.held.Held.TheVariants.{Nothing, Fetched, Failed, Committed, Published}
use Rattle.alm_flush.specs.declared.fetch.Fetch as F
use Rattle.alm_flush.specs.Flushes.{FetchAnswers}
use Rattle.alm_store.specs.Recovery.{IsPrefixPlant, IsSafe}
use Rattle.alm_store.proofs.Recovery.{prefix_is, prefix_prop, safe_by}
use Rattle.alm_threads.specs.Moments.{Endures, IsCourse}
use Rattle.alm_threads.proofs.Histories.{ahead_prefix, told_shown}

pub accepted_prefix : (xs ys : List Entry) → IsPrefix xs ys → IsPrefix (accepted_of xs) (accepted_of ys)
accepted_prefix xs ys p = (accepted_of p.0, sym (accepted_append xs p.0) ∙ ap accepted_of p.1)

pub entries_prefix : (xs ys : List Judged) → IsPrefix xs ys → IsPrefix (entries_in xs) (entries_in ys)
entries_prefix xs ys p = (entries_in p.0, sym (entries_append xs p.0) ∙ ap entries_in p.1)

prefix_le : (xs ys : List Action) → IsPrefix xs ys → length xs ≤ length ys
prefix_le xs ys p = omega (arith, length-append xs p.0, ap length p.1)

-- what was fetched only grows
pub fetched_more : (r : F.Fetch) (old new : Held) (from to : FetchEnds) → FetchAnswers r old new from to → IsPrefix (fetched_of from) (fetched_of to)
fetched_more F.TheVariants.Got old new from to a = (a.1.batch ∷ [], sym a.1.fetched)
fetched_more F.TheVariants.Empty old new from to a = ([], append-nil (fetched_of from) ∙ sym a.2)
fetched_more F.TheVariants.Held old new from to a = ([], append-nil (fetched_of from) ∙ sym (ap fetched_of a.2))

pub not_fetched : (r : F.Fetch) (old new : Held) (from to : FetchEnds) → FetchAnswers r old new from to → r ≢ F.TheVariants.Got → fetched_of to ≡ fetched_of from
not_fetched F.TheVariants.Got old new from to a not = absurd (not refl)
not_fetched F.TheVariants.Empty old new from to a not = a.2
not_fetched F.TheVariants.Held old new from to a not = ap fetched_of a.2

-- what is published is stored
held_le : (h : Held) → length (accepted_of (published_entries h)) ≤ length (accepted_of (stored_of h))
held_le Nothing = omega arith
held_le (Fetched b) = omega arith
held_le (Failed b) = omega arith
held_le (Committed b) = omega arith
held_le (Published b n) = omega arith

pub shown_stored : (before : List Entry) (h : Held) (published : List Action) → published ≡ accepted_of (before ++ published_entries h) → length published ≤ length (accepted_of (before ++ stored_of h))
shown_stored before h published shown =
    omega (
      arith,
      ap length shown,
      ap length (accepted_append before (published_entries h)),
      length-append (accepted_of before) (accepted_of (published_entries h)),
      ap length (accepted_append before (stored_of h)),
      length-append (accepted_of before) (accepted_of (stored_of h)),
      held_le h,
    )

-- what was released is published
pub released_shown : (before : List Judged) (h : Held) (published : List Action) → published ≡ accepted_of (entries_in before ++ published_entries h)
    → length (accepted_of (entries_in before ++ released_entries h)) ≤ length published
released_shown before h published shown =
    omega (arith, ap length shown, prefix_le _ _ (accepted_prefix (entries_in before ++ released_entries h) (entries_in before ++ published_entries h) (told_shown before h)))

-- the stored plant, and the one of the commit, are those of prefixes of all that was fetched
prefixes : (base : Condensed) (before fetched : List Judged) (h : Held) (floor : ℕ) (stored : Condensed) → fetched ≡ before ++ batches_of h → stored ≡ run base (accepted_of (entries_in before ++ stored_of h))
    → floor ≤ base.panel.count + length (accepted_of (entries_in before ++ stored_of h))
    → IsPrefixPlant base (accepted_of (entries_in fetched)) floor stored × IsPrefixPlant base (accepted_of (entries_in fetched)) floor (run stored (accepted_of (waiting_of h)))
prefixes base before fetched h floor stored held is enough =
    let kept = entries_in before ++ stored_of h in
    let list = accepted_of kept in
    let waiting = accepted_of (waiting_of h) in
    let all = accepted_of (entries_in fetched) in
    let prefix = ahead_prefix before h fetched held in
    let rest = accepted_of prefix.0 in
    let split : (list ++ waiting) ++ rest ≡ all = ap (λ l. l ++ rest) (sym (accepted_append kept (waiting_of h))) ∙ (sym (accepted_append (kept ++ waiting_of h) prefix.0) ∙ ap accepted_of prefix.1) in
    let ahead : run stored waiting ≡ run base (list ++ waiting) = ap (λ (q : Condensed). run q waiting) is ∙ sym (run_append base list waiting) in (
      subst (IsPrefixPlant base all floor) (sym is) (prefix_is base all floor list (waiting ++ rest) (sym (append_assoc list waiting rest) ∙ split) enough),
      subst (IsPrefixPlant base all floor) (sym ahead) (prefix_is base all floor (list ++ waiting) rest split (omega (arith, enough, length-append list waiting))),
    )

-- whatever a crash leaves of a flusher's device is safe
pub flusher_safe : (recovers : List ℕ → Condensed → Type 0)
    → ((b : List ℕ) (p q : Condensed) → recovers b p → recovers b q → p ≡ q)
    → ((b : List ℕ) (p : Condensed) → AreBytes b → recovers b p → KeepsRules p)
    → (base : Condensed) (before fetched : List Judged) (h : Held) (floor : ℕ) (stored next : Condensed)
    → fetched ≡ before ++ batches_of h → stored ≡ run base (accepted_of (entries_in before ++ stored_of h))
    → ∥ (next ≡ stored) ⊎ (next ≡ run stored (accepted_of (waiting_of h))) ∥₁
    → floor ≤ base.panel.count + length (accepted_of (entries_in before ++ stored_of h))
    → (image : List ℕ) → AreBytes image → ∥ recovers image stored ⊎ recovers image next ∥₁
    → IsSafe recovers base (accepted_of (entries_in fetched)) floor image
flusher_safe recovers one rules base before fetched h floor stored next held is either enough image bytes stands =
    let all = accepted_of (entries_in fetched) in
    let both = prefixes base before fetched h floor stored held is enough in
    let new : IsPrefixPlant base all floor next = ∥∥₁_elim either (prefix_prop base all floor next) (⊎_elim
    (λ (same : next ≡ stored). subst (IsPrefixPlant base all floor) (sym same) both.0)
    (λ (more : next ≡ run stored (accepted_of (waiting_of h))). subst (IsPrefixPlant base all floor) (sym more) both.1)) in
    safe_by recovers base all floor stored next image bytes both.0 new stands one rules

-- ---- the moments of a run, of the store that it is named after

abbrev pub Same : (List ℕ → Condensed → Type 0) → (List ℕ → Condensed → Type 0) → Type 0
Same recovers kept = (b : List ℕ) (p : Condensed) → (recovers b p ↔ kept b p)

safe_as : (recovers kept : List ℕ → Condensed → Type 0) → Same recovers kept → (base : Condensed) (m : RecordedMoment) → IsSafeMoment recovers base m → IsSafeMoment kept base m
safe_as recovers kept same base m safe image of =
    let s = safe image of in
    record {
      some = ∥∥₁_map s.some (λ p. (p.0, (same image p.0).0 p.1));
      each = λ q is. s.each q ((same image q).1 is);
      lists = λ q is. s.lists q ((same image q).1 is);
    }

follow_as : (safe other : RecordedMoment → Type 0) → ((m : RecordedMoment) → safe m → other m) → (m : RecordedMoment) (moments : List RecordedMoment) → FollowOn safe m moments → FollowOn other m moments
follow_as safe other weaker m [] leads = leads
follow_as safe other weaker m (n ∷ moments) leads = (leads.0, weaker n leads.1, follow_as safe other weaker n moments leads.2)

course_as : (recovers kept : List ℕ → Condensed → Type 0) → Same recovers kept → (base : Condensed) (from to : DeviceState) (moments : List RecordedMoment) (accepted : List Action) (floor reported : ℕ) → reported ≤ floor
    → now_of base from moments ≡ moment_of to accepted floor → RecordedCourse (IsSafeMoment recovers base) (opening_moment base from) moments → IsCourse kept base from to moments accepted reported
course_as recovers kept same base from to moments accepted floor reported le last c = record {
  course = record {
    opened = safe_as recovers kept same base (opening_moment base from) c.opened;
    leads = follow_as (IsSafeMoment recovers base) (IsSafeMoment kept base) (safe_as recovers kept same base) (opening_moment base from) moments c.leads;
  };
  device = (ap (λ (m : RecordedMoment). m.bytes) last, ap (λ (m : RecordedMoment). m.pending) last, ap (λ (m : RecordedMoment). m.faulted) last);
  within = ([], append-nil (now_of base from moments).accepted ∙ ap (λ (m : RecordedMoment). m.accepted) last);
  reaches = omega (arith, le, ap (λ (m : RecordedMoment). m.floor) last);
}

-- the moments of a history lead to the device
pub endures_of : (premise honest : Type 0) (recovers kept : List ℕ → Condensed → Type 0) (base : Condensed) (from to : DeviceState) (history : List RecordedMoment) (accepted : List Action) (floor reported : ℕ)
    → ∥ (premise ↔ honest) ∥₁ → ∥ Same recovers kept ∥₁ → reported ≤ floor → AreMoments premise recovers base from history → now_of base from history ≡ moment_of to accepted floor
    → Endures honest kept base from to history accepted reported
endures_of premise honest recovers kept base from to history accepted floor reported named same le are last = λ h.
    ∥∥₁_elim named (hlevel props) (λ p. ∥∥₁_elim same (hlevel props) (λ s. ∥∥₁_map (are (p.1 h)) (λ c. course_as recovers kept s base from to history accepted floor reported le last c)))

widen : (recovers : List ℕ → Condensed → Type 0) (base : Condensed) (from to : DeviceState) (moments : List RecordedMoment) (accepted all : List Action) (reported : ℕ) → IsPrefix accepted all
    → IsCourse recovers base from to moments accepted reported → IsCourse recovers base from to moments all reported
widen recovers base from to moments accepted all reported prefix c = record {
  course = c.course;
  device = c.device;
  within = (c.within.0 ++ prefix.0, sym (append_assoc (now_of base from moments).accepted c.within.0 prefix.0) ∙ (ap (λ l. l ++ prefix.0) c.within.1 ∙ prefix.1));
  reaches = c.reaches;
}

-- .. among more accepted actions, to the last device and by a history with other names
pub endures_on : (recovers : List ℕ → Condensed → Type 0) (base : Condensed) (honest : Type 0) (from to to' : DeviceState) (history history' : List RecordedMoment) (accepted all : List Action) (reported : ℕ)
    → to ≡ to' → history ≡ history' → IsPrefix accepted all → Endures honest recovers base from to history accepted reported → Endures honest recovers base from to' history' all reported
endures_on recovers base honest from to to' history history' accepted all reported same taken prefix endures = λ h.
    ∥∥₁_map (endures h) (λ c. subst (λ (d : DeviceState). IsCourse recovers base from d history' all reported) same
    (subst (λ (l : List RecordedMoment). IsCourse recovers base from to l all reported) taken (widen recovers base from to history accepted all reported prefix c)))
