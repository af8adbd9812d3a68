-- Consoles that are written one after the other, and rings in which nothing is left.
use Rattle.std.proofs.Common.{◌≡◌, ◌≢◌, ◌<◌, ◌⊎◌, inl, inr, ◌∙◌, ◌++◌, ℕ, zero, suc, List, [], ◌∷◌, length, Option, Some, slice_get, refl, sym, ap, subst, rules, arith}
use Rattle.std.specs.Prelude.{slice_set, IsSome}
use Rattle.std.proofs.lemmas.List.{append-nil}
use Rattle.std.proofs.lemmas.Option.{none-some, same_Some, slice_get_within}
use Rattle.alm_types.specs.Batches.{Judged as Batch}
use Rattle.alm_types.specs.declared.want.Want.{Want}
use Rattle.alm_types.specs.declared.entry.Entry.{Entry}
use Rattle.alm_flush.specs.HeldBatch.{batches_of, released_entries}
use Rattle.alm_flush.specs.Replies.{replies_in, replies_to}
use Rattle.alm_flush.specs.declared.held.Held.{Held}
use Rattle.alm_flush.specs.declared.held.Held.TheVariants.{Nothing}
use Rattle.alm_model.specs.Judging.{entries_in, of_slot, wants_of}
use Rattle.alm_rings.specs.declared.console.Console.{Console}
use Rattle.alm_rings.specs.declared.inbox.Inbox.{Inbox}
use Rattle.alm_rings.specs.declared.outbox.Outbox.{Outbox}
use Rattle.alm_rings.specs.declared.receipt.Receipt.{Receipt}
use Rattle.alm_rings.specs.declared.slot_report.SlotReport.{SlotReport}
use Rattle.alm_rings.specs.declared.told.Told.{Ghosts}
use Rattle.alm_rings.specs.Ends.{SameConsole, sent_of, received_of}
use Rattle.alm_rings.specs.Placed.{SameInboxAt, inbox_at, taken_by, released_by}
use Rattle.alm_seq.specs.Sequences.{SameInboxes}
use Rattle.alm_threads.specs.Answered.{AllAnswered, IsSlotAnswered}
use Rattle.alm_threads.specs.Finished.{HaveInboxes, IsAllAnswered, IsTaken}
use Rattle.alm_threads.specs.Runs.{AreClosed, IsClosed}
use Rattle.alm_threads.specs.Same.{AllIdle, AllSame}
use Rattle.alm_threads.proofs.Serves.{some_still}
use Rattle.alm_threads.proofs.Tied.{all_same_at, pair_on, received_count, replies_count, wants_count, was_in}

-- what is at a place after a write
pub get_set : {E : Type 0} (es : List E) (k j : ℕ) (new x : E) → slice_get (slice_set es k new) j ≡ Some x → ((j ≡ k) × (x ≡ new)) ⊎ ((j ≢ k) × (slice_get es j ≡ Some x))
get_set [] k j new x is = absurd (none-some x is)
get_set (y ∷ es) zero zero new x is = inl (refl, sym (same_Some new x is))
get_set (y ∷ es) zero (suc j) new x is = inr ((λ same. absurd (cc same)), is)
get_set (y ∷ es) (suc k) zero new x is = inr ((λ same. absurd (cc same)), is)
get_set (y ∷ es) (suc k) (suc j) new x is = elim (get_set es k j new x is) [ inl h ↦ inl (ap suc h.0, h.1) | inr h ↦ inr ((λ same. h.0 (cc same)), h.1) ]

-- a list has an element at each place below its length
pub has_at : {E : Type 0} (es : List E) (k : ℕ) → k < length es → (e : E) × (slice_get es k ≡ Some e)
has_at [] k less = absurd (omega (arith, less))
has_at (e ∷ es) zero less = (e, refl)
has_at (e ∷ es) (suc k) less = has_at es k (omega (arith, less))

module _ {T : Type 0} {g : Ghosts T} where
  same_console : (c : Console T g) → SameConsole c c
  same_console c = search rules

  same_on : (c d e : Console T g) → SameConsole c d → SameConsole d e → SameConsole c e
  same_on c d e p q = search rules

  pub all_same_self : (cs : List (Console T g)) → AllSame cs cs
  all_same_self [] = tt
  all_same_self (c ∷ cs) = (same_console c, all_same_self cs)

  pub all_same_on : (cs ds es : List (Console T g)) → AllSame cs ds → AllSame ds es → AllSame cs es
  all_same_on [] [] es p q = q
  all_same_on [] (y ∷ ds) es p q = absurd p
  all_same_on (x ∷ cs) [] es p q = absurd p
  all_same_on (x ∷ cs) (y ∷ ds) [] p q = absurd q
  all_same_on (x ∷ cs) (y ∷ ds) (z ∷ es) p q = (same_on x y z p.0 q.0, all_same_on cs ds es p.1 q.1)

  pub all_same_length : (cs ds : List (Console T g)) → AllSame cs ds → length cs ≡ length ds
  all_same_length [] [] all = refl
  all_same_length [] (y ∷ ds) all = absurd all
  all_same_length (x ∷ cs) [] all = absurd all
  all_same_length (x ∷ cs) (y ∷ ds) all = ap suc (all_same_length cs ds all.1)

  -- another console at a place, which is the same end
  pub all_same_set : (cs ds : List (Console T g)) (k : ℕ) (c d : Console T g) → AllSame cs ds → slice_get ds k ≡ Some c → SameConsole c d → AllSame cs (slice_set ds k d)
  all_same_set cs [] k c d all at same = absurd (none-some c at)
  all_same_set [] (y ∷ ds) k c d all at same = absurd all
  all_same_set (x ∷ cs) (y ∷ ds) zero c d all at same = (same_on x y d all.0 (subst (λ z. SameConsole z d) (sym (same_Some y c at)) same), all.1)
  all_same_set (x ∷ cs) (y ∷ ds) (suc k) c d all at same = (all.0, all_same_set cs ds k c d all.1 at same)

  pub all_idle_self : (cs : List (Console T g)) → AllIdle cs cs
  all_idle_self [] = tt
  all_idle_self (c ∷ cs) = (refl, refl, all_idle_self cs)

  pub all_idle_on : (cs ds es : List (Console T g)) → AllIdle cs ds → AllIdle ds es → AllIdle cs es
  all_idle_on [] [] es p q = q
  all_idle_on [] (y ∷ ds) es p q = absurd p
  all_idle_on (x ∷ cs) [] es p q = absurd p
  all_idle_on (x ∷ cs) (y ∷ ds) [] p q = absurd q
  all_idle_on (x ∷ cs) (y ∷ ds) (z ∷ es) p q = (q.0 ∙ p.0, q.1 ∙ p.1, all_idle_on cs ds es p.2 q.2)

  pub all_idle_set : (cs ds : List (Console T g)) (k : ℕ) (c d : Console T g) → AllIdle cs ds → slice_get ds k ≡ Some c → sent_of d ≡ sent_of c → received_of d ≡ received_of c → AllIdle cs (slice_set ds k d)
  all_idle_set cs [] k c d all at sent received = absurd (none-some c at)
  all_idle_set [] (y ∷ ds) k c d all at sent received = absurd all
  all_idle_set (x ∷ cs) (y ∷ ds) zero c d all at sent received =
      let same = sym (same_Some y c at) in
      (sent ∙ (ap (λ (z : Console T g). sent_of z) same ∙ all.0), received ∙ (ap (λ (z : Console T g). received_of z) same ∙ all.1), all.2)
  all_idle_set (x ∷ cs) (y ∷ ds) (suc k) c d all at sent received = (all.0, all.1, all_idle_set cs ds k c d all.2 at sent received)

  -- consoles that are the same ends have their inboxes
  pub have_still : (cs ds : List (Console T g)) (is js : List Inbox) → AllSame cs ds → SameInboxes is js → HaveInboxes cs is → HaveInboxes ds js
  have_still cs ds is js all ins have = record {
    has_inbox = λ k d at. (let c = all_same_at cs ds all k d at in subst (λ s. IsSome (inbox_at s js)) (sym c.1.1.2) (some_still (inbox_at c.0.slot is) (inbox_at c.0.slot js) (ins c.0.slot) (have.has_inbox k c.0 c.1.0)));
    requests = λ k d j at its. (let c = all_same_at cs ds all k d at in
        let i = was_in (inbox_at c.0.slot is) j (subst (λ o. SameInboxAt (inbox_at c.0.slot is) o) (ap (λ s. inbox_at s js) (sym c.1.1.2) ∙ its) (ins c.0.slot)) in
        pair_on c.0 d i.0 j c.1.1 i.1.1 (have.requests k c.0 i.0 c.1.0 i.1.0));
  }

  -- all that was fetched was released, and it is all that was taken
  pub answered_all : (s : ℕ) (before fetched sealed : List Batch) (open' : List Entry) (h : Held) (released : List (Receipt T g)) (taken : List Want)
      → h ≡ Nothing → fetched ≡ before ++ batches_of h → fetched ≡ sealed → open' ≡ []
      → replies_in released ≡ replies_to (of_slot s (entries_in before ++ released_entries h)) → wants_of (of_slot s (entries_in sealed ++ open')) ≡ taken → length released ≡ length taken
  answered_all s before fetched sealed open' h released taken none held all empty replies wants =
      let same : before ≡ sealed = sym (append-nil before) ∙ (ap (λ h. before ++ batches_of h) (sym none) ∙ (sym held ∙ all)) in
      let es : entries_in before ++ released_entries h ≡ entries_in sealed ++ open' =
      ap (λ h. entries_in before ++ released_entries h) none ∙ (ap (λ b. entries_in b ++ []) same ∙ ap (λ l. entries_in sealed ++ l) (sym empty)) in
      sym (received_count released) ∙ (ap length replies ∙ (replies_count (of_slot s (entries_in before ++ released_entries h)) ∙ (ap (λ l. length (of_slot s l)) es ∙ (sym (wants_count (of_slot s (entries_in sealed ++ open'))) ∙ ap length wants))))

  slot_answered : (c : Console T g) (is : List Inbox) (os : List (Outbox T g)) (r : SlotReport) (received : ℕ) → IsTaken c is → length (released_by c.slot os) ≡ length (taken_by c.slot is)
      → IsClosed (length (sent_of c)) (length (taken_by c.slot is)) (length (released_by c.slot os)) received r → IsSlotAnswered (Some r)
  slot_answered c is os r received taken answered closed = (
    omega (arith, closed.sent_is, closed.taken_is, ap length taken.0),
    omega (arith, closed.taken_is, closed.released_is, answered, taken.1, ap length taken.0),
  )

  -- so the reports say that all was answered
  pub answered_by : (cs : List (Console T g)) (is : List Inbox) (os : List (Outbox T g)) (reports : List (Option SlotReport)) → AreClosed cs is os reports → IsAllAnswered cs is os → AllAnswered reports
  answered_by cs is os reports closed done k report at =
      let c = has_at cs k (omega (arith, slice_get_within reports k report at, closed.0)) in
      let h = (closed.1 k c.0 c.1).report in
      subst IsSlotAnswered (same_Some (Some h.report) report (sym h.at ∙ at)) (slot_answered c.0 is os h.report _ (done.taken k c.0 c.1) (done.answered c.0.slot) h.is)
