-- Laws of the held batch, and of the entries that a flusher has passed.
use Rattle.std.proofs.Common.{◌≡◌, ◌+◌, ◌≤◌, ◌<◌, ℕ, zero, suc, List, [], ◌∷◌, ◌++◌, length, take, drop, slice_get, Option, Some, None, refl, sym, ◌∙◌, ap, arith, append_assoc, length-append, add-one}
use Rattle.std.proofs.lemmas.List.{append-nil, take-append-drop}
use Rattle.std.proofs.lemmas.Option.{same_Some}
use Rattle.std.proofs.Common.{◌⊎◌, inl, inr}
use Rattle.alm_types.specs.declared.entry.Entry.{Entry}
use Rattle.alm_types.specs.declared.logged_action.LoggedAction.{LoggedAction}
use Rattle.alm_model.specs.Plant.{Condensed}
use Rattle.alm_model.specs.Step.{run}
use Rattle.alm_model.specs.Judging.{accepted_of, when_accepted, logged_of, logged_if, of_slot}
use Rattle.alm_model.proofs.Runs.{run_append, run_count}
use Rattle.alm_model.proofs.Legal.{accepted_append, logged_append, of_slot_here, of_slot_there}
use Rattle.alm_rings.specs.declared.receipt.Receipt.{Receipt}
use Rattle.alm_rings.specs.declared.told.Told.{Ghosts}
use Rattle.alm_rings.specs.declared.outbox.Outbox.{Outbox}
use Rattle.alm_rings.specs.Ends.{released_of}
use Rattle.alm_rings.specs.Placed.{AreApart, released_in, released_by}
use Rattle.alm_rings.proofs.Slots.{set_cases}
use Rattle.std.specs.Prelude.{slice_set}
use Rattle.alm_board.specs.PrefixesOf.{IsPrefixOf}
use Rattle.alm_board.proofs.PrefixOfLaws.{prefix_of_self, prefix_of_joined}
use Rattle.alm_flush.specs.Replies.{RequestVerdict, replies_to, replies_in}
use Rattle.alm_flush.specs.HeldBatch.{batches_of, waiting_of, ready_of, stored_of, published_entries, released_entries, next_entry_of, after_release, left_of}
use Rattle.alm_flush.specs.declared.held.Held.{Held}
use Rattle.alm_flush.specs.declared.held.Held.TheVariants.{Nothing, Fetched, Failed, Committed, Published}

-- the accepted actions of a batch after those of the batches before it
pub accepted_more : (before items : List Entry) → accepted_of (before ++ []) ++ accepted_of items ≡ accepted_of (before ++ items)
accepted_more before items = ap (λ l. accepted_of l ++ accepted_of items) (append-nil before) ∙ sym (accepted_append before items)

pub run_more : (base : Condensed) (before items : List Entry) → run (run base (accepted_of (before ++ []))) (accepted_of items) ≡ run base (accepted_of (before ++ items))
run_more base before items = sym (run_append base (accepted_of (before ++ [])) (accepted_of items)) ∙ ap (run base) (accepted_more before items)

-- and with their requests
pub logged_more : (before items : List Entry) → logged_of (before ++ []) ++ logged_of items ≡ logged_of (before ++ items)
logged_more before items = ap (λ l. logged_of l ++ logged_of items) (append-nil before) ∙ sym (logged_append before items)

-- no item is after the last
pub none_past : (xs : List Entry) (n : ℕ) → slice_get xs n ≡ None → length xs ≤ n
none_past [] n is = omega arith
none_past (x ∷ xs) zero is = absurd cc
none_past (x ∷ xs) (suc n) is = omega (arith, none_past xs n is)

pub take_all : (xs : List Entry) (n : ℕ) → length xs ≤ n → take n xs ≡ xs
take_all [] zero le = refl
take_all [] (suc n) le = refl
take_all (x ∷ xs) zero le = absurd (omega arith)
take_all (x ∷ xs) (suc n) le = ap (λ l. x ∷ l) (take_all xs n (omega arith))

take_next : (xs : List Entry) (n : ℕ) (e : Entry) → slice_get xs n ≡ Some e → take (suc n) xs ≡ take n xs ++ e ∷ []
take_next [] n e is = absurd cc
take_next (x ∷ xs) zero e is = cc is
take_next (x ∷ xs) (suc n) e is = ap (λ l. x ∷ l) (take_next xs n e is)

accepted_at_place : (xs : List Entry) (n : ℕ) (e : Entry) → slice_get xs n ≡ Some e → accepted_of xs ≡ accepted_of (take n xs) ++ (when_accepted e.verdict ++ accepted_of (drop (suc n) xs))
accepted_at_place [] n e is = absurd cc
accepted_at_place (x ∷ xs) zero e is = let same : x ≡ e = cc is in ap (λ (y : Entry). when_accepted y.verdict ++ accepted_of xs) same
accepted_at_place (x ∷ xs) (suc n) e is =
    ap (λ l. when_accepted x.verdict ++ l) (accepted_at_place xs n e is)
    ∙ sym (append_assoc (when_accepted x.verdict) (accepted_of (take n xs)) (when_accepted e.verdict ++ accepted_of (drop (suc n) xs)))

pub told_pass : (h : Held) (e : Entry) → next_entry_of h ≡ Some e → released_entries (after_release h) ≡ released_entries h ++ e ∷ []
told_pass Nothing e is = absurd cc
told_pass (Fetched b) e is = absurd cc
told_pass (Failed b) e is = absurd cc
told_pass (Committed b) e is = absurd cc
told_pass (Published b n) e is = rw add-one (take_next b.entries n e is)

pub stored_pass : (h : Held) → stored_of (after_release h) ≡ stored_of h
stored_pass Nothing = refl
stored_pass (Fetched b) = refl
stored_pass (Failed b) = refl
stored_pass (Committed b) = refl
stored_pass (Published b n) = refl

pub shown_pass : (h : Held) → published_entries (after_release h) ≡ published_entries h
shown_pass Nothing = refl
shown_pass (Fetched b) = refl
shown_pass (Failed b) = refl
shown_pass (Committed b) = refl
shown_pass (Published b n) = refl

pub waiting_pass : (h : Held) → waiting_of (after_release h) ≡ waiting_of h
waiting_pass Nothing = refl
waiting_pass (Fetched b) = refl
waiting_pass (Failed b) = refl
waiting_pass (Committed b) = refl
waiting_pass (Published b n) = refl

pub batches_pass : (h : Held) → batches_of (after_release h) ≡ batches_of h
batches_pass Nothing = refl
batches_pass (Fetched b) = refl
batches_pass (Failed b) = refl
batches_pass (Committed b) = refl
batches_pass (Published b n) = refl

-- what is shown is stored
pub shown_stored : (h : Held) (e : Entry) → next_entry_of h ≡ Some e → stored_of h ≡ published_entries h
shown_stored Nothing e is = absurd cc
shown_stored (Fetched b) e is = absurd cc
shown_stored (Failed b) e is = absurd cc
shown_stored (Committed b) e is = absurd cc
shown_stored (Published b n) e is = refl

shown_split : (h : Held) (e : Entry) → next_entry_of h ≡ Some e → accepted_of (published_entries h) ≡ accepted_of (released_entries h) ++ (when_accepted e.verdict ++ left_of h)
shown_split Nothing e is = absurd cc
shown_split (Fetched b) e is = absurd cc
shown_split (Failed b) e is = absurd cc
shown_split (Committed b) e is = absurd cc
shown_split (Published b n) e is = accepted_at_place b.entries n e is

-- the published list around the next verdict
pub published_split : (before : List Entry) (h : Held) (e : Entry) → next_entry_of h ≡ Some e → accepted_of (before ++ published_entries h) ≡ accepted_of (before ++ released_entries h) ++ (when_accepted e.verdict ++ left_of h)
published_split before h e is =
    accepted_append before (published_entries h) ∙ (ap (λ l. accepted_of before ++ l) (shown_split h e is)
    ∙ (sym (append_assoc (accepted_of before) (accepted_of (released_entries h)) (when_accepted e.verdict ++ left_of h))
    ∙ ap (λ l. l ++ (when_accepted e.verdict ++ left_of h)) (sym (accepted_append before (released_entries h)))))

-- the same with the requests
abbrev pub logged_left : Held → List LoggedAction
logged_left (Published b n) = logged_of (drop (suc n) b.entries)
logged_left held = []

logged_at_place : (xs : List Entry) (n : ℕ) (e : Entry) → slice_get xs n ≡ Some e → logged_of xs ≡ logged_of (take n xs) ++ (logged_if e.slot e.serial e.verdict ++ logged_of (drop (suc n) xs))
logged_at_place [] n e is = absurd cc
logged_at_place (x ∷ xs) zero e is = let same : x ≡ e = cc is in ap (λ (y : Entry). logged_if y.slot y.serial y.verdict ++ logged_of xs) same
logged_at_place (x ∷ xs) (suc n) e is =
    ap (λ l. logged_if x.slot x.serial x.verdict ++ l) (logged_at_place xs n e is)
    ∙ sym (append_assoc (logged_if x.slot x.serial x.verdict) (logged_of (take n xs)) (logged_if e.slot e.serial e.verdict ++ logged_of (drop (suc n) xs)))

logged_split : (h : Held) (e : Entry) → next_entry_of h ≡ Some e → logged_of (published_entries h) ≡ logged_of (released_entries h) ++ (logged_if e.slot e.serial e.verdict ++ logged_left h)
logged_split Nothing e is = absurd cc
logged_split (Fetched b) e is = absurd cc
logged_split (Failed b) e is = absurd cc
logged_split (Committed b) e is = absurd cc
logged_split (Published b n) e is = logged_at_place b.entries n e is

pub published_logged : (before : List Entry) (h : Held) (e : Entry) → next_entry_of h ≡ Some e → logged_of (before ++ published_entries h) ≡ logged_of (before ++ released_entries h) ++ (logged_if e.slot e.serial e.verdict ++ logged_left h)
published_logged before h e is =
    logged_append before (published_entries h) ∙ (ap (λ l. logged_of before ++ l) (logged_split h e is)
    ∙ (sym (append_assoc (logged_of before) (logged_of (released_entries h)) (logged_if e.slot e.serial e.verdict ++ logged_left h))
    ∙ ap (λ l. l ++ (logged_if e.slot e.serial e.verdict ++ logged_left h)) (sym (logged_append before (released_entries h)))))

pub told_snoc : (before : List Entry) (h : Held) (e : Entry) → next_entry_of h ≡ Some e → before ++ released_entries (after_release h) ≡ (before ++ released_entries h) ++ e ∷ []
told_snoc before h e is = ap (λ l. before ++ l) (told_pass h e is) ∙ sym (append_assoc before (released_entries h) (e ∷ []))

pub accepted_snoc : (entries : List Entry) (e : Entry) → accepted_of (entries ++ e ∷ []) ≡ accepted_of entries ++ when_accepted e.verdict
accepted_snoc entries e = accepted_append entries (e ∷ []) ∙ ap (λ l. accepted_of entries ++ l) (append-nil (when_accepted e.verdict))

pub get_middle : {A : Type 0} (xs ys : List A) (a : A) (n : ℕ) → n ≡ length xs → slice_get (xs ++ (a ∷ ys)) n ≡ Some a
get_middle [] ys a zero is = refl
get_middle [] ys a (suc n) is = absurd (omega arith)
get_middle (x ∷ xs) ys a zero is = absurd (omega arith)
get_middle (x ∷ xs) ys a (suc n) is = get_middle xs ys a n (omega arith)

pub ready_pass : (h : Held) → ready_of (after_release h) ≡ ready_of h
ready_pass Nothing = refl
ready_pass (Fetched b) = refl
ready_pass (Failed b) = refl
ready_pass (Committed b) = refl
ready_pass (Published b n) = refl

-- what is shown is a prefix of what is stored
pub shown_prefix : (before : List Entry) (h : Held) → IsPrefixOf (accepted_of (before ++ published_entries h)) (accepted_of (before ++ stored_of h))
shown_prefix before Nothing = prefix_of_self (accepted_of (before ++ []))
shown_prefix before (Fetched b) = prefix_of_self (accepted_of (before ++ []))
shown_prefix before (Failed b) = prefix_of_self (accepted_of (before ++ []))
shown_prefix before (Committed b) = prefix_of_joined (accepted_of (before ++ [])) (accepted_of b.entries) (accepted_of (before ++ b.entries)) (accepted_more before b.entries)
shown_prefix before (Published b n) = prefix_of_self (accepted_of (before ++ b.entries))

-- the verdicts that are released are of what is stored
told_fewer : (h : Held) → length (accepted_of (released_entries h)) ≤ length (accepted_of (stored_of h))
told_fewer Nothing = omega arith
told_fewer (Fetched b) = omega arith
told_fewer (Failed b) = omega arith
told_fewer (Committed b) = omega arith
told_fewer (Published b n) =
    let parts = accepted_append (take n b.entries) (drop n b.entries) in
    let whole = ap accepted_of (take-append-drop n b.entries) in
    omega (arith, ap length parts, ap length whole, length-append (accepted_of (take n b.entries)) (accepted_of (drop n b.entries)))

pub told_stored : (base stored : Condensed) (before : List Entry) (h : Held) (number last : ℕ) → number ≤ last → last ≡ base.panel.count + length (accepted_of (before ++ released_entries h)) → stored ≡ run base (accepted_of (before ++ stored_of h)) → number ≤ stored.panel.count
told_stored base stored before h number last within is stands =
    omega (
      arith,
      within,
      is,
      ap (λ q. q.panel.count) stands,
      run_count base (accepted_of (before ++ stored_of h)),
      ap length (accepted_append before (released_entries h)),
      length-append (accepted_of before) (accepted_of (released_entries h)),
      ap length (accepted_append before (stored_of h)),
      length-append (accepted_of before) (accepted_of (stored_of h)),
      told_fewer h,
    )

pub nothing_free : (n : ℕ) → ¬ (0 < n) → n ≡ 0
nothing_free n none = omega (arith, none)

pub replies_snoc : (xs : List Entry) (e : Entry) → replies_to (xs ++ e ∷ []) ≡ replies_to xs ++ record { slot = e.slot; serial = e.serial; verdict = e.verdict } ∷ []
replies_snoc [] e = refl
replies_snoc (x ∷ xs) e = ap (λ (l : List RequestVerdict). record { slot = x.slot; serial = x.serial; verdict = x.verdict } ∷ l) (replies_snoc xs e)

-- what is nothing begins with nothing, which begins everything
pub prefix_nothing : {A : Type 0} (xs ys : List A) → IsPrefixOf xs [] → IsPrefixOf xs ys
prefix_nothing [] ys prefix = refl
prefix_nothing (x ∷ xs) ys prefix = absurd cc

module _ {T : Type 0} {g : Ghosts T} where
  pub replied_snoc : (rs : List (Receipt T g)) (r : Receipt T g) → replies_in (rs ++ r ∷ []) ≡ replies_in rs ++ record { slot = r.slot; serial = r.serial; verdict = r.verdict } ∷ []
  replied_snoc [] r = refl
  replied_snoc (x ∷ rs) r = ap (λ (l : List RequestVerdict). record { slot = x.slot; serial = x.serial; verdict = x.verdict } ∷ l) (replied_snoc rs r)

  pub gave_at : (from to : Option (Outbox T g)) (o new : Outbox T g) (r : Receipt T g) → from ≡ Some o → to ≡ Some new → released_of new ≡ released_of o ++ r ∷ [] → released_in to ≡ released_in from ++ r ∷ []
  gave_at from to o new r here now gave = ap released_in now ∙ (gave ∙ ap (λ x. released_in x ++ r ∷ []) (sym here))

  -- the outbox of the entry's slot released one receipt more
  pub released_more : (outboxes : List (Outbox T g)) (k : ℕ) (o new : Outbox T g) (es : List Entry) (e : Entry) (r : Receipt T g) → AreApart (λ (o : Outbox T g). o.slot) outboxes → slice_get outboxes k ≡ Some o → new.slot ≡ o.slot → o.slot ≡ e.slot
      → released_of new ≡ released_of o ++ r ∷ [] → r.slot ≡ e.slot → r.serial ≡ e.serial → r.verdict ≡ e.verdict
      → ((s : ℕ) → replies_in (released_by s outboxes) ≡ replies_to (of_slot s es)) → (s : ℕ) → replies_in (released_by s (slice_set outboxes k new)) ≡ replies_to (of_slot s (es ++ e ∷ []))
  released_more outboxes k o new es e r apart at same slot gave asker serial verdict were s = elim (set_cases (λ (o : Outbox T g). o.slot) outboxes k o new apart at same s) [
    | inl h ↦ ap (λ x. replies_in (released_in x)) h.2 ∙ (ap replies_in gave ∙ (replied_snoc (released_of o) r
        ∙ (ap (λ (l : List RequestVerdict). l ++ record { slot = r.slot; serial = r.serial; verdict = r.verdict } ∷ []) (sym (ap (λ x. replies_in (released_in x)) h.1) ∙ were s)
        ∙ (ap (λ (n : ℕ). replies_to (of_slot s es) ++ record { slot = n; serial = r.serial; verdict = r.verdict } ∷ []) asker
        ∙ (ap (λ (n : ℕ). replies_to (of_slot s es) ++ record { slot = e.slot; serial = n; verdict = r.verdict } ∷ []) serial
        ∙ (ap (λ v. replies_to (of_slot s es) ++ record { slot = e.slot; serial = e.serial; verdict = v } ∷ []) verdict
        ∙ (sym (replies_snoc (of_slot s es) e) ∙ ap replies_to (sym (of_slot_here s es e (sym slot ∙ sym h.0))))))))))
    | inr h ↦ ap (λ x. replies_in (released_in x)) h.1 ∙ (were s ∙ ap replies_to (sym (of_slot_there s es e (λ p. h.0 (p ∙ sym slot)))))
  ]

  get_last : (rs : List (Receipt T g)) (r x : Receipt T g) (j : ℕ) → slice_get (rs ++ r ∷ []) j ≡ Some x → (r ≡ x) ⊎ (slice_get rs j ≡ Some x)
  get_last [] r x zero is = inl (same_Some r x is)
  get_last [] r x (suc j) is = absurd cc
  get_last (y ∷ rs) r x zero is = inr is
  get_last (y ∷ rs) r x (suc j) is = get_last rs r x j is

  -- no number above the last one was released
  pub numbers_more : (outboxes : List (Outbox T g)) (k : ℕ) (o new : Outbox T g) (r : Receipt T g) (before now : ℕ) → AreApart (λ (o : Outbox T g). o.slot) outboxes → slice_get outboxes k ≡ Some o → new.slot ≡ o.slot
      → released_of new ≡ released_of o ++ r ∷ [] → r.number ≡ now → before ≤ now
      → ((s j : ℕ) (x : Receipt T g) → slice_get (released_by s outboxes) j ≡ Some x → x.number ≤ before) → (s j : ℕ) (x : Receipt T g) → slice_get (released_by s (slice_set outboxes k new)) j ≡ Some x → x.number ≤ now
  numbers_more outboxes k o new r before now apart at same gave number later were s j x is = elim (set_cases (λ (o : Outbox T g). o.slot) outboxes k o new apart at same s) [
    | inl h ↦ (elim (get_last (released_of o) r x j (ap (λ l. slice_get l j) (sym gave) ∙ (ap (λ e. slice_get (released_in e) j) (sym h.2) ∙ is))) [
      | inl last ↦ omega (arith, ap (λ (y : Receipt T g). y.number) last, number)
      | inr old ↦ omega (arith, were s j x (ap (λ e. slice_get (released_in e) j) h.1 ∙ old), later)
    ])
    | inr h ↦ omega (arith, were s j x (ap (λ e. slice_get (released_in e) j) (sym h.1) ∙ is), later)
  ]
