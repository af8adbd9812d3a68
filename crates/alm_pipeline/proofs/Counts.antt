-- How many verdicts of a slot are released, and how many of its requests taken.
use Rattle.std.proofs.Common.{◌≡◌, ◌≤◌, ◌+◌, ℕ, zero, suc, List, [], ◌∷◌, ◌++◌, length, take, drop, Some, slice_get, refl, ap, sym, ◌∙◌, arith, length-append, append_assoc}
use Rattle.std.proofs.lemmas.List.{append-nil}
use Rattle.alm_types.specs.declared.entry.Entry.{Entry}
use Rattle.alm_model.specs.Judging.{entries_in, of_slot, wants_of}
use Rattle.alm_model.proofs.Legal.{entries_append, of_slot_append, of_slot_here}
use Rattle.alm_rings.specs.declared.receipt.Receipt.{Receipt}
use Rattle.alm_rings.specs.declared.told.Told.{Ghosts as ToldGhosts}
use Rattle.alm_disk.specs.declared.disk.Disk
use Rattle.alm_store.specs.declared.store.Store.{Ghosts}
use Rattle.alm_rings.specs.Placed.{taken_by, released_by}
use Rattle.alm_rings.specs.Batches.{fetched_of, sealed_of, coming_in}
use Rattle.alm_flush.specs.Replies.{replies_in, replies_to}
use Rattle.alm_flush.specs.HeldBatch.{batches_of, released_entries, next_entry_of, after_release}
use Rattle.alm_flush.specs.declared.held.Held.{Held}
use Rattle.alm_flush.specs.declared.held.Held.TheVariants.{Nothing, Fetched, Failed, Committed, Published}
use Rattle.alm_flush.proofs.HeldLaws.{told_pass, batches_pass}
use Rattle.alm_pipeline.specs.declared.pipeline.Pipeline.{Pipeline}
use Rattle.alm_pipeline.specs.Matches.{note, notes_of, KnowsAll}

cut : (n : ℕ) (xs : List Entry) → xs ≡ take n xs ++ drop n xs
cut zero [] = refl
cut (suc n) [] = refl
cut zero (x ∷ xs) = refl
cut (suc n) (x ∷ xs) = ap (λ l. x ∷ l) (cut n xs)

told_split : (h : Held) → (rest : List Entry) × (entries_in (batches_of h) ≡ released_entries h ++ rest)
told_split Nothing = ([], refl)
told_split (Fetched b) = (b.entries ++ [], refl)
told_split (Failed b) = (b.entries ++ [], refl)
told_split (Committed b) = (b.entries ++ [], refl)
told_split (Published b n) = (drop n b.entries, append-nil b.entries ∙ cut n b.entries)

pub replies_to_length : (es : List Entry) → length (replies_to es) ≡ length es
replies_to_length [] = refl
replies_to_length (e ∷ es) = ap suc (replies_to_length es)

pub wants_length : (es : List Entry) → length (wants_of es) ≡ length es
wants_length [] = refl
wants_length (e ∷ es) = ap suc (wants_length es)

count_le : (s : ℕ) (xs ys zs : List Entry) → zs ≡ xs ++ ys → length (of_slot s xs) ≤ length (of_slot s zs)
count_le s xs ys zs is = omega (arith, ap (λ l. length (of_slot s l)) is, ap length (of_slot_append s xs ys), length-append (of_slot s xs) (of_slot s ys))

module _ {T : Type 0} {g : ToldGhosts T} where
  pub replies_in_length : (rs : List (Receipt T g)) → length (replies_in rs) ≡ length rs
  replies_in_length [] = refl
  replies_in_length (r ∷ rs) = ap suc (replies_in_length rs)

  pub notes_length : (rs : List (Receipt T g)) → length (notes_of rs) ≡ length rs
  notes_length [] = refl
  notes_length (r ∷ rs) = ap suc (notes_length rs)

  pub notes_append : (xs ys : List (Receipt T g)) → notes_of (xs ++ ys) ≡ notes_of xs ++ notes_of ys
  notes_append [] ys = refl
  notes_append (r ∷ xs) ys = ap (λ l. note r ∷ l) (notes_append xs ys)

  pub notes_seam : (xs ys : List (Receipt T g)) (r : Receipt T g) → slice_get (notes_of (xs ++ r ∷ ys)) (length xs) ≡ Some (note r)
  notes_seam [] ys r = refl
  notes_seam (x ∷ xs) ys r = notes_seam xs ys r

module _ {K D : Type 0} {g : Ghosts K D} {d : Disk.Ghosts D} where
  history : (p : Pipeline K D g d) → KnowsAll p → (told rest : List Entry) → entries_in (batches_of p.flusher.held) ≡ told ++ rest
      → entries_in (sealed_of p.sequencer.ends) ++ p.sequencer.batch.entries ≡ (entries_in (fetched_of p.flusher.before.value) ++ told) ++ (rest ++ (entries_in (coming_in p.flusher.fetch) ++ p.sequencer.batch.entries))
  history p n told rest is =
      let before = fetched_of p.flusher.before.value in
      let eb = entries_in before in
      let coming = entries_in (coming_in p.flusher.fetch) in
      let open' = p.sequencer.batch.entries in
      ap (λ l. entries_in l ++ open') (sym n.batches) ∙ (ap (λ l. l ++ open') (entries_append (fetched_of p.flusher.fetch) (coming_in p.flusher.fetch)
      ∙ ap (λ l. l ++ coming) (ap entries_in p.flusher.held_is ∙ (entries_append before (batches_of p.flusher.held) ∙ (ap (λ l. eb ++ l) is ∙ sym (append_assoc eb told rest)))))
      ∙ (append_assoc ((eb ++ told) ++ rest) coming open' ∙ append_assoc (eb ++ told) rest (coming ++ open')))

  pub released_le : (p : Pipeline K D g d) → KnowsAll p → (s : ℕ) → length (released_by s p.flusher.outboxes.items) ≤ length (taken_by s p.sequencer.inboxes.items)
  released_le p n s =
      let before = entries_in (fetched_of p.flusher.before.value) in
      let told = released_entries p.flusher.held in
      let all = entries_in (sealed_of p.sequencer.ends) ++ p.sequencer.batch.entries in
      let split = told_split p.flusher.held in
      omega (
        arith,
        ap length (p.flusher.released s),
        replies_in_length (released_by s p.flusher.outboxes.items),
        replies_to_length (of_slot s (before ++ told)),
        ap length (p.sequencer.wants s),
        wants_length (of_slot s all),
        count_le s (before ++ told) _ all (history p n told split.0 split.1),
      )

  pub released_lt : (p : Pipeline K D g d) → KnowsAll p → (s : ℕ) (e : Entry) → next_entry_of p.flusher.held ≡ Some e → e.slot ≡ s → length (released_by s p.flusher.outboxes.items) + 1 ≤ length (taken_by s p.sequencer.inboxes.items)
  released_lt p n s e next of =
      let before = entries_in (fetched_of p.flusher.before.value) in
      let h = p.flusher.held in
      let told = released_entries h in
      let more = told ++ e ∷ [] in
      let all = entries_in (sealed_of p.sequencer.ends) ++ p.sequencer.batch.entries in
      let split = told_split (after_release h) in
      let is : entries_in (batches_of h) ≡ more ++ split.0 = sym (ap entries_in (batches_pass h)) ∙ (split.1 ∙ ap (λ l. l ++ split.0) (told_pass h e next)) in
      let here : of_slot s (before ++ more) ≡ of_slot s (before ++ told) ++ e ∷ [] = ap (of_slot s) (sym (append_assoc before told (e ∷ []))) ∙ of_slot_here s (before ++ told) e of in
      omega (
        arith,
        ap length (p.flusher.released s),
        replies_in_length (released_by s p.flusher.outboxes.items),
        replies_to_length (of_slot s (before ++ told)),
        ap length (p.sequencer.wants s),
        wants_length (of_slot s all),
        count_le s (before ++ more) _ all (history p n more split.0 is),
        ap length here,
        length-append (of_slot s (before ++ told)) (e ∷ []),
      )
