-- What a take makes of the entries and the inboxes.
use Rattle.std.proofs.Common.{◌≡◌, ◌≢◌, ◌+◌, ◌<◌, ◌≤◌, ℕ, Bool, false, List, [], ◌∷◌, ◌++◌, length, length-append, refl, sym, ap, ◌∙◌, arith, inl, inr, Some, suc}
use Rattle.std.specs.Prelude.{slice_get, slice_set, IsTrue, ◌↔◌}
use Rattle.std.specs.List.{range_with_len}
use Rattle.alm_types.specs.declared.entry.Entry.{Entry}
use Rattle.alm_model.specs.Judging.{of_slot, wants_of, serials_of}
use Rattle.alm_model.proofs.Legal.{of_slot_here, of_slot_there, wants_snoc, serials_snoc, range_more}
use Rattle.alm_rings.specs.declared.inbox.Inbox.{Inbox}
use Rattle.alm_rings.specs.Ends.{taken_of, waiting_in}
use Rattle.alm_rings.specs.Placed.{AreApart, inbox_at, taken_in, taken_by, known_to, waiting_by}
use Rattle.alm_rings.proofs.Slots.{found, set_cases}

-- the inbox of the entry's slot gave one request more
module _ (inboxes : List Inbox) (k : ℕ) (i new : Inbox) (es : List Entry) (e : Entry) (apart : AreApart (λ (i : Inbox). i.slot) inboxes) (at : slice_get inboxes k ≡ Some i)
    (same : new.slot ≡ i.slot) (slot : i.slot ≡ e.slot) (took : taken_of new ≡ taken_of i ++ e.want ∷ []) where
  pub wants_more : ((s : ℕ) → wants_of (of_slot s es) ≡ taken_by s inboxes) → (s : ℕ) → wants_of (of_slot s (es ++ e ∷ [])) ≡ taken_by s (slice_set inboxes k new)
  wants_more were s = elim (set_cases (λ (i : Inbox). i.slot) inboxes k i new apart at same s) [
    | inl h ↦ ap wants_of (of_slot_here s es e (sym slot ∙ sym h.0)) ∙ (wants_snoc (of_slot s es) e
        ∙ (ap (λ l. l ++ e.want ∷ []) (were s ∙ ap taken_in h.1) ∙ (sym took ∙ sym (ap taken_in h.2))))
    | inr h ↦ ap wants_of (of_slot_there s es e (λ p. h.0 (p ∙ sym slot))) ∙ (were s ∙ ap taken_in (sym h.1))
  ]

  pub serials_more : e.serial ≡ length (taken_of new) → ((s : ℕ) → serials_of (of_slot s es) ≡ range_with_len 1 (length (taken_by s inboxes))) → (s : ℕ) → serials_of (of_slot s (es ++ e ∷ [])) ≡ range_with_len 1 (length (taken_by s (slice_set inboxes k new)))
  serials_more serial were s = elim (set_cases (λ (i : Inbox). i.slot) inboxes k i new apart at same s) [
    | inl h ↦ (let more : length (taken_of new) ≡ suc (length (taken_of i)) = omega (arith, ap length took, length-append (taken_of i) (e.want ∷ [])) in
        let next : e.serial ≡ 1 + length (taken_of i) = omega (arith, serial, more) in
        ap serials_of (of_slot_here s es e (sym slot ∙ sym h.0)) ∙ (serials_snoc (of_slot s es) e
        ∙ (ap (λ l. l ++ e.serial ∷ []) (were s ∙ ap (λ o. range_with_len 1 (length (taken_in o))) h.1)
        ∙ (ap (λ (n : ℕ). range_with_len 1 (length (taken_of i)) ++ n ∷ []) next
        ∙ (sym (range_more 1 (length (taken_of i))) ∙ (ap (range_with_len 1) (sym more) ∙ ap (λ o. range_with_len 1 (length (taken_in o))) (sym h.2)))))))
    | inr h ↦ ap serials_of (of_slot_there s es e (λ p. h.0 (p ∙ sym slot))) ∙ (were s ∙ ap (λ o. range_with_len 1 (length (taken_in o))) (sym h.1))
  ]

no_length : {A : Type 0} (xs : List A) → ¬ (0 < length xs) → xs ≡ []
no_length [] none = refl
no_length (x ∷ xs) none = absurd (none (omega arith))

-- an inbox that returned none knew of none
pub none_known : (inboxes : List Inbox) (k : ℕ) (i : Inbox) (slot : ℕ) → AreApart (λ (i : Inbox). i.slot) inboxes → slice_get inboxes k ≡ Some i → i.slot ≡ slot
    → (0 < length (waiting_in i) → ⊥) → waiting_by slot inboxes ≡ []
none_known inboxes k i slot apart at is gave =
    let here : inbox_at slot inboxes ≡ Some i = ap (λ s. inbox_at s inboxes) (sym is) ∙ found (λ (i : Inbox). i.slot) inboxes k i apart at in
    ap known_to here ∙ no_length (waiting_in i) gave

-- a batch that isn't full takes one entry more
pub not_full : (b : Bool) (n : ℕ) → (IsTrue b ↔ (n ≡ 256)) → b ≡ false → n ≤ 256 → n < 256
not_full b n is free most = let other : n ≢ 256 = λ e. (let full = is.1 e in absurd (cc (full, free))) in omega (arith, other, most)
