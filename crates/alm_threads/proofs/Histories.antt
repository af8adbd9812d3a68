-- Prefixes of what a flusher fetched.
use Rattle.std.proofs.Common.{◌≡◌, ◌⊎◌, ⊎_elim, inl, inr, ◌∙◌, List, [], ◌++◌, refl, sym, ap, subst, drop}
use Rattle.std.proofs.lemmas.List.{append_assoc, append-nil, take-append-drop}
use mathlib.Core.List.{IsPrefix}
use mathlib.Core.Logic.{∥∥₁_elim, ∥∥₁_prop}
use Rattle.alm_types.specs.Batches.{Judged}
use Rattle.alm_model.specs.Judging.{entries_in}
use Rattle.alm_model.specs.Plant.{Condensed}
use Rattle.alm_model.proofs.Legal.{entries_append}
use Rattle.alm_flush.specs.HeldBatch.{batches_of, published_entries, stored_of, released_entries, waiting_of}
use Rattle.alm_flush.specs.declared.held.Held.{Held}
use Rattle.alm_flush.specs.declared.held.Held.TheVariants.{Nothing, Fetched, Failed, Committed, Published}

stored_prefix : (h : Held) → IsPrefix (stored_of h) (entries_in (batches_of h))
stored_prefix Nothing = ([], refl)
stored_prefix (Fetched b) = (b.entries ++ [], refl)
stored_prefix (Failed b) = (b.entries ++ [], refl)
stored_prefix (Committed b) = ([], refl)
stored_prefix (Published b n) = ([], refl)

told_prefix : (h : Held) → IsPrefix (released_entries h) (stored_of h)
told_prefix Nothing = ([], refl)
told_prefix (Fetched b) = ([], refl)
told_prefix (Failed b) = ([], refl)
told_prefix (Committed b) = (b.entries, refl)
told_prefix (Published b n) = (drop n b.entries, take-append-drop n b.entries)

shown_prefix : (h : Held) → IsPrefix (released_entries h) (published_entries h)
shown_prefix Nothing = ([], refl)
shown_prefix (Fetched b) = ([], refl)
shown_prefix (Failed b) = ([], refl)
shown_prefix (Committed b) = ([], refl)
shown_prefix (Published b n) = (drop n b.entries, take-append-drop n b.entries)

behind : {A : Type 0} (xs ys zs : List A) → IsPrefix ys zs → IsPrefix (xs ++ ys) (xs ++ zs)
behind xs ys zs prefix = (prefix.0, append_assoc xs ys prefix.0 ∙ ap (λ l. xs ++ l) prefix.1)

pub kept_prefix : (before : List Judged) (h : Held) (fetched : List Judged) → fetched ≡ before ++ batches_of h → IsPrefix (entries_in before ++ stored_of h) (entries_in fetched)
kept_prefix before h fetched is =
    let prefix = behind (entries_in before) (stored_of h) (entries_in (batches_of h)) (stored_prefix h) in
    (prefix.0, prefix.1 ∙ (sym (entries_append before (batches_of h)) ∙ ap entries_in (sym is)))

pub told_kept : (before : List Judged) (h : Held) → IsPrefix (entries_in before ++ released_entries h) (entries_in before ++ stored_of h)
told_kept before h = behind (entries_in before) (released_entries h) (stored_of h) (told_prefix h)

pub told_shown : (before : List Judged) (h : Held) → IsPrefix (entries_in before ++ released_entries h) (entries_in before ++ published_entries h)
told_shown before h = behind (entries_in before) (released_entries h) (published_entries h) (shown_prefix h)

waiting_prefix : (h : Held) → IsPrefix (stored_of h ++ waiting_of h) (entries_in (batches_of h))
waiting_prefix Nothing = ([], refl)
waiting_prefix (Fetched b) = ([], refl)
waiting_prefix (Failed b) = ([], refl)
waiting_prefix (Committed b) = ([], append-nil (b.entries ++ []))
waiting_prefix (Published b n) = ([], append-nil (b.entries ++ []))

pub ahead_prefix : (before : List Judged) (h : Held) (fetched : List Judged) → fetched ≡ before ++ batches_of h → IsPrefix ((entries_in before ++ stored_of h) ++ waiting_of h) (entries_in fetched)
ahead_prefix before h fetched is =
    let prefix = behind (entries_in before) (stored_of h ++ waiting_of h) (entries_in (batches_of h)) (waiting_prefix h) in (
      prefix.0,
      ap (λ l. l ++ prefix.0) (append_assoc (entries_in before) (stored_of h) (waiting_of h)) ∙ (prefix.1 ∙ (sym (entries_append before (batches_of h)) ∙ ap entries_in (sym is))),
    )

-- what encodes the stored plant or the next one, by what the next one is
pub one_of : (R : Condensed → Type 0) (stored next ahead : Condensed) → ∥ R stored ⊎ R next ∥₁ → ∥ (next ≡ stored) ⊎ (next ≡ ahead) ∥₁ → ∥ R stored ⊎ R ahead ∥₁
one_of R stored next ahead stands either =
    ∥∥₁_elim either ∥∥₁_prop (λ e. ∥∥₁_elim stands ∥∥₁_prop (λ s.
    ⊎_elim (λ (x : R stored). ∣ inl x ∣₁) (λ (x : R next).
    ⊎_elim (λ (y : next ≡ stored). ∣ inl (subst R y x) ∣₁) (λ (y : next ≡ ahead). ∣ inr (subst R y x) ∣₁) e) s))
