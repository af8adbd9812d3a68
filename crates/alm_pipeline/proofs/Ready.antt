-- A fetched batch is the next one of the stored plant, and admitted; and what is left of a published one.
use Rattle.std.proofs.Common.{◌+◌, ◌≡◌, ◌<◌, ◌∙◌, ◌++◌, [], ◌∷◌, ℕ, zero, suc, List, length, ap, sym, subst, refl, arith, append_assoc, slice_get, Some, None}
use Rattle.std.proofs.lemmas.List.{append-nil}
use Rattle.alm_model.specs.Step.{run}
use Rattle.alm_model.specs.Judging.{IsLegal, accepted_of, entries_in, firsts_from, firsts_of}
use Rattle.alm_types.specs.declared.entry.Entry.{Entry}
use Rattle.alm_model.specs.Plant.{Condensed}
use Rattle.alm_types.specs.Batches.{Judged}
use Rattle.alm_model.specs.Rules.{AllAdmitted}
use Rattle.alm_model.proofs.Legal.{admitted_front, accepted_append, legal_admitted, next_batch}
use Rattle.alm_flush.specs.HeldBatch.{batches_of, stored_of, next_entry_of}
use Rattle.alm_flush.specs.Flushes.{IsNext}
use Rattle.alm_flush.specs.declared.held.Held.{Held}
use Rattle.alm_flush.specs.declared.held.Held.TheVariants.{Nothing, Fetched, Failed, Committed, Published}
use Rattle.alm_flush.proofs.HeldLaws.{none_past}
use Rattle.alm_pipeline.specs.World.{HasVerdicts, next_entry}
use Rattle.alm_disk.specs.declared.disk.Disk
use Rattle.alm_store.specs.declared.store.Store.{Ghosts}
use Rattle.alm_rings.specs.Batches.{fetched_of, sealed_of, coming_in}
use Rattle.alm_pipeline.specs.declared.pipeline.Pipeline.{Pipeline}
use Rattle.alm_pipeline.specs.Matches.{stage_of, KnowsAll}

pub nothing_left : (h : Held) → next_entry_of h ≡ None → ¬ (HasVerdicts (stage_of h))
nothing_left Nothing none has = has
nothing_left (Fetched b) none has = has
nothing_left (Failed b) none has = has
nothing_left (Committed b) none has = has
nothing_left (Published b n) none has = absurd (omega (arith, none_past b.entries n none, has))

within : (xs : List Entry) (n : ℕ) (e : Entry) → slice_get xs n ≡ Some e → n < length xs
within [] n e is = absurd (cc is)
within (x ∷ xs) zero e is = omega arith
within (x ∷ xs) (suc n) e is = let r = within xs n e is in omega (arith, r)

pub something_left : (h : Held) (e : Entry) → next_entry_of h ≡ Some e → HasVerdicts (stage_of h)
something_left Nothing e is = absurd (cc is)
something_left (Fetched b) e is = absurd (cc is)
something_left (Failed b) e is = absurd (cc is)
something_left (Committed b) e is = absurd (cc is)
something_left (Published b n) e is = within b.entries n e is

pub published_at : (h : Held) (e : Entry) → next_entry_of h ≡ Some e → (b : Judged) × (n : ℕ) × (h ≡ Published b n) × (slice_get b.entries n ≡ Some e)
published_at Nothing e is = absurd (cc is)
published_at (Fetched b) e is = absurd (cc is)
published_at (Failed b) e is = absurd (cc is)
published_at (Committed b) e is = absurd (cc is)
published_at (Published b n) e is = (b, n, refl, is)

-- a fetched batch is the next one of the stored plant, and admitted
pub next_one : (h : Held) (b : Judged) (stored base : Condensed) (before fetched coming sealed : List Judged) (open' : List Entry) → h ≡ Fetched b
    → IsLegal base (entries_in sealed ++ open') → firsts_of sealed ≡ firsts_from (base.panel.count + 1) sealed → fetched ++ coming ≡ sealed → fetched ≡ before ++ batches_of h → stored ≡ run base (accepted_of (entries_in before ++ stored_of h)) → IsNext h stored
next_one h b stored base before fetched coming sealed open' is legal firsts all held at =
    let lists : sealed ≡ before ++ (b ∷ coming) = sym all ∙ (ap (λ l. l ++ coming) (held ∙ ap (λ h. before ++ batches_of h) is) ∙ append_assoc before (b ∷ []) coming) in
    let stands : stored ≡ run base (accepted_of (entries_in before)) = at ∙ (ap (λ h. run base (accepted_of (entries_in before ++ stored_of h))) is ∙ ap (λ l. run base (accepted_of l)) (append-nil (entries_in before))) in
    let admitted : AllAdmitted base (accepted_of (entries_in sealed)) =
    admitted_front base (accepted_of (entries_in sealed)) (accepted_of open') (subst (AllAdmitted base) (accepted_append (entries_in sealed) open') (legal_admitted base (entries_in sealed ++ open') legal)) in
    let next = next_batch base stored before b coming (subst (λ (l : List Judged). firsts_of l ≡ firsts_from (base.panel.count + 1) l) lists firsts)
    (subst (λ (l : List Judged). AllAdmitted base (accepted_of (entries_in l))) lists admitted) stands in
    subst (λ (h : Held). IsNext h stored) (sym is) next

pub next_at_is : (h : Held) (e : Entry) → next_entry_of h ≡ Some e → next_entry (stage_of h) ≡ Some e
next_at_is Nothing e is = absurd (cc is)
next_at_is (Fetched b) e is = absurd (cc is)
next_at_is (Failed b) e is = absurd (cc is)
next_at_is (Committed b) e is = absurd (cc is)
next_at_is (Published b n) e is = is

module _ {K D : Type 0} {g : Ghosts K D} {d : Disk.Ghosts D} where
  -- the same of a pipeline whose ends know of one another
  pub fetched_next : (p : Pipeline K D g d) (b : Judged) → p.flusher.held ≡ Fetched b → KnowsAll p → IsNext p.flusher.held (g.state p.flusher.store).stored
  fetched_next p b is knows =
      next_one p.flusher.held b (g.state p.flusher.store).stored p.flusher.board.base.value (fetched_of p.flusher.before.value) (fetched_of p.flusher.fetch) (coming_in p.flusher.fetch) (sealed_of p.sequencer.ends) p.sequencer.batch.entries is
      (subst (λ b. IsLegal b (entries_in (sealed_of p.sequencer.ends) ++ p.sequencer.batch.entries)) p.bases p.sequencer.legal)
      (p.sequencer.firsts ∙ ap (λ b. firsts_from (b.panel.count + 1) (sealed_of p.sequencer.ends)) p.bases)
      knows.batches p.flusher.held_is p.flusher.stored
