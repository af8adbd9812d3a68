-- The headline from what the parts keep.
use Rattle.std.proofs.Common.{◌≡◌, ◌⊎◌, ⊎_elim, ◌+◌, ◌≤◌, ℕ, List, [], ◌∷◌, ◌++◌, length, refl, sym, ◌∙◌, ap, subst, arith, append_assoc, length-append}
use Rattle.std.proofs.lemmas.List.{append-nil}
use Rattle.std.proofs.Math.Logic.{∥∥₁_elim}
use Rattle.alm_disk.specs.Device.{AreBytes, IsImage}
use Rattle.alm_model.specs.Step.{run}
use Rattle.alm_model.specs.Judging.{accepted_of, entries_in}
use Rattle.alm_types.specs.declared.action.Action.{Action}
use Rattle.alm_types.specs.declared.entry.Entry.{Entry}
use Rattle.alm_model.specs.Plant.{Condensed}
use Rattle.alm_model.specs.Rules.{KeepsRules}
use Rattle.alm_types.specs.Batches.{Judged}
use Rattle.alm_model.proofs.Legal.{accepted_append}
use Rattle.alm_model.proofs.Runs.{run_append}
use Rattle.alm_rings.specs.Batches.{fetched_of, sealed_of}
use Rattle.alm_model.proofs.Legal.{entries_append}
use Rattle.alm_disk.specs.declared.disk.Disk
use Rattle.alm_store.specs.declared.store.Store.{Ghosts}
use Rattle.alm_flush.specs.HeldBatch.{batches_of, stored_of, published_entries, waiting_of}
use Rattle.alm_flush.specs.declared.held.Held.{Held}
use Rattle.alm_flush.specs.declared.held.Held.TheVariants.{Nothing, Fetched, Failed, Committed, Published}
use Rattle.alm_pipeline.specs.declared.pipeline.Pipeline.{Pipeline}
use Rattle.alm_pipeline.specs.World.{World}
use Rattle.alm_store.specs.Recovery.{IsPrefixPlant}
use Rattle.alm_store.proofs.Recovery.{prefix_prop, prefix_is, safe_by}
use Rattle.alm_pipeline.specs.Headline.{Headline}
use Rattle.alm_pipeline.specs.Matches.{entries_of, MatchesWorld}

flat : List (List Entry) → List Entry
flat [] = []
flat (l ∷ ls) = l ++ flat ls

flat_append : (xs ys : List (List Entry)) → flat (xs ++ ys) ≡ flat xs ++ flat ys
unfolding flat
flat_append [] ys = refl
flat_append (l ∷ xs) ys = ap (λ k. l ++ k) (flat_append xs ys) ∙ sym (append_assoc l (flat xs) (flat ys))

flat_lists : (bs : List Judged) → flat (entries_of bs) ≡ entries_in bs
unfolding flat
flat_lists [] = refl
flat_lists (b ∷ bs) = ap (λ k. b.entries ++ k) (flat_lists bs)

held_split : (h : Held) → accepted_of (entries_in (batches_of h)) ≡ accepted_of (stored_of h) ++ accepted_of (waiting_of h)
held_split Nothing = refl
held_split (Fetched b) = ap accepted_of (append-nil b.entries)
held_split (Failed b) = ap accepted_of (append-nil b.entries)
held_split (Committed b) = ap accepted_of (append-nil b.entries) ∙ sym (append-nil (accepted_of b.entries))
held_split (Published b n) = ap accepted_of (append-nil b.entries) ∙ sym (append-nil (accepted_of b.entries))

shown_shorter : (h : Held) → length (accepted_of (published_entries h)) ≤ length (accepted_of (stored_of h))
shown_shorter Nothing = omega arith
shown_shorter (Fetched b) = omega arith
shown_shorter (Failed b) = omega arith
shown_shorter (Committed b) = omega arith
shown_shorter (Published b n) = omega arith

pub shown_le : (before : List Entry) (h : Held) → length (accepted_of (before ++ published_entries h)) ≤ length (accepted_of (before ++ stored_of h))
shown_le before h =
    omega (
      arith,
      shown_shorter h,
      ap length (accepted_append before (published_entries h)),
      length-append (accepted_of before) (accepted_of (published_entries h)),
      ap length (accepted_append before (stored_of h)),
      length-append (accepted_of before) (accepted_of (stored_of h)),
    )

-- the accepted actions are those that are stored, those of the commit, and the rest
pub history_split : (before fetched sealed : List Judged) (h : Held) (waiting : List (List Entry)) (taking : List Entry) → fetched ≡ before ++ batches_of h → entries_of sealed ≡ entries_of fetched ++ waiting → (rest : List Action) × (accepted_of (entries_in sealed ++ taking) ≡ (accepted_of (entries_in before ++ stored_of h) ++ accepted_of (waiting_of h)) ++ rest)
history_split before fetched sealed h waiting taking held is =
    let all : entries_in sealed ≡ (entries_in before ++ entries_in (batches_of h)) ++ flat waiting =
    sym (flat_lists sealed) ∙ (ap flat is ∙ (flat_append (entries_of fetched) waiting ∙ ap (λ l. l ++ flat waiting) (flat_lists fetched ∙ (ap entries_in held ∙ entries_append before (batches_of h))))) in
    let whole : entries_in sealed ++ taking ≡ (entries_in before ++ entries_in (batches_of h)) ++ (flat waiting ++ taking) =
    ap (λ l. l ++ taking) all ∙ append_assoc (entries_in before ++ entries_in (batches_of h)) (flat waiting) taking in
    let first : accepted_of (entries_in before ++ entries_in (batches_of h)) ≡ accepted_of (entries_in before ++ stored_of h) ++ accepted_of (waiting_of h) =
    accepted_append (entries_in before) (entries_in (batches_of h)) ∙ (ap (λ l. accepted_of (entries_in before) ++ l) (held_split h)
    ∙ (sym (append_assoc (accepted_of (entries_in before)) (accepted_of (stored_of h)) (accepted_of (waiting_of h))) ∙ ap (λ l. l ++ accepted_of (waiting_of h)) (sym (accepted_append (entries_in before) (stored_of h))))) in (
      accepted_of (flat waiting ++ taking),
      ap accepted_of whole ∙ (accepted_append (entries_in before ++ entries_in (batches_of h)) (flat waiting ++ taking) ∙ ap (λ l. l ++ accepted_of (flat waiting ++ taking)) first),
    )

module _ {K D : Type 0} {g : Ghosts K D} {d : Disk.Ghosts D} where
  -- the stored plant, and the one of the commit
  pub stored_prefix : (w : World) (p : Pipeline K D g d) → MatchesWorld w p → IsPrefixPlant w.base w.accepted w.floor (g.state p.flusher.store).stored × IsPrefixPlant w.base w.accepted w.floor (run (g.state p.flusher.store).stored (accepted_of (waiting_of p.flusher.held)))
  stored_prefix w p f =
      let l = f.lists in
      let before = entries_in (fetched_of p.flusher.before.value) in
      let stored = accepted_of (before ++ stored_of p.flusher.held) in
      let waiting = accepted_of (waiting_of p.flusher.held) in
      let split = history_split (fetched_of p.flusher.before.value) (fetched_of p.flusher.fetch) (sealed_of p.sequencer.ends) p.flusher.held w.sealed p.sequencer.batch.entries p.flusher.held_is f.batches.waiting in
      let plant : (g.state p.flusher.store).stored ≡ run w.base w.stored =
      p.flusher.stored ∙ (ap (λ (q : Condensed). run q stored) l.stored_from ∙ (sym (run_append w.base l.opened stored) ∙ ap (run w.base) (sym l.kept))) in
      let whole : (w.stored ++ waiting) ++ split.0 ≡ w.accepted =
      ap (λ x. (x ++ waiting) ++ split.0) l.kept ∙ (ap (λ x. x ++ split.0) (append_assoc l.opened stored waiting) ∙ (append_assoc l.opened (stored ++ waiting) split.0 ∙ (ap (λ x. l.opened ++ x) (sym split.1) ∙ sym l.all))) in
      let prefix : w.stored ++ (waiting ++ split.0) ≡ w.accepted = sym (append_assoc w.stored waiting split.0) ∙ whole in
      let enough : w.floor ≤ w.base.panel.count + length w.stored =
      omega (arith, l.enough, ap length l.shown, ap length l.kept, length-append l.opened stored, length-append l.opened (accepted_of (before ++ published_entries p.flusher.held)), shown_le before p.flusher.held) in (
        subst (IsPrefixPlant w.base w.accepted w.floor) (sym plant) (prefix_is w.base w.accepted w.floor w.stored (waiting ++ split.0) prefix enough),
        subst (IsPrefixPlant w.base w.accepted w.floor) (sym (ap (λ (q : Condensed). run q waiting) plant ∙ sym (run_append w.base w.stored waiting)))
            (prefix_is w.base w.accepted w.floor (w.stored ++ waiting) split.0 whole (omega (arith, enough, length-append w.stored waiting))),
      )

  pub headline : (w : World) (p : Pipeline K D g d) → MatchesWorld w p
      → ((image : List ℕ) → IsImage (d.state (g.disk p.flusher.store)) image → ∥ g.recovers image (g.state p.flusher.store).stored ⊎ g.recovers image (g.state p.flusher.store).next ∥₁)
      → ((image : List ℕ) (p q : Condensed) → g.recovers image p → g.recovers image q → p ≡ q)
      → ((image : List ℕ) (p : Condensed) → AreBytes image → g.recovers image p → KeepsRules p)
      → Headline g.recovers g.spent w (d.state (g.disk p.flusher.store))
  headline w p f stands one rules image is =
      let st = p.flusher.store in
      let both = stored_prefix w p f in
      let waiting = accepted_of (waiting_of p.flusher.held) in
      let ActionPrefix = IsPrefixPlant w.base w.accepted w.floor in
      let next : ActionPrefix (g.state st).next = ∥∥₁_elim p.flusher.either (prefix_prop w.base w.accepted w.floor (g.state st).next) (⊎_elim
      (λ (same : (g.state st).next ≡ (g.state st).stored). subst ActionPrefix (sym same) both.0)
      (λ (more : (g.state st).next ≡ run (g.state st).stored waiting). subst ActionPrefix (sym more) both.1)) in
      safe_by g.recovers w.base w.accepted w.floor (g.state st).stored (g.state st).next image is.bytes both.0 next (stands image is) one rules
