-- What a world says of its pipeline.
use Rattle.std.proofs.Common.{zero, suc, Some, slice_get, ◌≡◌, inl, inr, ◌∙◌, ◌++◌, ◌∷◌, [], ◌≤◌, ◌<◌, ℕ, List, length, refl, sym, ap, arith}
use Rattle.std.proofs.Props.{props}
use Rattle.std.proofs.Math.Logic.{∥∥₁_elim}
use Rattle.std.proofs.lemmas.Bool.{cases_lt}
use Rattle.alm_types.specs.declared.entry.Entry.{Entry}
use Rattle.alm_model.specs.Plant.{Condensed}
use Rattle.alm_model.specs.Step.{run}
use Rattle.alm_model.specs.Judging.{accepted_of, entries_in}
use Rattle.alm_model.proofs.Runs.{run_append}
use Rattle.alm_disk.specs.Failures.{HasFailed}
use Rattle.alm_disk.specs.declared.disk.Disk
use Rattle.alm_rings.specs.Batches.{fetched_of}
use Rattle.alm_store.specs.declared.store.Store.{Ghosts}
use Rattle.alm_seq.specs.Sequences.{live_of, history_of}
use Rattle.alm_flush.specs.declared.held.Held as H
use Rattle.alm_flush.specs.declared.held.Held.TheVariants as V
use Rattle.alm_flush.specs.HeldBatch.{stored_of, to_commit, waiting_of}
use Rattle.alm_pipeline.specs.declared.pipeline.Pipeline.{Pipeline}
use Rattle.alm_pipeline.specs.World.{World, Nothing, Held, live}
use Rattle.alm_flush.specs.Flushes.{IsGivenUp}
use Rattle.alm_pipeline.specs.Matches.{MatchesWorld, stage_of}
use Rattle.alm_stack.specs.Stacks.{sent_to}

stands_at : {E : Type 0} (xs : List E) (n : ℕ) → n < length xs → (e : E) × (slice_get xs n ≡ Some e)
stands_at [] n less = absurd (omega (arith, less))
stands_at (x ∷ xs) zero less = (x, refl)
stands_at (x ∷ xs) (suc n) less = stands_at xs n (omega (arith, less))

module _ {K D : Type 0} {g : Ghosts K D} {d : Disk.Ghosts D} where
  pub lives : (w : World) (p : Pipeline K D g d) → MatchesWorld w p → live_of p.sequencer ≡ live w
  lives w p f =
      let history = accepted_of (history_of p.sequencer) in
      ap (λ (b : Condensed). run b history) f.lists.judged_from ∙ (sym (run_append w.base f.lists.opened history) ∙ ap (run w.base) (sym f.lists.all))

  pub stored_as : (w : World) (p : Pipeline K D g d) → MatchesWorld w p → (g.state p.flusher.store).stored ≡ run w.base w.stored
  stored_as w p f =
      let l = f.lists in
      let stored = accepted_of (entries_in (fetched_of p.flusher.before.value) ++ stored_of p.flusher.held) in
      p.flusher.stored ∙ (ap (λ (q : Condensed). run q stored) l.stored_from ∙ (sym (run_append w.base l.opened stored) ∙ ap (run w.base) (sym l.kept)))

  -- how many requests a slot has sent
  pub sent_by : (w : World) (p : Pipeline K D g d) (slot : ℕ) → slot < 18 → MatchesWorld w p → length (w.sent slot) ≡ sent_to (slice_get p.consoles.items slot)
  sent_by w p slot few f =
      let there = stands_at p.consoles.items slot (omega (arith, few, p.count)) in
      sym (ap length (f.slots.requests slot there.0 there.1)) ∙ sym (ap sent_to there.1)

-- ---- the batch that is held

pub none_waits : (h : H.Held) → stage_of h ≡ Nothing → accepted_of (waiting_of h) ≡ []
none_waits V.Nothing is = refl
none_waits (V.Fetched b) is = absurd (cc is)
none_waits (V.Failed b) is = absurd (cc is)
none_waits (V.Committed b) is = refl
none_waits (V.Published b n) is = refl

pub held_waits : (h : H.Held) (entries : List Entry) → stage_of h ≡ Held entries → accepted_of (waiting_of h) ≡ accepted_of entries
held_waits V.Nothing entries is = absurd (cc is)
held_waits (V.Fetched b) entries is = let same : b.entries ≡ entries = cc is in ap accepted_of same
held_waits (V.Failed b) entries is = let same : b.entries ≡ entries = cc is in ap accepted_of same
held_waits (V.Committed b) entries is = absurd (cc is)
held_waits (V.Published b n) entries is = absurd (cc is)

pub held_commits : (h : H.Held) (entries : List Entry) → ¬ (IsGivenUp h) → stage_of h ≡ Held entries → to_commit h ≡ accepted_of entries
held_commits V.Nothing entries trying is = absurd (cc is)
held_commits (V.Fetched b) entries trying is = let same : b.entries ≡ entries = cc is in ap accepted_of same
held_commits (V.Failed b) entries trying is = absurd (trying tt)
held_commits (V.Committed b) entries trying is = absurd (cc is)
held_commits (V.Published b n) entries trying is = absurd (cc is)

-- a failure since an earlier count
pub fails_since : (a b c : ℕ) → a ≤ b → b ≤ c → HasFailed b c → HasFailed a c
fails_since a b c before later failed = elim failed [
  | inl less ↦ inl (omega (arith, before, less))
  | inr last ↦ elim (cases_lt a c) [
    | inl less ↦ inl less
    | inr not_less ↦ (let same : a ≡ b = omega (arith, before, later, not_less) in inr (same ∙ last))
  ]
]

pub failed_is : (a b : ℕ) → a ≤ b → ∥ HasFailed a b ∥₁ → HasFailed a b
failed_is a b before failed = elim (cases_lt a b) [
  | inl less ↦ inl less
  | inr not_less ↦ inr (∥∥₁_elim failed (hlevel props) (λ f. elim f [ inl less ↦ absurd (omega (arith, less, not_less)) | inr last ↦ last ]))
]
