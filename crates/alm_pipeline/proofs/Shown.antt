-- The board shows the world's published plant.
use Rattle.std.proofs.Common.{◌≡◌, ◌≤◌, ◌+◌, ◌∙◌, ◌++◌, ℕ, inl, inr, max, length, Result, Ok, Err, ap, sym, refl, subst, IsOk}
use Rattle.std.proofs.Math.Nat.{max-le}
use Rattle.alm_disk.specs.declared.disk.Disk
use Rattle.alm_store.specs.declared.store.Store.{Ghosts}
use Rattle.alm_model.specs.Step.{run}
use Rattle.alm_model.specs.Judging.{accepted_of, entries_in}
use Rattle.alm_model.proofs.Runs.{run_append}
use Rattle.alm_rings.specs.Batches.{fetched_of}
use Rattle.alm_board.specs.Logs.{actions_of}
use Rattle.alm_flush.specs.HeldBatch.{published_entries}
use Rattle.alm_pipeline.specs.declared.pipeline.Pipeline.{Pipeline}
use Rattle.alm_types.specs.declared.answer.Answer.{Answer}
use Rattle.alm_types.specs.declared.query.Query.{Query}
use Rattle.alm_types.specs.declared.refusal.Refusal.{Refusal}
use Rattle.alm_types.specs.declared.refusal.Refusal.TheVariants.{OutOfMemory}
use Rattle.alm_model.specs.Plant.{Condensed}
use Rattle.alm_model.specs.Look.{look, IsLook}
use Rattle.alm_pipeline.specs.declared.step.Step.TheVariants.{Look}
use Rattle.alm_pipeline.specs.declared.step_event.StepEvent.TheVariants.{Skipped}
use Rattle.alm_pipeline.specs.World.{World, shown_in}
use Rattle.alm_pipeline.specs.Headline.{Moves}
use Rattle.alm_pipeline.specs.Matches.{MatchesWorld, MatchesOpenWorld, sight_in}

pub was_ok : {A E : Type 0} (r : Result A E) (x : A) → r ≡ Ok x → IsOk r
was_ok r x is = subst IsOk (sym is) refl

module _ {K D : Type 0} {g : Ghosts K D} {d : Disk.Ghosts D} where
  pub shown_plant : (w : World) (p : Pipeline K D g d) → MatchesWorld w p → run p.flusher.board.base.value (actions_of p.flusher.board.log) ≡ shown_in w
  shown_plant w p f =
      let l = f.lists in
      let log = actions_of p.flusher.board.log in
      let shown = accepted_of (entries_in (fetched_of p.flusher.before.value) ++ published_entries p.flusher.held) in
      ap (λ b. run b log) l.stored_from ∙ (sym (run_append w.base l.opened log) ∙ (ap (λ x. run w.base (l.opened ++ x)) p.flusher.published ∙ ap (run w.base) (sym l.shown)))

  -- a look only raises the floor
  pub looked_at : (w : World) (p : Pipeline K D g d) (count : ℕ) → count ≤ w.base.panel.count + length w.published → MatchesOpenWorld w p → MatchesOpenWorld (record w { floor = max w.floor count }) p
  looked_at w p count few o =
      let f = o.fits in
      let l = f.lists in
      record {
        opened = o.opened;
        going = o.going;
        trying = o.trying;
        fits = record {
          slots = f.slots;
          batches = f.batches;
          lists = record { opened = l.opened; judged_from = l.judged_from; stored_from = l.stored_from; all = l.all; kept = l.kept; shown = l.shown; enough = max-le l.enough few };
        };
      }

not_ok : {A E : Type 0} (r : Result A E) (e : E) → r ≡ Err e → ¬ (IsOk r)
not_ok {A = A} r e is ok = let bad : IsOk {T = A} (Err e) = subst IsOk is ok in absurd (cc bad)

module _ {K D : Type 0} {g : Ghosts K D} {d : Disk.Ghosts D} where
  -- a look that is possible is skipped only if a growth was refused
  pub skips : (w : World) (slot : ℕ) (p : Pipeline K D g d) (q : Condensed) (query : Query) (refusal : Refusal) (before after : Answer) → q ≡ shown_in w → IsLook q query before after (Err refusal)
      → Moves g.recovers g.spent w (Look slot query) Skipped (sight_in before.refused p) (sight_in after.refused p)
  skips w slot p q query OutOfMemory before after shows is = inr (ap (λ n. sight_in n p) is.1.2)
  skips w slot p q query refusal before after shows is =
      inl ((λ possible. not_ok (look q query) refusal is.0 (subst (λ x. IsOk (look x query)) (sym shows) possible.1)), ap (λ (a : Answer). sight_in a.refused p) is.1)

  pub same_sight : (n : ℕ) (p q : Pipeline K D g d) → q.flusher.store ≡ p.flusher.store → sight_in n q ≡ sight_in n p
  same_sight n p q same = ap (λ k. record { state = d.state (g.disk k); failures = d.failures (g.disk k); phase = (g.state k).phase; refused = n }) same
