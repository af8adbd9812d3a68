use Rattle.std.proofs.Common.{◌≡◌, ◌⊎◌, ◌≤◌, ℕ, List, ◌++◌, ◌+◌, ◌∙◌, length, ap, subst, sym, arith}
use Rattle.alm_disk.specs.Device.{IsImage}
use Rattle.alm_model.specs.Judging.{accepted_of, entries_in}
use Rattle.alm_model.specs.Plant.{Condensed}
use Rattle.alm_model.specs.Step.{run}
use Rattle.alm_moments.specs.Moments.{AreMoments}
use Rattle.alm_rings.specs.Batches.{fetched_of}
use Rattle.alm_flush.specs.HeldBatch.{stored_of, released_entries, waiting_of}
use Rattle.alm_threads.specs.Moments.{Endures}
use Rattle.alm_threads.proofs.Histories.{ahead_prefix, kept_prefix, one_of, told_kept}
use Rattle.alm_threads.proofs.Moments.{endures_of, released_shown}
use Rattle.alm_threads.proofs.ending.close_flusher.Goals as goal

pub returns-clause-flushed : goal.returns-clause-flushed
returns-clause-flushed g c =
    let j = g.J.RunId in
    let s = g.K.Store in
    let d = g.K.Device.Disk in
    let r = c.args.flusher in
    let f = r.flusher in
    let before = fetched_of f.before.value in
    let told = entries_in before ++ released_entries f.held in
    let stored = (s.state r.first.value).stored in
    let base = sym c.requires.base in
    let named : j.base ≡ stored = r.base ∙ base in
    let images = subst (λ (k : _). (d.honest (s.disk k)) → (b : List ℕ) → IsImage (d.state (s.disk k)) b → ∥ s.recovers b (s.state k).stored ⊎ s.recovers b (s.state k).next ∥₁) c.keeper-stored.ensures.keeper c.images.ensures.stands in
    let list = accepted_of (entries_in (fetched_of f.fetch)) in
    let number = stored.panel.count + length (accepted_of told) in
    let reaches : number ≤ r.floor = omega (arith, r.shown, released_shown before f.held (g.B.Board.published f.board) f.published, ap (λ q. q.panel.count) named) in
    let course : Endures (d.honest (s.disk r.first.value)) s.recovers j.base j.first (d.state (s.disk f.store)) r.recorder list number =
    endures_of j.honest (d.honest (s.disk r.first.value)) j.recovers s.recovers j.base j.first (d.state (s.disk f.store)) r.recorder list r.floor number
    r.premise r.recovers reaches (subst (λ l. AreMoments j.honest j.recovers j.base j.first l) c.into_ends-board.ensures.moments c.stands.ensures) r.last in
    rw (c.into_ends-board.ensures.parts.0, c.into_ends-board.ensures.parts.1, c.into_ends-board.ensures.parts.2, c.into_ends-board.ensures.moments) (record {
      kept = entries_in before ++ stored_of f.held;
      fetched = kept_prefix before f.held (fetched_of f.fetch) f.held_is;
      stored_is = f.stored ∙ ap (λ q. run q (accepted_of (entries_in before ++ stored_of f.held))) base;
      waiting = waiting_of f.held;
      ahead = ahead_prefix before f.held (fetched_of f.fetch) f.held_is;
      device = (c.requires.honest, λ h b is. one_of (s.recovers b) (s.state f.store).stored (s.state f.store).next _ (images h b is) f.either);
      told = told;
      within = told_kept before f.held;
      course = subst (λ x. Endures (d.honest (s.disk r.first.value)) s.recovers stored x (d.state (s.disk f.store)) r.recorder list number) r.device
          (subst (λ (q : Condensed). Endures (d.honest (s.disk r.first.value)) s.recovers q j.first (d.state (s.disk f.store)) r.recorder list number) named course);
      released = f.released;
      numbers = c.keeper-stored.ensures.numbers;
    })
