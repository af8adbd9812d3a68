use Rattle.std.proofs.Common.{◌≡◌, ◌↔◌, ◌∙◌, [], length, sym, ap, subst, arith}
use Rattle.std.proofs.Math.Logic.{∥∥₁_map}
use Rattle.alm_model.specs.Judging.{accepted_of, entries_in}
use Rattle.alm_moments.specs.Moments.{moment_of, now_of}
use Rattle.alm_flush.specs.Flushes.{IsGivenUp}
use Rattle.alm_rings.specs.Batches.{fetched_of}
use Rattle.alm_threads.proofs.recorded_flusher.RecordedFlusher.new.Goals as goal

pub invariant_of-result-clause-base : goal.invariant_of-result-clause-base
invariant_of-result-clause-base g c = c.requires.named.base ∙ (c.requires.stored ∙ ap g.B.Board.base (sym c.new-flusher.ensures.parts.1))

pub invariant_of-result-clause-honest : goal.invariant_of-result-clause-honest
invariant_of-result-clause-honest g c =
    ∥∥₁_map c.requires.named.honest (λ p h. subst (λ (k : _). g.K.Device.Disk.honest (g.K.Store.disk k)) (sym c.new-flusher.ensures.parts.0) (p.0 h))

pub invariant_of-result-clause-recovers : goal.invariant_of-result-clause-recovers
invariant_of-result-clause-recovers g c = c.requires.named.recovers

pub invariant_of-result-clause-last : goal.invariant_of-result-clause-last
invariant_of-result-clause-last g c =
    let j = g.J.RunId in
    let s = g.K.Store in
    let f = c.new-flusher.result in
    let parts = c.new-flusher.ensures.parts in
    let device = g.K.Device.Disk.state (s.disk f.store) in
    let floor : j.base.panel.count ≡ c.count-floor.result = omega (arith, c.count-floor.ensures, ap (λ q. q.panel.count) c.requires.named.base) in
    ap (λ l. now_of j.base j.first l) c.requires.recorder
    ∙ (ap (λ d. moment_of d [] j.base.panel.count) (c.requires.named.device ∙ ap (λ k. g.K.Device.Disk.state (s.disk k)) (sym parts.0))
    ∙ (ap (λ l. moment_of device (accepted_of (entries_in l)) j.base.panel.count) (sym c.requires.fetched ∙ ap fetched_of (sym parts.3))
    ∙ ap (λ n. moment_of device (accepted_of (entries_in (fetched_of f.fetch))) n) floor))

pub invariant_of-result-clause-stored : goal.invariant_of-result-clause-stored
invariant_of-result-clause-stored g c =
    omega (arith, c.count-floor.ensures, ap (λ q. q.panel.count) c.requires.named.base)

pub invariant_of-result-clause-stopped : goal.invariant_of-result-clause-stopped
invariant_of-result-clause-stopped g c = λ phase. absurd (cc (sym c.requires.idle ∙ (ap (λ k. (g.K.Store.state k).phase) (sym c.new-flusher.ensures.parts.0) ∙ phase)))

pub invariant_of-result-clause-given_up : goal.invariant_of-result-clause-given_up
invariant_of-result-clause-given_up g c = λ up. absurd (subst IsGivenUp c.new-flusher.ensures.held.0 up)

pub invariant_of-result-clause-count : goal.invariant_of-result-clause-count
invariant_of-result-clause-count g c = omega (arith, ap (λ k. g.K.Device.Disk.failures (g.K.Store.disk k)) (c.of-first.ensures ∙ sym c.new-flusher.ensures.parts.0))

pub invariant_of-result-clause-device : goal.invariant_of-result-clause-device
invariant_of-result-clause-device g c = c.requires.named.device ∙ ap (λ k. g.K.Device.Disk.state (g.K.Store.disk k)) (sym c.of-first.ensures)

pub invariant_of-result-clause-premise : goal.invariant_of-result-clause-premise
invariant_of-result-clause-premise g c = subst (λ (k : _). ∥ (g.J.RunId.honest ↔ g.K.Device.Disk.honest (g.K.Store.disk k)) ∥₁) (sym c.of-first.ensures) c.requires.named.honest

pub invariant_of-result-clause-shown : goal.invariant_of-result-clause-shown
invariant_of-result-clause-shown g c =
    omega (
      arith,
      c.count-floor.ensures,
      ap (λ q. q.panel.count) c.requires.named.base,
      ap length (ap g.B.Board.published c.new-flusher.ensures.parts.1 ∙ c.requires.new_board.0),
    )
