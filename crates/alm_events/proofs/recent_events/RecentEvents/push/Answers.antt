use Rattle.std.proofs.Common.{◌≡◌, ◌<◌, ◌+◌, ◌++◌, ◌∷◌, [], List, ℕ, length, ap, ◌∙◌, arith}
use Rattle.std.specs.Prelude.{slice_set}
use Rattle.alm_types.specs.declared.event.Event.{Event}
use Rattle.alm_events.specs.Events.{most_kept, last}
use Rattle.alm_events.specs.Turning.{turned}
use Rattle.alm_events.proofs.Turns.{overwritten_within, overwritten_last}
use Rattle.alm_events.proofs.recent_events.RecentEvents.push.Goals as goal
use Rattle.alm_events.proofs.recent_events.RecentEvents.push.Goals.{then-place-lt-MOST_KEPT, else-place-lt-MOST_KEPT}

-- what is kept of a full list, by where the next place is
kept_within : (at next : ℕ) (xs v : List Event) (y : Event) → turned at xs ≡ v → length xs ≡ most_kept → at < length xs → next ≡ at + 1 → turned next (slice_set xs at y) ≡ last most_kept (v ++ y ∷ [])
kept_within at next xs v y is full within step =
    ap (λ n. turned n (slice_set xs at y)) step
    ∙ (overwritten_within at xs y within
    ∙ (ap (λ n. last n (turned at xs ++ y ∷ [])) full ∙ ap (λ l. last most_kept (l ++ y ∷ [])) is))

kept_last : (at next : ℕ) (xs v : List Event) (y : Event) → turned at xs ≡ v → length xs ≡ most_kept → at + 1 ≡ length xs → next ≡ 0 → turned next (slice_set xs at y) ≡ last most_kept (v ++ y ∷ [])
kept_last at next xs v y is full end step =
    ap (λ n. turned n (slice_set xs at y)) step
    ∙ (overwritten_last at xs y end
    ∙ (ap (λ n. last n (turned at xs ++ y ∷ [])) full ∙ ap (λ l. last most_kept (l ++ y ∷ [])) is))

pub returns : goal.returns
returns c =
    let xs = c.self.inside.events.items in
    let at = c.self.inside.oldest in
    let full : length c.self.inside.events.items ≡ most_kept = omega (arith, c.if-len-lt-MOST_KEPT.false, c.len.ensures, c.self.invariant.1, c.self.inside.events.ok.0) in
    elim c.if-place-lt-MOST_KEPT.branch [
      | then-place-lt-MOST_KEPT w ↦ kept_within at c.if-place-lt-MOST_KEPT.self xs c.args.self.now c.args.event c.self.view_is full (omega (arith, full, c.self.invariant.2)) w.self-is
      | else-place-lt-MOST_KEPT w ↦ kept_last at c.if-place-lt-MOST_KEPT.self xs c.args.self.now c.args.event c.self.view_is full (omega (arith, full, w.if-place-lt-MOST_KEPT.false, c.self.invariant.2)) w.self-is
    ]
