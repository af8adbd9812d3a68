-- For the proofs.
-- How a store keeps its pace between a commit and the checkpoint that is opened after it.
use Rattle.std.specs.Prelude.{◌≡◌, ◌⊎◌, ℕ, ◌+◌, ◌*◌, ◌≤◌, Option, Some, None}
use Rattle.alm_store.specs.Pace.{Going, Paced, IsPieceAhead, longest}
use Rattle.alm_store.specs.State.{StoreState}
use Rattle.alm_store.specs.declared.phase.Phase.{Phase}

-- if no checkpoint is open, more than half of the segment may be used by one frame that was committed now
abbrev pub IsNearPace : (segment : ℕ) → Phase → (used written : ℕ) → Option Going → Type 0
IsNearPace segment phase used written None = (2 * used ≤ segment) ⊎ ((written ≡ 0) × (2 * used ≤ segment + 2 * longest))
IsNearPace segment phase used written (Some g) = Paced segment used (IsPieceAhead phase written) g

abbrev pub NearPace : StoreState → Type 0
NearPace s = IsNearPace s.segment s.phase s.used s.written s.going
