-- A store that keeps its pace takes every batch.
use Rattle.std.proofs.Common.{ℕ, ◌+◌, ◌≤◌, Option, Some, None, arith}
use Rattle.alm_store.specs.declared.phase.Phase.{Phase}
use Rattle.alm_store.specs.Pace.{Going, Paced, IsInPace, IsPieceAhead, longest}
use Rattle.alm_store.specs.Pacing.{KeepsPace, TakesAny}
use Rattle.alm_store.specs.State.{StoreState}

-- at most 53 commits come into one checkpoint
pub at_most : (segment used : ℕ) (ahead : Type 0) (g : Going) (p : Paced segment used ahead g) → p.commits ≤ 53
at_most segment used ahead g p = omega (arith, p.frames, p.whole)

-- .. and so the half that stands takes any batch
takes_any_by : (segment : ℕ) (phase : Phase) (used written : ℕ) (going : Option Going) → 452651 ≤ segment → IsInPace segment phase used written going → used + longest + 1 ≤ segment
takes_any_by segment phase used written None long keeps = omega (arith, long, keeps)
takes_any_by segment phase used written (Some g) long keeps = omega (arith, long, keeps.half, at_most segment used (IsPieceAhead phase written) g keeps)

pub takes_any : (s : StoreState) → 452651 ≤ s.segment → KeepsPace s → TakesAny s
takes_any s long keeps = takes_any_by s.segment s.phase s.used s.written s.going long keeps
