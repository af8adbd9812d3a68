-- How fast an open checkpoint goes out, so that the half that stands takes every batch.
use Rattle.std.specs.Prelude.{◌≡◌, ◌⊎◌, ℕ, ◌+◌, ◌*◌, ◌≤◌, Option, Some, None}
use Rattle.alm_store.specs.declared.phase.Phase.{Phase}
use Rattle.alm_store.specs.declared.phase.Phase.TheVariants.{Committing}

-- the longest piece of a checkpoint, in bytes
abbrev pub most : ℕ
most = 65536

-- the longest frame, from its gate up to the next gate, and the largest image
abbrev pub longest : ℕ
longest = 4115

abbrev pub largest : ℕ
largest = 3289168

-- the shortest segment with which a store that keeps its pace takes every batch
abbrev pub least_segment : ℕ
least_segment = 452651

-- the most device calls of a work
abbrev pub most_calls : ℕ
most_calls = 320

-- an open checkpoint: the bytes of the frames committed since its copy, and how many pieces of it went out
pub record Going : Type 0 where
  pub since : ℕ
  pub pieces : ℕ

-- what goes out of it before the closed gate has at most this number of bytes
abbrev pub open_len : Going → ℕ
open_len g = 24 + largest + g.since

-- a piece went out since the last commit's end, or before the commit that is under way
abbrev pub IsPieceAhead : Phase → (written : ℕ) → Type 0
IsPieceAhead phase written = (phase ≡ Committing) ⊎ (1 ≤ written)

-- the commits since its copy don't overtake its pieces. When it was copied at most half of the segment was used, except for one
-- frame, and before each commit a piece went out
pub record Paced (segment used : ℕ) (ahead : Type 0) (g : Going) : Type 0 where
  pub commits : ℕ
  pub half : 2 * used ≤ segment + 2 * (longest * (commits + 1))
  pub frames : g.since ≤ longest * commits
  pub sent : commits ≤ g.pieces
  pub next : ahead → commits + 1 ≤ g.pieces
  -- each of these pieces is a whole one, since the last one comes after the commits
  pub whole : most * commits ≤ open_len g

-- if no checkpoint is open at most half of the segment is used
abbrev pub IsInPace : (segment : ℕ) → Phase → (used written : ℕ) → Option Going → Type 0
IsInPace segment phase used written None = 2 * used ≤ segment
IsInPace segment phase used written (Some g) = Paced segment used (IsPieceAhead phase written) g
