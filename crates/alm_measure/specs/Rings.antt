-- For the proofs.
-- The counts of the last seconds that a ring holds.
use Rattle.std.specs.Prelude.{◌≡◌, ℕ, ◌<◌, List, ◌++◌, drop, length, sum, take}

-- the counts from the place of the present second on, round the ring
abbrev pub rotated : ℕ → List ℕ → List ℕ
rotated present counts = drop present counts ++ take present counts

-- the present second has a place, and the total is that of all seconds
pub record IsAgeRing (counts : List ℕ) (present total : ℕ) : Type 0 where
  pub seconds : length counts ≡ 600
  pub place : present < 600
  pub all : total ≡ sum (rotated present counts)
