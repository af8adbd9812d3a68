-- For the proofs.
-- How large the chains and the measure of the benchmarks are.
use Rattle.std.specs.Prelude.{ℕ, ◌≡◌, length}
use Rattle.alm_links.specs.Lists.{Families, family_at}
use Rattle.alm_measure.specs.Metrics.{Metrics}

-- one family of this number of lists over this number of nodes
pub record IsOfSizes (nodes lists : ℕ) (c : Families) : Type 0 where
  pub one_family : length c.families ≡ 1
  pub all_nodes : c.nodes ≡ nodes
  pub all_lists : length (family_at c.families 0) ≡ lists

-- 16,384 alarms in 64 areas
pub record IsSized (m : Metrics) : Type 0 where
  pub alarms : length m.areas ≡ 16384
  pub areas : length m.ages ≡ 64
